use Rattle.std.proofs.Common.{◌≡◌, ◌≤◌, ◌+◌, ◌*◌, drop}
use Rattle.farm_orders.specs.FedLists.{all_feeds_of}
use Rattle.farm_threads.specs.RunFeeds.{lists_of}
use Rattle.farm_core.proofs.taken.all_feeds.Given as goal

-- the feeds so far, and those of the racks that are left
abbrev pub invariant-loop-rack : goal.invariant-loop-rack
invariant-loop-rack l = (l.count ≤ l.rack * 4) × (l.count + all_feeds_of (drop l.rack (lists_of l.lists)) ≡ all_feeds_of (lists_of l.lists))
