use Rattle.std.proofs.Common.{◌≡◌, drop}
use Rattle.farm_orders.specs.Orders.{before_close}
use Rattle.farm_threads.proofs.FeedSteps.{IsFeeding}
use Rattle.farm_threads.proofs.feeder.feed.Given as goal

-- a job was put for each order so far
abbrev pub invariant-loop-order : goal.invariant-loop-order
invariant-loop-order g l =
    IsFeeding l.gate.size.total l.initial.seat l.slot (before_close l.order-items) l.initial.jobs l.order-index l.seat l.jobs
    × (before_close (drop l.order-index l.order-items) ≡ drop l.order-index (before_close l.order-items))
    × (l.position ≡ l.order-index)
