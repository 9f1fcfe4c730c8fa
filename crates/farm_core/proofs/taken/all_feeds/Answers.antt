use Rattle.std.proofs.Common.{rules, arith, ◌≡◌, ◌+◌, length, drop}
use Rattle.farm_orders.specs.FedLists.{all_feeds_of}
use Rattle.farm_threads.specs.RunFeeds.{lists_of}
use Rattle.farm_core.proofs.RackRooms.{feeds_rest, feeds_past}
use Rattle.farm_core.proofs.taken.all_feeds.Goals as goal

pub loop-rack-preserved : goal.loop-rack-preserved
loop-rack-preserved c = (
  search rules,
  (let was = c.loop-rack.invariant.1 in
      let lists = lists_of c.args.lists in
      let low = c.loop-rack-test.true in let n = c.racks-rack-end.ensures.count in
      let rest : all_feeds_of (drop c.loop-rack.rack lists) ≡ length c.feeds.result.now + all_feeds_of (drop (c.loop-rack.rack + 1) lists) =
      feeds_rest lists c.loop-rack.rack c.feeds.result.now (omega arith) c.feeds.ensures.all in
      omega arith),
)

pub returns-clause-all : goal.returns-clause-all
returns-clause-all c =
    let was = c.loop-rack.invariant.1 in let low = c.loop-rack-test.false in let n = c.racks-rack-end.ensures.count in
    let past = feeds_past (lists_of c.args.lists) c.loop-rack.rack (omega arith) in omega arith
