use Rattle.std.proofs.Common.{◌<◌, ◌≤◌, List, length, ap, arith, refl}
use Rattle.farm_orders.specs.Orders.{before_close}
use Rattle.farm_orders.specs.declared.orders.Order.{Order}
use Rattle.farm_reading.proofs.Pieces.{has_close, has_no_close}
use Rattle.farm_files.proofs.Closes.{closes_at, open_all, open_more}
use Rattle.farm_files.proofs.batches.have_close.Goals as goal

pub returns-clause-opened : goal.returns-clause-opened
returns-clause-opened c = λ _. open_all c.args.lists.now c.loop-index.index c.loop-index-test.false c.loop-index.invariant

pub returns-then-served-orders-clause-closed : goal.returns-then-served-orders-clause-closed
returns-then-served-orders-clause-closed c =
    let list : List Order = c.index-lists-index.result in
    let size = ap (λ (os : List Order). length os) c.orders.ensures.all in
    let less : length (before_close list) < length list = omega (arith, size, c.served.ensures.count, c.if-served-orders.true) in
    λ _. closes_at c.args.lists.now c.loop-index.index list c.loop-index-test.true c.index-lists-index.is (has_close list less)

pub loop-index-preserved : goal.loop-index-preserved
loop-index-preserved c =
    let list : List Order = c.index-lists-index.result in
    let size = ap (λ (os : List Order). length os) c.orders.ensures.all in
    let most : length list ≤ length (before_close list) = omega (arith, size, c.served.ensures.count, c.if-served-orders.false) in
    open_more c.args.lists.now c.loop-index.index _ list refl c.index-lists-index.is c.loop-index.invariant
    (λ has. has_no_close list most has)
