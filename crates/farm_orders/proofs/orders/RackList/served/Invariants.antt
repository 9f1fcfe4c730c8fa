use Rattle.std.proofs.Common.{◌≡◌, ◌+◌, length, drop}
use Rattle.farm_orders.specs.Orders.{before_close}
use Rattle.farm_orders.proofs.orders.RackList.served.Given as goal

abbrev pub invariant-loop-order : goal.invariant-loop-order
invariant-loop-order l =
    (l.number ≡ l.order-index) × (l.number + length (before_close (drop l.order-index l.order-items)) ≡ length (before_close l.order-items))
