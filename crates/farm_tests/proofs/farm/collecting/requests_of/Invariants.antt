use Rattle.std.proofs.Common.{◌≡◌, ◌++◌, drop, map}
use Rattle.farm_orders.specs.Orders.{before_close}
use Rattle.farm_tests.proofs.farm.collecting.requests_of.Given as goal

abbrev pub invariant-loop-order : goal.invariant-loop-order
invariant-loop-order g l = before_close l.order-items ≡ map (λ r. r.now) l.requests.items ++ before_close (drop l.order-index l.order-items)
