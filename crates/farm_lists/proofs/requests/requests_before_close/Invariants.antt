use Rattle.std.proofs.Common.{◌≡◌, ◌++◌, drop, map}
use Rattle.farm_lists.specs.Requests.{listed_before_close}
use Rattle.farm_lists.proofs.requests.requests_before_close.Given as goal

abbrev pub invariant-loop-record : goal.invariant-loop-record
invariant-loop-record l = listed_before_close l.list ≡ map (λ r. r.now) l.requests.items ++ listed_before_close (drop l.record-index l.list)
