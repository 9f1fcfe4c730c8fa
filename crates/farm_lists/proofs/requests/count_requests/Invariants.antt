use Rattle.std.proofs.Common.{◌≡◌, ◌+◌, length, drop}
use Rattle.farm_lists.specs.Requests.{listed_before_close}
use Rattle.farm_lists.proofs.requests.count_requests.Given as goal

abbrev pub invariant-loop-record : goal.invariant-loop-record
invariant-loop-record l =
    (l.count ≡ l.record-index)
    × (l.count + length (listed_before_close (drop l.record-index l.list)) ≡ length (listed_before_close l.list))
