use Rattle.std.proofs.Common.{◌≡◌, [], take, map}
use Rattle.farm_files.specs.AnsweredRacks.{rack_requests}
use Rattle.farm_files.proofs.batches.none_of_each.Given as goal

abbrev pub invariant-loop-list : goal.invariant-loop-list
invariant-loop-list l = rack_requests l.requests.items ≡ map (λ _. []) (take l._list-index l.lists)
