use Rattle.std.proofs.Common.{◌≡◌, ◌++◌, ◌+◌, take, map}
use Rattle.farm_reading.specs.Ahead.{named_limit}
use Rattle.farm_lists.specs.Names.{fragment_name}
use Rattle.farm_reading.proofs.fragments.push_fragment_files.Given as goal

abbrev pub invariant-loop-index : goal.invariant-loop-index
invariant-loop-index l = map named_limit l.files.items ≡ map named_limit l.fn.files.items ++ map
    (λ p. (fragment_name l.listed.stripe p, l.listed.len + 1)) (take l.index l.places)
