use Rattle.std.specs.Prelude.{IfSome}
use Rattle.store_repair.specs.Lengths.{HasFileOf, HaveOneLengthBefore}
use Rattle.store_repair.proofs.lengths.common_length.Given as goal

abbrev pub invariant-loop-index : goal.invariant-loop-index
invariant-loop-index l =
    record {
      before : HaveOneLengthBefore l.code l.files.found l.index l.common;
      some : IfSome l.common (HasFileOf l.code l.files.found);
    }
