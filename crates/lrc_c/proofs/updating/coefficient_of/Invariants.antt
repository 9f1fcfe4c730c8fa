use Rattle.std.proofs.Common.{◌≡◌, take}
use Rattle.lrc_code.specs.Reduction.{coefficient_at}
use Rattle.lrc_c.proofs.updating.coefficient_of.Given as goal

abbrev pub invariant-loop-i : goal.invariant-loop-i
invariant-loop-i l = l.sum ≡ coefficient_at (take l.i l.places) (take l.i l.row) l.place
