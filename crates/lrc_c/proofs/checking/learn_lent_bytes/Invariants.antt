use Rattle.std.proofs.Common.{ℕ, ◌<◌, get_or}
use Rattle.lrc_code.specs.Code.{AreBytes}
use Rattle.lrc_c.specs.declared.lent.Lent.{Lent}
use Rattle.lrc_c.proofs.checking.learn_lent_bytes.Given as goal

abbrev pub invariant-loop-one : goal.invariant-loop-one
invariant-loop-one l = (k : ℕ) (d : Lent) → k < l.one-index → AreBytes (get_or l.at k d).bytes.now
