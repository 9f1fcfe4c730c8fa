use Rattle.std.proofs.Common.{ℕ, ◌≡◌, ◌<◌, get_or, length}
use Rattle.lrc_c.specs.declared.lent.Lent.{Lent}
use Rattle.lrc_c.proofs.encoding.have_length.Given as goal

abbrev pub invariant-loop-one : goal.invariant-loop-one
invariant-loop-one l = (k : ℕ) (d : Lent) → k < l.one-index → length (get_or l.sources k d).bytes.now ≡ l.len
