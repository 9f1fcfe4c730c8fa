-- Sums of terms in a room.
use Rattle.std.specs.Prelude.{ℕ, List}
use Rattle.lrc_field.specs.declared.terms.Term.{Term}
use Rattle.lrc_field.specs.Blocks.{AreSet}
use Rattle.lrc_field.specs.Combined.{sum_at}

-- the bytes before an index are the terms' sums there
abbrev pub IsWritten : List Term → List ℕ → ℕ → Type 0
IsWritten ts bytes i = AreSet (sum_at ts) bytes i
