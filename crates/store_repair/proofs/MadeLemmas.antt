-- What an attempt that made no files says of what was made.
use Rattle.store_repair.specs.Repaired.{IfMade, IfNotMade, IsNotMade}
use Rattle.store_repair.specs.declared.making.Attempt.{Attempt}
use Rattle.store_repair.specs.declared.making.Attempt.TheVariants as attempt
use Rattle.store_repair.specs.declared.making.Made.{Made}

-- anything
pub none_made : {N : Type 0} (P : Made N → Type 0) (a : Attempt N) → IsNotMade a → IfMade P a
none_made P (attempt.Made made) none = absurd none
none_made P (attempt.LeaveOut place guess) none = tt
none_made P attempt.GivenUp none = tt

-- what holds in any case holds where none were made
pub not_made : {N : Type 0} (P : Type 0) (a : Attempt N) → P → IfNotMade P a
not_made P (attempt.Made made) holds = tt
not_made P (attempt.LeaveOut place guess) holds = holds
not_made P attempt.GivenUp holds = holds
