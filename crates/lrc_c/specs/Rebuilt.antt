-- The answer for a lost target.
use Rattle.std.specs.Prelude.{ℕ, List, Bool}
use Rattle.lrc_code.specs.declared.places.Place.{Place}
use Rattle.lrc_code.specs.Code.{Code}
use Rattle.lrc_c.specs.declared.rebuilding.Answer.{Answer}
use Rattle.lrc_c.specs.declared.rebuilding.Answer.TheVariants.{Rebuilt, Contradiction, Several}
use Rattle.lrc_plan.specs.Stripes.{IsRebuilt, IsContradiction, AreSeveral}

abbrev pub IsAnswerAt : Code → (Place → Bool) → (Place → List ℕ) → ℕ → Place → Answer → List ℕ → Type 0
IsAnswerAt code survives at len target Rebuilt out = IsRebuilt code survives at len target out
IsAnswerAt code survives at len target Contradiction out = IsContradiction code survives at len
IsAnswerAt code survives at len target Several out = AreSeveral code survives at len target

-- the number that C gets
abbrev pub status_of : Answer → ℕ
status_of Rebuilt = 0
status_of Contradiction = 1
status_of Several = 2
