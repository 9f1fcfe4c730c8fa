-- What the parts of a plan say: rows that give the target, and the checks of the first rows.
use Rattle.std.specs.Prelude.{ℕ, if◌then◌else◌, ◌≡◌, Bool}
use Rattle.lrc_code.specs.declared.places.Place.{Place}
use Rattle.lrc_code.specs.declared.places.Place.TheVariants.{Px, Py}
use Rattle.lrc_code.specs.declared.places.Group.{Group}
use Rattle.lrc_code.specs.declared.places.Group.TheVariants as group
use Rattle.lrc_code.specs.Places.{same_place}
use Rattle.lrc_code.specs.Code.{Code, Solves}
use Rattle.lrc_code.specs.Sums.{GivesBytes}
use Rattle.lrc_plan.specs.Rows.{dot, GiveTarget}

-- the local parity of the other group
abbrev pub other_parity : Group → Place
other_parity group.X = Py
other_parity group.Y = Px

-- coefficients whose sum is 0 for all bytes of the code, with 1 at the target and 0 at all other lost places
pub record IsTargetRow (code : Code) (survives : Place → Bool) (target : Place) (c : Place → ℕ) : Type 0 where
  pub one : c target ≡ 1
  pub clear : GiveTarget survives c target
  pub holds : (e : Place → ℕ) → GivesBytes e → Solves code.equations code.places e → dot c e ≡ 0

-- the coefficients without the target's
abbrev pub cut : (Place → ℕ) → Place → Place → ℕ
cut c t p = if same_place t p then 0 else c p
