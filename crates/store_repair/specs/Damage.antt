-- Damage among the survivors of a stripe.
use Rattle.std.specs.Prelude.{◌≡◌, ◌≢◌, ◌⊎◌, ℕ, ◌<◌, List, Bool, true, false, not, ◌&&◌, Option, Some, None, IfSome}
use Rattle.lrc_code.specs.declared.places.Place.{Place}
use Rattle.lrc_code.specs.declared.codes.Code.{Code as CodeName}
use Rattle.lrc_code.specs.Code.{has_place}
use Rattle.lrc_code.specs.Places.{index_of, same_place}
use Rattle.lrc_code.specs.Codes.{tables_of}
use Rattle.lrc_code.specs.Sets.{is_in}
use Rattle.lrc_plan.specs.RowPlans.{IsValueRow}
use Rattle.lrc_plan.specs.Stripes.{at_place, IsContradiction, IsPossible, Keeps}
use Rattle.store_repair.specs.declared.damage.Damage.{Damage}
use Rattle.store_repair.specs.declared.damage.Damage.TheVariants as damage
use Rattle.store_repair.specs.declared.damage.Fits.{Fits}
use Rattle.store_repair.specs.declared.damage.Fits.TheVariants as fits
use Rattle.store_repair.specs.declared.damage.Suspects.{Suspects}

-- the places of a set but one
abbrev pub all_but : (Place → Bool) → Place → Place → Bool
all_but survives p q = survives q && not (same_place p q)

-- a stripe of the code that differs from the survivors at these two places at most
abbrev pub DiffersAtMostAt : CodeName → (Place → Bool) → List (List ℕ) → ℕ → (Place → List ℕ) → Place → Place → Type 0
DiffersAtMostAt code survives at len s e f = Keeps (tables_of code) (all_but (all_but survives e) f) (at_place at) len s

-- a stripe of the code that differs from the survivors in two places at most
abbrev pub DiffersInTwoAtMost : CodeName → (Place → Bool) → List (List ℕ) → ℕ → (Place → List ℕ) → Type 0
DiffersInTwoAtMost code survives at len s = (e : Place) × (f : Place) × DiffersAtMostAt code survives at len s e f

-- a stripe has other bytes at a place than the survivor there
abbrev pub DiffersAt : List (List ℕ) → (Place → List ℕ) → Place → Type 0
DiffersAt at s p = s p ≢ at_place at p

-- without the survivor at a place some stripe of the code has the bytes of the others
abbrev pub FitWithout : CodeName → (Place → Bool) → List (List ℕ) → ℕ → Place → Type 0
FitWithout code survives at len p = IsPossible (tables_of code) (all_but survives p) (at_place at) len

-- and without it none has
abbrev pub ClashWithout : CodeName → (Place → Bool) → List (List ℕ) → ℕ → Place → Type 0
ClashWithout code survives at len p = IsContradiction (tables_of code) (all_but survives p) (at_place at) len

-- the only survivor without which the others belong together
pub record IsDamaged (code : CodeName) (survives : Place → Bool) (at : List (List ℕ)) (len : ℕ) (p : Place) : Type 0 where
  pub survivor : survives p ≡ true
  pub fit : FitWithout code survives at len p
  pub only : (q : Place) → survives q ≡ true → same_place p q ≡ false → ClashWithout code survives at len q

-- A survivor that is damaged whatever at most two of them hold: it is the only one without which the others belong together, and each
-- stripe of the code that differs from the survivors in two places at most differs at it. There is such a stripe.
pub record IsLocated (code : CodeName) (survives : Place → Bool) (at : List (List ℕ)) (len : ℕ) (p : Place) : Type 0 where
  pub damaged : IsDamaged code survives at len p
  pub in_each : (s : Place → List ℕ) → DiffersInTwoAtMost code survives at len s → DiffersAt at s p
  pub in_some : (s : Place → List ℕ) × DiffersInTwoAtMost code survives at len s

-- Survivors among which damage is: they don't belong together, some stripe of the code differs from them in two places at most, and each
-- such stripe differs from the survivors at suspects alone. The single one, where there is one, is the only survivor without which the
-- others belong together.
pub record AreSuspects (code : CodeName) (survives : Place → Bool) (at : List (List ℕ)) (len : ℕ) (suspects : Suspects) : Type 0 where
  pub contradict : IsContradiction (tables_of code) survives (at_place at) len
  pub all : (s : Place → List ℕ) → DiffersInTwoAtMost code survives at len s
      → (p : Place) → survives p ≡ true → DiffersAt at s p → is_in suspects.places p ≡ true
  pub in_some : (s : Place → List ℕ) × DiffersInTwoAtMost code survives at len s
  pub single : IfSome suspects.single (IsDamaged code survives at len)

-- what is said of damage among survivors
abbrev pub IsDamage : CodeName → (Place → Bool) → List (List ℕ) → ℕ → Damage → Type 0
IsDamage code survives at len damage.Nowhere = IsPossible (tables_of code) survives (at_place at) len
IsDamage code survives at len (damage.At p) = IsLocated code survives at len p
IsDamage code survives at len (damage.Among suspects) = AreSuspects code survives at len suspects
IsDamage code survives at len damage.Unknown =
    IsContradiction (tables_of code) survives (at_place at) len × ((p : Place) → survives p ≡ true → ClashWithout code survives at len p)

-- the only survivor among the places before an index without which the others belong together, or none of them is one
abbrev pub IsDamagedBefore : CodeName → (Place → Bool) → List (List ℕ) → ℕ → ℕ → Option Place → Type 0
IsDamagedBefore code survives at len n None =
    (q : Place) → index_of q < n → survives q ≡ true → ClashWithout code survives at len q
IsDamagedBefore code survives at len n (Some p) =
    (survives p ≡ true) × FitWithout code survives at len p
    × ((q : Place) → index_of q < n → survives q ≡ true → same_place p q ≡ false → ClashWithout code survives at len q)

-- what is said of the survivors without one
abbrev pub IsFit : CodeName → (Place → Bool) → List (List ℕ) → ℕ → Place → Bool → Type 0
IsFit code survives at len p true = FitWithout code survives at len p
IsFit code survives at len p false = ClashWithout code survives at len p

-- without which survivors the others belong together: without none, without one alone, or without this one and others
abbrev pub AreFits : CodeName → (Place → Bool) → List (List ℕ) → ℕ → Fits → Type 0
AreFits code survives at len fits.Nowhere = (p : Place) → survives p ≡ true → ClashWithout code survives at len p
AreFits code survives at len (fits.Only p) = IsDamaged code survives at len p
AreFits code survives at len (fits.Several p) = (survives p ≡ true) × FitWithout code survives at len p

-- the places of a code that are in a set, but one
abbrev pub without : CodeName → (Place → Bool) → Place → Place → Bool
without code survives p q = has_place (tables_of code) q && all_but survives p q

-- the fragments at the places of a set determine the one at a place: a combination of theirs gives it
abbrev pub IsDetermined : CodeName → (Place → Bool) → Place → Type 0
IsDetermined code survives p = (row : List ℕ) × IsValueRow (tables_of code) survives p row

-- the fragments at the places of a set determine the one at a place or the one at another
abbrev pub IsOneDetermined : CodeName → (Place → Bool) → Place → Place → Type 0
IsOneDetermined code survives p q = IsDetermined code survives p ⊎ IsDetermined code survives q

-- Where a stripe differs from survivors at p alone, none differs from them in two places at most and at q: the others without q determine
-- q, and without a third too they determine q or p.
pub record IsCleared (code : CodeName) (others : Place → Bool) (p q : Place) : Type 0 where
  pub alone : IsDetermined code (without code others q) q
  pub paired : (f : Place) → IsOneDetermined code (without code (without code others q) f) q p
