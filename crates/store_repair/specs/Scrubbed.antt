-- What is said of the stripes of a store.
use Rattle.std.specs.Prelude.{◌≡◌, ℕ, List, [], ◌∷◌, ◌++◌, Bool, true, Option, Some}
use Rattle.lrc_code.specs.declared.places.Place.{Place}
use Rattle.lrc_code.specs.declared.codes.Code.{Code as CodeName}
use Rattle.lrc_code.specs.Code.{IsInCode}
use Rattle.lrc_code.specs.Codes.{tables_of}
use Rattle.lrc_plan.specs.Stripes.{at_place}
use Rattle.store_repair.specs.Damage.{IsLocated}
use Rattle.store_repair.specs.Findings.{named_by}
use Rattle.stores.specs.Store.{Files}
use Rattle.store_repair.specs.declared.damage.Damage.{Damage}
use Rattle.store_repair.specs.declared.damage.Damage.TheVariants as damage
use Rattle.store_repair.specs.declared.outcomes.Finding.{Finding}
use Rattle.store_repair.specs.declared.outcomes.Reason.{Reason as ReasonName}
use Rattle.store_repair.specs.declared.outcomes.Reason.TheVariants as reason

-- the place of a finding that says that its fragment is damaged
abbrev pub damaged_by : ReasonName → Option Place → List Place
damaged_by reason.Damaged place = named_by place
damaged_by reason place = []

-- the places of the fragments that are said to be damaged
abbrev pub said_damaged : List Finding → List Place
said_damaged [] = []
said_damaged (finding ∷ findings) = damaged_by finding.reason finding.place ++ said_damaged findings

-- the place of known damage
abbrev pub damaged_at : Damage → List Place
damaged_at damage.Nowhere = []
damaged_at (damage.At p) = p ∷ []
damaged_at (damage.Among suspects) = []
damaged_at damage.Unknown = []

-- under the names of a stripe's fragments at some places are those of one stripe of the code
abbrev pub AreOfOneStripe : CodeName → (Place → Bool) → ℕ → List ℕ → Files → Type 0
AreOfOneStripe code survives len stripe files =
    (s : Place → List ℕ) × IsInCode (tables_of code) len s × ((p : Place) → survives p ≡ true → files.fragments stripe p ≡ Some (s p))

-- the fragment at a place is damaged, whatever at most two of those under the names at these places hold
abbrev pub IsDamagedFragment : CodeName → (Place → Bool) → ℕ → List ℕ → Files → Place → Type 0
IsDamagedFragment code survives len stripe files p =
    (at : List (List ℕ)) × ((q : Place) → survives q ≡ true → files.fragments stripe q ≡ Some (at_place at q))
    × IsLocated code survives at len p
