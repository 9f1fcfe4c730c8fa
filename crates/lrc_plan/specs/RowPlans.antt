-- What plans as rows of coefficients promise. Rows are by the places' indexes.
use Rattle.std.specs.Prelude.{◌≡◌, ℕ, ◌↔◌, ◌==◌, Bool, false, not, Option, Some, None, IsSomeAnd, List, map, slice_index, All, count_by}
use Rattle.lrc_code.specs.declared.places.Place.{Place}
use Rattle.lrc_code.specs.Places.{index_of, group_of, all_places}
use Rattle.lrc_field.specs.Sums.{combination}
use Rattle.lrc_code.specs.Code.{Code}
use Rattle.lrc_code.specs.Sums.{GivesBytes}
use Rattle.lrc_plan.specs.Planned.{Extends, ExtensionsDiffer, HasCheckCount, IsLocal}
use Rattle.lrc_plan.specs.PlanParts.{cut}
use Rattle.lrc_code.specs.Groups.{group_coefficient}
use Rattle.lrc_plan.specs.Sums.{terms}

-- the row is 0 at places that don't survive
abbrev pub ReadsSurvivors : (Place → Bool) → List ℕ → Type 0
ReadsSurvivors survives row = (p : Place) → survives p ≡ false → slice_index row (index_of p) ≡ 0

-- the row's sum of products with survivors' bytes is the target's byte of each of their extensions
abbrev pub GivesTarget : Code → (Place → Bool) → Place → List ℕ → Type 0
GivesTarget code survives target row =
    (s e : Place → ℕ) → GivesBytes s → Extends code survives s e → combination row (map s all_places) ≡ e target

-- survivors' bytes have an extension exactly where each row's sum of products is 0
abbrev pub DecideExtensions : Code → (Place → Bool) → List (List ℕ) → Type 0
DecideExtensions code survives rows = (s : Place → ℕ) → GivesBytes s
    → ((e : Place → ℕ) × Extends code survives s e) ↔ All (λ row. combination row (map s all_places) ≡ 0) rows

-- the row gives the target's byte from the survivors' bytes
pub record IsValueRow (code : Code) (survives : Place → Bool) (target : Place) (row : List ℕ) : Type 0 where
  pub reads : ReadsSurvivors survives row
  pub right : GivesTarget code survives target row

-- the row of the target, or none where it is not determined
abbrev pub IsRowValue : Code → (Place → Bool) → Place → Option (List ℕ) → Type 0
IsRowValue code survives target None = ExtensionsDiffer code survives target
IsRowValue code survives target (Some row) = IsValueRow code survives target row

-- rows that all give 0 exactly where the survivors' bytes are those of a stripe
pub record AreCheckRows (code : Code) (survives : Place → Bool) (checks : List (List ℕ)) : Type 0 where
  pub reads : All (ReadsSurvivors survives) checks
  pub possible : DecideExtensions code survives checks

-- the equation of the target's group without the target: 1 at the others of the group, 0 elsewhere
abbrev pub IsGroupRow : Code → Place → List ℕ → Type 0
IsGroupRow code target row = (p : Place) → slice_index row (index_of p) ≡ cut (group_coefficient code (group_of target)) target p

-- how many rows are not 0 everywhere
abbrev pub rows_with_terms : List (List ℕ) → ℕ
rows_with_terms rows = count_by (λ row. not (terms row all_places == 0)) rows

-- What a plan as rows promises. Where the others of the target's group survive, the value reads these and no others.
pub record IsRowPlan (code : Code) (survives : Place → Bool) (target : Place)
    (value : Option (List ℕ)) (checks : List (List ℕ)) : Type 0 where
  pub of_target : IsRowValue code survives target value
  pub of_survivors : AreCheckRows code survives checks
  pub local : IsLocal code survives target → IsSomeAnd value (IsGroupRow code target)
  pub count : HasCheckCount code survives (rows_with_terms checks)

-- one row of a reduction as a check: itself where it has no pivot, else 0
abbrev pub IsCheckRow : (ℕ → Place → ℕ) → (ℕ → Option Place) → ℕ → List ℕ → Type 0
IsCheckRow coef pivot r row =
    (pivot r ≡ None → (p : Place) → slice_index row (index_of p) ≡ coef r p)
    × ((v : Place) → pivot r ≡ Some v → (p : Place) → slice_index row (index_of p) ≡ 0)
