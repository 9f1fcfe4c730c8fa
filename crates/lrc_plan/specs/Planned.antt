-- What a plan promises.
use Rattle.std.specs.Prelude.{◌≡◌, ℕ, Bool, true, ◌≢◌, ◌≤◌, ◌+◌, ◌↔◌, Option, IfSome, IsNone, IsSomeAnd, List, length, All, is_none, zero}
use Rattle.std.specs.Prelude.{suc, if◌then◌else◌, not, ◌&&◌, filter, IsSome, map}
use Rattle.lrc_code.specs.declared.places.Place.{Place}
use Rattle.lrc_code.specs.Code.{Code, Solves}
use Rattle.lrc_code.specs.Sums.{GivesBytes}
use Rattle.lrc_code.specs.Groups.{same_group}
use Rattle.lrc_code.specs.Places.{same_place, group_of}
use Rattle.lrc_plan.specs.Form.{Form, meaning, has_leaf, leaf_total, depth}
use Rattle.lrc_code.specs.Reduction.{Reduction, IsReduction}
use Rattle.lrc_plan.specs.Rows.{pivot_of}
use Rattle.std.specs.Option.{option_map}
use Rattle.lrc_plan.specs.declared.plans.Plan.{Plan}
use Rattle.lrc_plan.specs.Tree.{form_of}

-- a byte at each place that solves the code's equations and keeps the survivors' bytes; places outside the code play no part
pub record Extends (code : Code) (survives : Place → Bool) (s e : Place → ℕ) : Type 0 where
  pub bytes : GivesBytes e
  pub solves : Solves code.equations code.places e
  pub kept : (p : Place) → survives p ≡ true → e p ≡ s p

-- all leaves survive
abbrev pub LeavesSurvive : (Place → Bool) → Form → Type 0
LeavesSurvive survives t = (p : Place) → has_leaf t p ≡ true → survives p ≡ true

-- two extensions of the same bytes differ at the target
abbrev pub ExtensionsDiffer : Code → (Place → Bool) → Place → Type 0
ExtensionsDiffer code survives target =
    (s : Place → ℕ) × (d : Place → ℕ) × (e : Place → ℕ)
    × GivesBytes s × Extends code survives s d × Extends code survives s e × (d target ≢ e target)

-- how many of the first n rows have no pivot
abbrev pub rows_without_pivot : (ℕ → Option Place) → ℕ → ℕ
rows_without_pivot pivot zero = 0
rows_without_pivot pivot (suc n) = rows_without_pivot pivot n + (if is_none (pivot n) then 1 else 0)

-- the other members of a place's group, in the order of the code's places
abbrev pub group_others : Code → Place → List Place
group_others code t =
    filter (λ p. same_group (group_of p) (group_of t) && not (same_place p t)) code.places

-- the target has a group, whose others all survive
abbrev pub IsLocal : Code → (Place → Bool) → Place → Type 0
IsLocal code survives target =
    IsSome (group_of target) × All (λ p. survives p ≡ true) (group_others code target)

-- a tree with each of these others as a leaf once, and no further leaf
abbrev pub IsLocalTree : Code → Place → Form → Type 0
IsLocalTree code target t =
    (leaf_total t ≡ length (group_others code target))
    × All (λ p. has_leaf t p ≡ true) (group_others code target)

-- at most 20 nodes from the root to any leaf
abbrev pub IsShallow : Form → Type 0
IsShallow t = depth t ≤ 20

-- the target's tree, or none
pub record IsTargetValue (code : Code) (survives : Place → Bool) (target : Place) (value : Option Form)
    : Type 0 where
  pub leaves : IfSome value (LeavesSurvive survives)
  pub right : IfSome value (λ t.
      (s e : Place → ℕ) → GivesBytes s → Extends code survives s e → meaning s t ≡ e target)
  pub several : IsNone value ↔ ExtensionsDiffer code survives target

-- the checks of survivors' bytes
pub record AreChecks (code : Code) (survives : Place → Bool) (checks : List Form) : Type 0 where
  pub leaves : All (LeavesSurvive survives) checks
  pub possible : (s : Place → ℕ) → GivesBytes s
      → ((e : Place → ℕ) × Extends code survives s e) ↔ All (λ t. meaning s t ≡ 0) checks

-- what a plan for a target promises
pub record IsPlan (code : Code) (survives : Place → Bool) (target : Place)
    (value : Option Form) (checks : List Form) : Type 0 where
  pub of_target : IsTargetValue code survives target value
  pub of_survivors : AreChecks code survives checks
  pub local : IsLocal code survives target → IsSomeAnd value (IsLocalTree code target)

-- as many checks as each reduction of the equations by the lost places has rows without a pivot; and there is a reduction
pub record HasCheckCount (code : Code) (survives : Place → Bool) (n : ℕ) : Type 0 where
  pub each : (r : Reduction) → IsReduction code (λ p. not (survives p)) r
      → n ≡ rows_without_pivot (pivot_of r) (length code.equations)
  pub some : (r : Reduction) × IsReduction code (λ p. not (survives p)) r

-- the form of the value, if there is one
abbrev pub value_form : {A : Type 0} → Plan A → Option Form
value_form plan = option_map form_of plan.value

-- the forms of the checks
abbrev pub check_forms : {A : Type 0} → Plan A → List Form
check_forms plan = map form_of plan.checks.items
