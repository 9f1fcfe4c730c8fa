-- The answers for several lost targets.
use Rattle.std.specs.Prelude.{◌≡◌, ◌≢◌, ℕ, ◌<◌, List, length, Bool, true, false, Option, Some, None, slice_index, slice_index_or}
use Rattle.std.specs.Borrow.{Bor}
use Rattle.lrc_field.specs.declared.terms.Term.{Term}
use Rattle.lrc_field.specs.declared.pairs.Pair.{Pair}
use Rattle.lrc_field.specs.Pairs.{ArePairsOf}
use Rattle.lrc_code.specs.declared.places.Place.{Place}
use Rattle.lrc_code.specs.declared.codes.Code.{Code as CodeName}
use Rattle.lrc_code.specs.Code.{has_place}
use Rattle.lrc_code.specs.Codes.{tables_of}
use Rattle.lrc_code.specs.Places.{index_of}
use Rattle.lrc_plan.specs.Planned.{ExtensionsDiffer}
use Rattle.lrc_plan.specs.RowPlans.{IsValueRow}
use Rattle.lrc_c.specs.declared.rebuilding.Answer.{Answer}
use Rattle.lrc_c.specs.declared.rebuilding_many.Target.{Target}
use Rattle.lrc_c.specs.declared.rebuilding_many.Target.TheVariants as target
use Rattle.lrc_c.specs.declared.rebuilding_many.Aim.{Aim}
use Rattle.lrc_c.specs.declared.rebuilding_many.Aim.TheVariants as aim
use Rattle.lrc_plan.specs.Stripes.{AreWhole, at_place, AreUsed}
use Rattle.lrc_c.specs.Arguments.{code_numbered, is_set}
use Rattle.lrc_field.specs.Terms.{AreTermsOf}
use Rattle.lrc_c.specs.Rebuilt.{status_of, IsAnswerAt}

-- a place of the code that doesn't survive
pub record IsLostPlace (code : CodeName) (survives : Place → Bool) (p : Place) : Type 0 where
  pub of_code : has_place (tables_of code) p ≡ true
  pub lost : survives p ≡ false

-- the number is 255, or that of such a place, and the room for its bytes has the length
abbrev pub IsAsked : CodeName → (Place → Bool) → ℕ → ℕ → ℕ → Type 0
IsAsked code survives len number room =
    number ≢ 255 → (p : Place) × (index_of p ≡ number) × IsLostPlace code survives p × (room ≡ len)

-- all four are, of a code and survivors that can be asked of
pub record AreAllAsked (code_number mask : ℕ) (at : List (List ℕ)) (len : ℕ) (targets : List ℕ) (a b c d : ℕ)
    (code : CodeName) : Type 0 where
  pub code_is : code_numbered code_number ≡ Some code
  pub some : 0 < len
  pub whole : AreWhole code (is_set mask) at len
  pub first : IsAsked code (is_set mask) len (slice_index targets 0) a
  pub second : IsAsked code (is_set mask) len (slice_index targets 1) b
  pub third : IsAsked code (is_set mask) len (slice_index targets 2) c
  pub fourth : IsAsked code (is_set mask) len (slice_index targets 3) d

-- what is answered of a number: 0 of 255, and else an answer, with the bytes that it says in the room
pub record IsAnswered (code : CodeName) (survives : Place → Bool) (at : List (List ℕ)) (len number status : ℕ) (out : List ℕ) : Type 0 where
  pub nothing : number ≡ 255 → status ≡ 0
  pub target : (p : Place) → index_of p ≡ number
      → (a : Answer) × (status ≡ status_of a) × IsAnswerAt (tables_of code) survives (at_place at) len p a out

-- what is answered of all four
pub record AreAnswered (code : CodeName) (survives : Place → Bool) (at : List (List ℕ)) (len : ℕ)
    (targets statuses a b c d : List ℕ) : Type 0 where
  pub first : IsAnswered code survives at len (slice_index targets 0) (slice_index statuses 0) a
  pub second : IsAnswered code survives at len (slice_index targets 1) (slice_index statuses 1) b
  pub third : IsAnswered code survives at len (slice_index targets 2) (slice_index statuses 2) c
  pub fourth : IsAnswered code survives at len (slice_index targets 3) (slice_index statuses 3) d

-- ---- the steps

-- four numbers are asked for so, each with its room
pub record AreFourAsked (code : CodeName) (survives : Place → Bool) (len : ℕ) (numbers rooms : List ℕ) : Type 0 where
  pub first : IsAsked code survives len (slice_index numbers 0) (slice_index rooms 0)
  pub second : IsAsked code survives len (slice_index numbers 1) (slice_index rooms 1)
  pub third : IsAsked code survives len (slice_index numbers 2) (slice_index rooms 2)
  pub fourth : IsAsked code survives len (slice_index numbers 3) (slice_index rooms 3)

-- a target is lost
abbrev pub IsLostOf : CodeName → (Place → Bool) → Target → Type 0
IsLostOf code survives target.Nothing = Unit
IsLostOf code survives (target.Lost p) = IsLostPlace code survives p

-- and its room has the length
abbrev pub IsReady : CodeName → (Place → Bool) → ℕ → Target → ℕ → Type 0
IsReady code survives len target.Nothing room = Unit
IsReady code survives len (target.Lost p) room = IsLostPlace code survives p × (room ≡ len)

-- the target of an index
abbrev pub target_at : List Target → ℕ → Target
target_at targets k = slice_index_or targets k target.Nothing

-- four targets are ready, each with its room
pub record AreFourReady (code : CodeName) (survives : Place → Bool) (len : ℕ) (targets : List Target) (a b c d : ℕ) : Type 0 where
  pub first : IsReady code survives len (target_at targets 0) a
  pub second : IsReady code survives len (target_at targets 1) b
  pub third : IsReady code survives len (target_at targets 2) c
  pub fourth : IsReady code survives len (target_at targets 3) d

-- a target is that of a number, with its room
abbrev pub IsTargetOf : CodeName → (Place → Bool) → ℕ → ℕ → ℕ → Target → Type 0
IsTargetOf code survives len number room target.Nothing = number ≡ 255
IsTargetOf code survives len number room (target.Lost p) = (index_of p ≡ number) × IsLostPlace code survives p × (room ≡ len)

-- four targets are those of four numbers, each with its room
pub record AreFourTargets (code : CodeName) (survives : Place → Bool) (len : ℕ) (numbers rooms : List ℕ) (targets : List Target)
    : Type 0 where
  pub first : IsTargetOf code survives len (slice_index numbers 0) (slice_index rooms 0) (target_at targets 0)
  pub second : IsTargetOf code survives len (slice_index numbers 1) (slice_index rooms 1) (target_at targets 1)
  pub third : IsTargetOf code survives len (slice_index numbers 2) (slice_index rooms 2) (target_at targets 2)
  pub fourth : IsTargetOf code survives len (slice_index numbers 3) (slice_index rooms 3) (target_at targets 3)

-- what a lost place's plan asks for, with the terms of its combination
abbrev pub IsPlanned : CodeName → (Place → Bool) → List (List ℕ) → ℕ → Place → Aim → List Term → Type 0
IsPlanned code survives at len p aim.Nothing ts = p ≢ p
IsPlanned code survives at len p aim.Several ts = ExtensionsDiffer (tables_of code) survives p
IsPlanned code survives at len p (aim.Sums row) ts = IsValueRow (tables_of code) survives p row × AreTermsOf row at len ts

-- what a target's plan asks for
abbrev pub IsAimed : CodeName → (Place → Bool) → List (List ℕ) → ℕ → Target → Aim → List Term → Type 0
IsAimed code survives at len target.Nothing a ts = a ≡ aim.Nothing
IsAimed code survives at len (target.Lost p) a ts = IsPlanned code survives at len p a ts

-- the row of a combination: its bytes have the length
abbrev pub IsUsedRow : Aim → List (List ℕ) → ℕ → Type 0
IsUsedRow aim.Nothing xss len = Unit
IsUsedRow aim.Several xss len = Unit
IsUsedRow (aim.Sums row) xss len = AreUsed row xss len

-- the pairs of a row and that of a combination, or none
abbrev pub ArePairsWith : List ℕ → Aim → List (List ℕ) → ℕ → List Pair → Type 0
ArePairsWith row aim.Nothing xss len ps = length ps ≡ 0
ArePairsWith row aim.Several xss len ps = length ps ≡ 0
ArePairsWith row (aim.Sums other) xss len ps = 0 < length ps → ArePairsOf row other xss len ps

-- the pairs of two combinations, or none
abbrev pub ArePairsOfBoth : Aim → Aim → List (List ℕ) → ℕ → List Pair → Type 0
ArePairsOfBoth aim.Nothing other xss len ps = length ps ≡ 0
ArePairsOfBoth aim.Several other xss len ps = length ps ≡ 0
ArePairsOfBoth (aim.Sums row) other xss len ps = ArePairsWith row other xss len ps

-- terms are wanted for sums alone
abbrev pub IsWantedOf : Aim → List Term → Option (Bor (List Term)) → Type 0
IsWantedOf aim.Nothing ts w = w ≡ None
IsWantedOf aim.Several ts w = w ≡ None
IsWantedOf (aim.Sums row) ts None = ts ≢ ts
IsWantedOf (aim.Sums row) ts (Some us) = us.now ≡ ts

-- the status, by whether the checks are 0
abbrev pub status_at : Aim → Bool → ℕ
status_at aim.Nothing b = 0
status_at aim.Several true = 2
status_at aim.Several false = 1
status_at (aim.Sums row) true = 0
status_at (aim.Sums row) false = 1

-- what is answered of a target
abbrev pub IsTargetAnswered : CodeName → (Place → Bool) → List (List ℕ) → ℕ → Target → ℕ → List ℕ → Type 0
IsTargetAnswered code survives at len target.Nothing status out = status ≡ 0
IsTargetAnswered code survives at len (target.Lost p) status out =
    (a : Answer) × (status ≡ status_of a) × IsAnswerAt (tables_of code) survives (at_place at) len p a out

-- what is answered of four
pub record AreFourAnswered (code : CodeName) (survives : Place → Bool) (at : List (List ℕ)) (len : ℕ) (targets : List Target)
    (statuses a b c d : List ℕ) : Type 0 where
  pub first : IsTargetAnswered code survives at len (target_at targets 0) (slice_index statuses 0) a
  pub second : IsTargetAnswered code survives at len (target_at targets 1) (slice_index statuses 1) b
  pub third : IsTargetAnswered code survives at len (target_at targets 2) (slice_index statuses 2) c
  pub fourth : IsTargetAnswered code survives at len (target_at targets 3) (slice_index statuses 3) d
