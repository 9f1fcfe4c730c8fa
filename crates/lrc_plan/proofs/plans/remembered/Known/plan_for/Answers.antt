use Rattle.std.proofs.Common.{◌≡◌, Bool, true, false, List, [], ◌∷◌, Option, refl, sym, ap₂, subst}
use Rattle.std.specs.Prelude.{◌&&◌}
use Rattle.std.proofs.Math.Bool.{beq}
use lib.Pointwise.{pointwise}
use Rattle.lrc_code.specs.declared.codes.Code.{Code}
use Rattle.lrc_code.specs.declared.codes.Code.TheVariants.{Narrow, Wide}
use Rattle.lrc_code.specs.declared.places.Place.{Place}
use Rattle.lrc_code.specs.Codes.{tables_of}
use Rattle.lrc_code.specs.Sets.{is_in}
use Rattle.lrc_code.proofs.PlaceSums.{same_place-eq}
use Rattle.lrc_plan.specs.Form.{Form}
use Rattle.lrc_plan.specs.Planned.{IsPlan, check_forms, value_form}
use Rattle.lrc_plan.proofs.PlaceTests.{same_place-eq_true}
use Rattle.lrc_plan.proofs.plans.remembered.Known.plan_for.Goals as goal

same_bool : (a b : Bool) → beq a b ≡ true → a ≡ b
same_bool true true h = refl
same_bool true false h = absurd (cc)
same_bool false true h = absurd (cc)
same_bool false false h = refl

both : (a b : Bool) → (a && b) ≡ true → (a ≡ true) × (b ≡ true)
both true b h = (refl, h)
both false b h = absurd (cc)

same_list : (xs ys : List Bool) → pointwise beq xs ys ≡ true → xs ≡ ys
same_list [] [] h = refl
same_list [] (y ∷ ys) h = absurd (cc)
same_list (x ∷ xs) [] h = absurd (cc)
same_list (x ∷ xs) (y ∷ ys) h =
    let parts = both (beq x y) (pointwise beq xs ys) h in
    ap₂ (λ z zs. z ∷ zs) (same_bool x y parts.0) (same_list xs ys parts.1)

-- a plan for these is the plan for the same
moved : (value : Option Form) (checks : List Form) (a b : Code) (s t : List Bool) (p q : Place) → a ≡ b → s ≡ t → p ≡ q
    → IsPlan (tables_of a) (is_in s) p value checks → IsPlan (tables_of b) (is_in t) q value checks
moved value checks a b s t p q code survivors target plan =
    subst (λ r. IsPlan (tables_of b) (is_in t) r value checks) target
    (subst (λ l. IsPlan (tables_of b) (is_in l) p value checks) survivors
    (subst (λ c. IsPlan (tables_of c) (is_in s) p value checks) code plan))

same_code : (a b : Code) → true ≡ denote.Enum.Bare.sameb Rattle.lrc_code.specs.contracts.codes.Code.the_type a b → a ≡ b
same_code Narrow Narrow h = refl
same_code Narrow Wide h = absurd (cc)
same_code Wide Narrow h = absurd (cc)
same_code Wide Wide h = refl

same_target : (p q : Place) → true ≡ denote.Enum.Bare.sameb Rattle.lrc_code.specs.contracts.places.Place.the_type p q → p ≡ q
same_target p q h = same_place-eq p q (same_place-eq_true p q _ h refl)

pub returns-then-eq-3 : goal.returns-then-eq-3
returns-then-eq-3 c =
    moved (value_form c.self.inside.plan) (check_forms c.self.inside.plan) c.self.inside.code c.args.code
    c.self.inside.survivors c.args.survivors c.self.inside.target c.args.target
    (same_code c.self.inside.code c.args.code c.if-eq.ensures) (same_list c.self.inside.survivors c.args.survivors (sym c.if-eq-3.ensures))
    (same_target c.self.inside.target c.args.target c.if-eq-2.ensures) c.self.invariant
