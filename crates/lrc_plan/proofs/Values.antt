-- The target's tree, from a row that determines it: that of the reduction, or the equation of its group.
use Rattle.std.proofs.Common.{◌≡◌, ◌<◌, ◌≤◌, ◌⊎◌, ℕ, Bool, true, false, cond, nat_lt, List, [], ◌∷◌, Option, Some, All, length, length-set}
use Rattle.std.proofs.Common.{map, filter, slice_index, slice_set, refl, sym, ◌∙◌, ap, subst, arith, inl, inr, lit<}
use Rattle.std.specs.Prelude.{not, ◌&&◌, ◌||◌, if◌then◌else◌, suc}
use Rattle.std.specs.List.{list_any}
use borrow.Author.Tests.{ltb-true, ltb-false}
use Rattle.std.proofs.lemmas.List.{get_or_past}
use Rattle.std.proofs.lemmas.Bool.Decides.{eqb_tells}
use Rattle.std.proofs.lemmas.Grind.{get_or-set_at}
use Rattle.std.proofs.lemmas.List.{get_or-set_other}
use Rattle.std.proofs.lemmas.Bool.{cases_Bool}
use Rattle.lrc_field.specs.Field.{times}
use Rattle.lrc_code.specs.declared.places.Place.{Place}
use Rattle.lrc_code.specs.declared.places.Group.{Group}
use Rattle.lrc_code.specs.declared.places.Group.TheVariants as group
use Rattle.lrc_code.specs.declared.codes.Code.{Code as CodeName}
use Rattle.lrc_code.specs.declared.codes.Code.TheVariants.{Narrow, Wide}
use Rattle.lrc_code.specs.Places.{index_of, same_place, group_of, all_places}
use Rattle.lrc_code.specs.Code.{Code, narrow_equations, wide_equations, has_place, Solves}
use Rattle.lrc_code.specs.Codes.{tables_of}
use Rattle.lrc_code.specs.Groups.{group_coefficient, group_row, same_group}
use Rattle.lrc_code.specs.Reduction.{coefficient_at, row_at}
use Rattle.lrc_code.proofs.PlaceSums.{sum_over-same, same_place-eq, same_place-comm}
use Rattle.lrc_code.proofs.CodeTables.{at_index, combination-at}
use Rattle.lrc_plan.specs.Rows.{AreReduced, GiveTarget, HaveOtherLost, dot}
use Rattle.lrc_plan.specs.PlanParts.{IsTargetRow}
use Rattle.lrc_plan.specs.Planned.{IsLocal}

-- the row of the reduction whose pivot the target is
pub pivot_row : (code : Code) (survives : Place → Bool) (coef : ℕ → Place → ℕ) (pivot : ℕ → Option Place)
    (red : AreReduced code survives coef pivot) (r : ℕ) (t : Place) (row : List ℕ) → r < 4 → pivot r ≡ Some t
    → ((p : Place) → slice_index row (index_of p) ≡ coef r p)
    → GiveTarget survives (λ p. slice_index row (index_of p)) t
    → IsTargetRow code survives t (λ p. slice_index row (index_of p))
pivot_row code survives coef pivot red r t row h e is z = record {
  one = is t ∙ red.one r t h e;
  clear = z;
  holds = λ d bytes solves. sum_over-same all_places _ _ (λ p. ap (λ c. times c (d p)) (is p)) ∙ (red.same d bytes).0 solves r h;
}

-- ---- the equation of a group

equation_of : Group → ℕ
equation_of group.X = 0
equation_of group.Y = 1

equation_below : (code : CodeName) (g : Group) → equation_of g < length (tables_of code).equations
unfolding equation_of narrow_equations wide_equations
equation_below Narrow group.X = lit< tt
equation_below Narrow group.Y = lit< tt
equation_below Wide group.X = lit< tt
equation_below Wide group.Y = lit< tt

group_is : (code : CodeName) (g : Group)
    → map (coefficient_at (tables_of code).places (row_at (tables_of code).equations (equation_of g))) all_places
    ≡ group_row (tables_of code) (Some g)
unfolding equation_of narrow_equations wide_equations
group_is Narrow group.X = refl
group_is Narrow group.Y = refl
group_is Wide group.X = refl
group_is Wide group.Y = refl

group_at : (code : CodeName) (g : Group) (p : Place)
    → coefficient_at (tables_of code).places (row_at (tables_of code).equations (equation_of g)) p
    ≡ group_coefficient (tables_of code) (Some g) p
group_at code g p =
    sym (at_index (coefficient_at (tables_of code).places (row_at (tables_of code).equations (equation_of g))) p)
    ∙ ap (λ row. slice_index row (index_of p)) (group_is code g)
    ∙ at_index (group_coefficient (tables_of code) (Some g)) p

-- its sum of products is 0 for all bytes of the code
group_holds : (code : CodeName) (g : Group) (e : Place → ℕ) → Solves (tables_of code).equations (tables_of code).places e
    → dot (group_coefficient (tables_of code) (Some g)) e ≡ 0
group_holds code g e s =
    sum_over-same all_places _ _ (λ p. ap (λ c. times c (e p)) (sym (group_at code g p)))
    ∙ sym (combination-at (tables_of code).places (row_at (tables_of code).equations (equation_of g)) e)
    ∙ s (equation_of g) [] (equation_below code g)

same_group-same : (g : Group) → same_group (Some g) (Some g) ≡ true
same_group-same group.X = refl
same_group-same group.Y = refl

pub group_target_row : (code : CodeName) (survives : Place → Bool) (t : Place) (g : Group) (row : List ℕ)
    → has_place (tables_of code) t ≡ true
    → group_of t ≡ Some g → row ≡ group_row (tables_of code) (Some g) → GiveTarget survives (λ p. slice_index row (index_of p)) t
    → IsTargetRow (tables_of code) survives t (λ p. slice_index row (index_of p))
group_target_row code survives t g row own in_group is z = record {
  one = at t ∙ ap (λ b. if b && same_group (group_of t) (Some g) then 1 else 0) own
      ∙ ap (λ h. if same_group h (Some g) then 1 else 0) in_group ∙ ap (λ b. if b then 1 else 0) (same_group-same g);
  clear = z;
  holds = λ e bytes solves. sum_over-same all_places _ _ (λ p. ap (λ c. times c (e p)) (at p)) ∙ group_holds code g e solves;
}
  where
    at : (p : Place) → slice_index row (index_of p) ≡ group_coefficient (tables_of code) (Some g) p
    at p = ap (λ xs. slice_index xs (index_of p)) is ∙ at_index (group_coefficient (tables_of code) (Some g)) p

-- at a member of the list that passes it
filter-at : (P : Place → Type 0) (q : Place → Bool) (ps : List Place) → All P (filter q ps) → (p : Place)
    → list_any (same_place p) ps ≡ true → q p ≡ true → P p
filter-at P q [] h p a e = absurd (cc)
filter-at P q (r ∷ ps) h p a e = at (λ g. filter-at P q ps g p) (q r) refl h
  where
    later : (b : Bool) → same_place p r ≡ b → (list_any (same_place p) ps ≡ true → q p ≡ true → P p) → (b ≡ true → P p) → P p
    later true k more now = now refl
    later false k more now = more (sym (ap (λ b. b || list_any (same_place p) ps) k) ∙ a) e

    apart : false ≡ true → ⊥
    apart x = cc

    at : (All P (filter q ps) → list_any (same_place p) ps ≡ true → q p ≡ true → P p) → (b : Bool) → q r ≡ b
        → All P (cond b (r ∷ filter q ps) (filter q ps)) → P p
    at more true k g = later (same_place p r) refl (more (λ j d lt. g (suc j) d (omega arith)))
        (λ m. subst P (sym (same_place-eq p r m)) (g 0 r (omega arith)))
    at more false k g = later (same_place p r) refl (more g) (λ m. absurd (apart (sym (ap q (same_place-eq p r m) ∙ k) ∙ e)))

-- where another place of the group is lost the target isn't local
pub not_local : (code : CodeName) (survives : Place → Bool) (t : Place) (row : List ℕ) → row ≡ group_row (tables_of code) (group_of t)
    → HaveOtherLost survives (λ p. slice_index row (index_of p)) t → ¬ IsLocal (tables_of code) survives t
not_local code survives t row is (p, l, other, nz) local =
    let c = coefficient (has_place (tables_of code) p) (same_group (group_of p) (group_of t))
    (λ z. nz (ap (λ xs. slice_index xs (index_of p)) is ∙ at_index (group_coefficient (tables_of code) (group_of t)) p ∙ z)) in
    apart (sym (filter-at (λ q. survives q ≡ true) (λ q. same_group (group_of q) (group_of t) && not (same_place q t))
    (tables_of code).places local.1 p c.0
    (joined (same_group (group_of p) (group_of t)) (same_place p t) c.1 (same_place-comm p t ∙ other))) ∙ l)
  where
    apart : true ≡ false → ⊥
    apart e = cc

    coefficient : (a b : Bool) → (◌≡◌ {A = ℕ} (if a && b then 1 else 0) 0 → ⊥) → (a ≡ true) × (b ≡ true)
    coefficient true true h = (refl, refl)
    coefficient true false h = absurd (h refl)
    coefficient false b h = absurd (h refl)

    joined : (a b : Bool) → a ≡ true → b ≡ false → (a && not b) ≡ true
    joined true false h k = refl
    joined true true h k = absurd (cc)
    joined false b h k = absurd (cc)

-- a 00 that was written, or lies past the end
zero_at : (row : List ℕ) (i k z : ℕ) → k ≡ i → z ≡ 0 → slice_index (slice_set row i z) k ≡ 0
zero_at row i k z e h = elim (Decides-cases i (length row)) as (λ _. slice_index (slice_set row i z) k ≡ 0) [
  | inl w ↦ get_or-set_at row i k z 0 e w ∙ h
  | inr w ↦ get_or_past (slice_set row i z) k 0 (omega (arith, length-set row i z, w, e))
]
  where
    Decides-cases : (a b : ℕ) → (a < b) ⊎ (b ≤ a)
    Decides-cases a b = elim (cases_Bool (nat_lt a b)) [ inl t ↦ inl (ltb-true a b t) | inr t ↦ inr (ltb-false a b t) ]

-- the row with the target's coefficient cut
pub cut_is : (row : List ℕ) (i z : ℕ) (t p : Place) → i ≡ index_of t → z ≡ 0
    → slice_index (slice_set row i z) (index_of p) ≡ cond (same_place t p) 0 (slice_index row (index_of p))
cut_is row i z t p e k = elim (eqb_tells (index_of t) (index_of p)) as
    (λ _. slice_index (slice_set row i z) (index_of p) ≡ cond (same_place t p) 0
    (slice_index row (index_of p))) [
      | inl w ↦ zero_at row i (index_of p) z (sym w.1 ∙ sym e) k ∙ ap
          (λ b. cond b 0 (slice_index row (index_of p))) (sym w.0)
      | inr w ↦ get_or-set_other row i (index_of p) z 0 (λ x. w.1 (sym (x ∙ e))) ∙ ap
          (λ b. cond b 0 (slice_index row (index_of p))) (sym w.0)
    ]
