-- What holds of the tables of both codes.
use Rattle.std.proofs.Common.{◌≡◌, ℕ, true, false, Bool, Some, List, [], ◌∷◌, length, map, get_or, slice_index, refl, sym, ◌∙◌, ap, ap₂}
use Rattle.std.proofs.Common.{cond, All, nat_lt}
use Rattle.std.specs.Prelude.{if◌then◌else◌, ◌||◌}
use Rattle.std.specs.List.{list_any}
use Rattle.std.proofs.lemmas.List.Folds.{list_any_at}
use Rattle.std.specs.Int.Bits.{bit_xor, xor_zero_r}
use Rattle.lrc_field.specs.Field.{times}
use Rattle.lrc_field.proofs.FieldLaws.{times-zero, times-xor_l}
use Rattle.lrc_code.specs.declared.places.Place.{Place}
use Rattle.lrc_code.specs.declared.places.Place.TheVariants.{X0, X1, X2, Y0, Y1, Y2, Px, Py, P0, P1, X3, X4, X5, Y3, Y4, Y5}
use Rattle.lrc_code.specs.declared.codes.Code.{Code as CodeName}
use Rattle.lrc_code.specs.declared.codes.Code.TheVariants.{Narrow, Wide}
use Rattle.lrc_code.specs.Places.{index_of, same_place, all_places}
use Rattle.lrc_field.specs.Sums.{combination}
use Rattle.lrc_code.specs.Code.{narrow, narrow_places, wide_places, narrow_equations, wide_equations, has_place}
use Rattle.lrc_code.specs.Codes.{tables_of}
use Rattle.lrc_code.specs.Sums.{sum_over}
use Rattle.lrc_code.specs.Reduction.{coefficient_at, row_at, rows_by_index}
use Rattle.lrc_code.specs.Groups.{group_row}
use Rattle.lrc_code.specs.declared.places.Group.TheVariants as group
use Rattle.lrc_code.proofs.PlaceSums.{same_place-refl, same_place-comm, sum_over-add, sum_over-same, sum_over-single, combination-sum_over}

-- ---- the codes' places

pub narrow_has : (p : Place) → has_place narrow p ≡ nat_lt (index_of p) 10
narrow_has X0 = refl
narrow_has X1 = refl
narrow_has X2 = refl
narrow_has Y0 = refl
narrow_has Y1 = refl
narrow_has Y2 = refl
narrow_has Px = refl
narrow_has Py = refl
narrow_has P0 = refl
narrow_has P1 = refl
narrow_has X3 = refl
narrow_has X4 = refl
narrow_has X5 = refl
narrow_has Y3 = refl
narrow_has Y4 = refl
narrow_has Y5 = refl

pub four_equations : (code : CodeName) → length (tables_of code).equations ≡ 4
unfolding narrow_equations wide_equations
four_equations Narrow = refl
four_equations Wide = refl

-- ---- sums over a code's places

-- what a list of places contributes at each place
abbrev spread : List Place → (Place → ℕ) → Place → ℕ
spread [] f q = 0
spread (p ∷ ps) f q = bit_xor (cond (same_place p q) (f q) 0) (spread ps f q)

zeros : (ps : List Place) → sum_over ps (λ p. 0) ≡ 0
zeros [] = refl
zeros (p ∷ ps) = zeros ps

sum_over-spread : (ps : List Place) (f : Place → ℕ) → sum_over ps f ≡ sum_over all_places (spread ps f)
sum_over-spread [] f = sym (zeros all_places)
sum_over-spread (p ∷ ps) f =
    ap₂ bit_xor (sym (sum_over-single p f)) (sum_over-spread ps f)
    ∙ sym (sum_over-add all_places (λ q. cond (same_place p q) (f q) 0) (spread ps f))

narrow_spread : (f : Place → ℕ) → ((p : Place) → has_place narrow p ≡ false → f p ≡ 0) → (q : Place) → spread narrow_places f q ≡ f q
narrow_spread f h X0 = xor_zero_r (f X0)
narrow_spread f h X1 = xor_zero_r (f X1)
narrow_spread f h X2 = xor_zero_r (f X2)
narrow_spread f h Y0 = xor_zero_r (f Y0)
narrow_spread f h Y1 = xor_zero_r (f Y1)
narrow_spread f h Y2 = xor_zero_r (f Y2)
narrow_spread f h Px = xor_zero_r (f Px)
narrow_spread f h Py = xor_zero_r (f Py)
narrow_spread f h P0 = xor_zero_r (f P0)
narrow_spread f h P1 = xor_zero_r (f P1)
narrow_spread f h X3 = sym (h X3 refl)
narrow_spread f h X4 = sym (h X4 refl)
narrow_spread f h X5 = sym (h X5 refl)
narrow_spread f h Y3 = sym (h Y3 refl)
narrow_spread f h Y4 = sym (h Y4 refl)
narrow_spread f h Y5 = sym (h Y5 refl)

wide_spread : (f : Place → ℕ) (q : Place) → spread wide_places f q ≡ f q
wide_spread f X0 = xor_zero_r (f X0)
wide_spread f X1 = xor_zero_r (f X1)
wide_spread f X2 = xor_zero_r (f X2)
wide_spread f Y0 = xor_zero_r (f Y0)
wide_spread f Y1 = xor_zero_r (f Y1)
wide_spread f Y2 = xor_zero_r (f Y2)
wide_spread f Px = xor_zero_r (f Px)
wide_spread f Py = xor_zero_r (f Py)
wide_spread f P0 = xor_zero_r (f P0)
wide_spread f P1 = xor_zero_r (f P1)
wide_spread f X3 = xor_zero_r (f X3)
wide_spread f X4 = xor_zero_r (f X4)
wide_spread f X5 = xor_zero_r (f X5)
wide_spread f Y3 = xor_zero_r (f Y3)
wide_spread f Y4 = xor_zero_r (f Y4)
wide_spread f Y5 = xor_zero_r (f Y5)

-- a function that is 0 at the other places has its whole sum over the code's
pub sum_over-code : (code : CodeName) (f : Place → ℕ) → ((p : Place) → has_place (tables_of code) p ≡ false → f p ≡ 0)
    → sum_over (tables_of code).places f ≡ sum_over all_places f
sum_over-code Narrow f h = sum_over-spread narrow_places f ∙ sum_over-same all_places (spread narrow_places f) f (narrow_spread f h)
sum_over-code Wide f h = sum_over-spread wide_places f ∙ sum_over-same all_places (spread wide_places f) f (wide_spread f)

-- ---- the equations by the places' indexes

term : (b : Bool) (c x y : ℕ) → times (bit_xor (if b then c else 0) y) x ≡ bit_xor (cond b (times c x) 0) (times y x)
term true c x y = times-xor_l c y x
term false c x y = refl

pub combination-at : (ps : List Place) (row : List ℕ) (b : Place → ℕ)
    → combination row (map b ps) ≡ sum_over all_places (λ q. times (coefficient_at ps row q) (b q))
combination-at [] [] b = sym (sum_over-same all_places _ (λ q. 0) (λ q. times-zero (b q)) ∙ zeros all_places)
combination-at [] (c ∷ row) b = sym (sum_over-same all_places _ (λ q. 0) (λ q. times-zero (b q)) ∙ zeros all_places)
combination-at (p ∷ ps) [] b = sym (sum_over-same all_places _ (λ q. 0) (λ q. times-zero (b q)) ∙ zeros all_places)
combination-at (p ∷ ps) (c ∷ row) b =
    ap₂ bit_xor (sym (sum_over-single p (λ q. times c (b q)))) (combination-at ps row b)
    ∙ sym (sum_over-add all_places (λ q. cond (same_place p q) (times c (b q)) 0) (λ q. times (coefficient_at ps row q) (b q)))
    ∙ sum_over-same all_places _ _ (λ q. sym (term (same_place p q) c (b q) (coefficient_at ps row q)))

-- the coefficient at each place of a row by the indexes
pub at_index : (f : Place → ℕ) (q : Place) → slice_index (map f all_places) (index_of q) ≡ f q
at_index f X0 = refl
at_index f X1 = refl
at_index f X2 = refl
at_index f Y0 = refl
at_index f Y1 = refl
at_index f Y2 = refl
at_index f Px = refl
at_index f Py = refl
at_index f P0 = refl
at_index f P1 = refl
at_index f X3 = refl
at_index f X4 = refl
at_index f X5 = refl
at_index f Y3 = refl
at_index f Y4 = refl
at_index f Y5 = refl

pub combination-by_index : (ps : List Place) (row : List ℕ) (b : Place → ℕ)
    → combination (map (coefficient_at ps row) all_places) (map b all_places) ≡ combination row (map b ps)
combination-by_index ps row b =
    combination-sum_over (map (coefficient_at ps row) all_places) b
    ∙ sum_over-same all_places _ _ (λ q. ap (λ c. times c (b q)) (at_index (coefficient_at ps row) q))
    ∙ sym (combination-at ps row b)

-- a place that isn't among the places has the coefficient 0
pub coefficient_at-none : (q : Place) (ps : List Place) (row : List ℕ) → list_any (same_place q) ps ≡ false → coefficient_at ps row q ≡ 0
coefficient_at-none q [] row h = refl
coefficient_at-none q (p ∷ ps) [] h = refl
coefficient_at-none q (p ∷ ps) (c ∷ row) h =
    let parts = or_parts (same_place q p) (list_any (same_place q) ps) h in
    ap₂ (λ b y. bit_xor (if b then c else 0) y) (same_place-comm p q ∙ parts.0) (coefficient_at-none q ps row parts.1)
  where
    or_parts : (a b : Bool) → (a || b) ≡ false → (a ≡ false) × (b ≡ false)
    or_parts true b h = absurd (cc)
    or_parts false b h = (refl, h)

-- the places of a code are its places
pub own_places : (code : CodeName) → All (λ p. has_place (tables_of code) p ≡ true) (tables_of code).places
own_places code = λ k d lt. list_any_at (same_place (get_or (tables_of code).places k d)) (tables_of code).places k d lt
    (same_place-refl (get_or (tables_of code).places k d))

-- ---- the equations of the groups

pub group_of_x : (code : CodeName) → row_at (rows_by_index (tables_of code)) 0 ≡ group_row (tables_of code) (Some group.X)
unfolding rows_by_index narrow_equations wide_equations
group_of_x Narrow = refl
group_of_x Wide = refl

pub group_of_y : (code : CodeName) → row_at (rows_by_index (tables_of code)) 1 ≡ group_row (tables_of code) (Some group.Y)
unfolding rows_by_index narrow_equations wide_equations
group_of_y Narrow = refl
group_of_y Wide = refl
