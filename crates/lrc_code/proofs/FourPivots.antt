-- A place of a group, the other group's parity and both global parities: where these four are lost, the equations have a reduction
-- with a pivot at each.
use Rattle.std.proofs.Common.{◌≡◌, ◌≢◌, ℕ, suc, zero, ◌<◌, List, [], ◌∷◌, length, map, get_or, Bool, true, false, cond, refl, ap, sym, ◌∙◌}
use Rattle.std.proofs.Common.{arith, inl, inr, Option, Some, None, lit<}
use Rattle.std.specs.Prelude.{not, ◌&&◌, ◌||◌, ◌==◌}
use Rattle.std.specs.List.{list_all}
use Rattle.std.proofs.lemmas.Bool.{cases_Bool, eqb-true}
use Rattle.std.proofs.lemmas.List.Folds.{list_all_at}
use Rattle.lrc_field.specs.Field.{times}
use Rattle.lrc_field.specs.Sums.{sums}
use Rattle.lrc_field.proofs.FieldLaws.{times-one}
use Rattle.lrc_code.specs.declared.places.Group.{Group}
use Rattle.lrc_code.specs.declared.places.Group.TheVariants as group
use Rattle.lrc_code.specs.declared.places.Place.{Place}
use Rattle.lrc_code.specs.declared.places.Place.TheVariants.{Px, Py, P0, P1}
use Rattle.lrc_code.specs.declared.codes.Code.{Code as CodeName}
use Rattle.lrc_code.specs.declared.codes.Code.TheVariants.{Narrow, Wide}
use Rattle.lrc_code.specs.Places.{index_of, group_of, all_places}
use Rattle.lrc_code.specs.Sets.{is_in}
use Rattle.lrc_code.specs.Code.{has_place, narrow_equations, wide_equations}
use Rattle.lrc_code.specs.Codes.{tables_of}
use Rattle.lrc_code.specs.Reduction.{row_at, coefficient, rows_by_index, IsCleared, IsReduction}
use Rattle.lrc_code.proofs.Spanning.{equations_span, cleared_spans}
use Rattle.lrc_code.proofs.PlaceSums.{index_of-lt, at_places}
use Rattle.lrc_code.proofs.Clearing.{cleared_shape, cleared_same, cleared_one, cleared_zero, cleared_keeps}
use Rattle.lrc_code.proofs.Reducing.{PivotTo, equations_shape, reduced_end}

four_cases : (P : ℕ → Type 0) → P 0 → P 1 → P 2 → P 3 → (k : ℕ) → k < 4 → P k
four_cases P a b c d zero h = a
four_cases P a b c d (suc zero) h = b
four_cases P a b c d (suc (suc zero)) h = c
four_cases P a b c d (suc (suc (suc zero))) h = d
four_cases P a b c d (suc (suc (suc (suc k)))) h = absurd (omega arith)

-- the row of a group's equation
abbrev row_of : Group → ℕ
row_of group.X = 0
row_of group.Y = 1

-- the parity of each row
abbrev parity : ℕ → Place
parity zero = Px
parity (suc zero) = Py
parity (suc (suc zero)) = P0
parity (suc (suc (suc n))) = P1

-- a parity has 1 in its own row and 0 in the others
parity_column : (code : CodeName) (q : ℕ) → q < 4 → (s : ℕ) → s < 4
    → coefficient (rows_by_index (tables_of code)) s (index_of (parity q)) ≡ cond (s == q) 1 0
unfolding narrow_equations wide_equations rows_by_index
parity_column Narrow = four_cases (λ q. (s : ℕ) → s < 4 → coefficient (rows_by_index (tables_of Narrow)) s (index_of (parity q))
    ≡ cond (s == q) 1 0)
    (four_cases (λ s. coefficient (rows_by_index (tables_of Narrow)) s (index_of (parity 0)) ≡ cond (s == 0) 1 0) refl refl refl refl)
    (four_cases (λ s. coefficient (rows_by_index (tables_of Narrow)) s (index_of (parity 1)) ≡ cond (s == 1) 1 0) refl refl refl refl)
    (four_cases (λ s. coefficient (rows_by_index (tables_of Narrow)) s (index_of (parity 2)) ≡ cond (s == 2) 1 0) refl refl refl refl)
    (four_cases (λ s. coefficient (rows_by_index (tables_of Narrow)) s (index_of (parity 3)) ≡ cond (s == 3) 1 0) refl refl refl refl)
parity_column Wide = four_cases (λ q. (s : ℕ) → s < 4 → coefficient (rows_by_index (tables_of Wide)) s (index_of (parity q))
    ≡ cond (s == q) 1 0)
    (four_cases (λ s. coefficient (rows_by_index (tables_of Wide)) s (index_of (parity 0)) ≡ cond (s == 0) 1 0) refl refl refl refl)
    (four_cases (λ s. coefficient (rows_by_index (tables_of Wide)) s (index_of (parity 1)) ≡ cond (s == 1) 1 0) refl refl refl refl)
    (four_cases (λ s. coefficient (rows_by_index (tables_of Wide)) s (index_of (parity 2)) ≡ cond (s == 2) 1 0) refl refl refl refl)
    (four_cases (λ s. coefficient (rows_by_index (tables_of Wide)) s (index_of (parity 3)) ≡ cond (s == 3) 1 0) refl refl refl refl)

-- ---- a place of a group has 1 in the group's row

is_of : Group → Option Group → Bool
is_of group.X (Some group.X) = true
is_of group.Y (Some group.Y) = true
is_of g h = false

own_place : CodeName → Group → Place → Bool
own_place code g p = not (has_place (tables_of code) p && is_of g (group_of p)) ||
    (coefficient (rows_by_index (tables_of code)) (row_of g) (index_of p) == 1)

own_places : (code : CodeName) (g : Group) → list_all (own_place code g) all_places ≡ true
unfolding narrow_equations wide_equations rows_by_index own_place is_of
own_places Narrow group.X = refl
own_places Narrow group.Y = refl
own_places Wide group.X = refl
own_places Wide group.Y = refl

is_own : (code : CodeName) (g : Group) (p : Place) → own_place code g p ≡ true
is_own code g = at_places (λ p. own_place code g p ≡ true)
    (λ k d lt. elim (cases_Bool (own_place code g (get_or all_places k d))) as (λ _. own_place code g (get_or all_places k d) ≡ true) [
      | inl t ↦ t
      | inr f ↦ absurd (apart (sym (list_all_at (own_place code g) all_places k d lt f) ∙ own_places code g))
    ])
  where
    apart : false ≡ true → ⊥
    apart e = cc

is_of-same : (g : Group) → is_of g (Some g) ≡ true
unfolding is_of
is_of-same group.X = refl
is_of-same group.Y = refl

own_one : (code : CodeName) (g : Group) (t : Place) → has_place (tables_of code) t ≡ true → group_of t ≡ Some g
    → coefficient (rows_by_index (tables_of code)) (row_of g) (index_of t) ≡ 1
unfolding own_place
own_one code g t here of =
    eqb-true (coefficient (rows_by_index (tables_of code)) (row_of g) (index_of t)) 1
    (second (has_place (tables_of code) t) (is_of g (group_of t))
    (coefficient (rows_by_index (tables_of code)) (row_of g) (index_of t) == 1) here (ap (is_of g) of ∙ is_of-same g) (is_own code g t))
  where
    second : (a b c : Bool) → a ≡ true → b ≡ true → (not (a && b) || c) ≡ true → c ≡ true
    second true true c h k x = x
    second true false c h k x = absurd (cc)
    second false b c h k x = absurd (cc)

-- ---- the rows, cleared at the target

module _ (code : CodeName) (g : Group) (t : Place) where
  abbrev start : List (List ℕ)
  start = rows_by_index (tables_of code)

  cleared_at : ℕ → List ℕ
  cleared_at s = cond (s == row_of g) (map (times 1) (row_at start (row_of g)))
      (sums (row_at start s) (map (times (coefficient start s (index_of t))) (map (times 1) (row_at start (row_of g)))))

  pub four_rows : List (List ℕ)
  four_rows = cleared_at 0 ∷ cleared_at 1 ∷ cleared_at 2 ∷ cleared_at 3 ∷ []

as_many_rows : (code : CodeName) (g : Group) (t : Place) → length (four_rows code g t) ≡ 4
unfolding four_rows
as_many_rows code g t = refl

row_below : (g : Group) → row_of g < 4
row_below group.X = lit< tt
row_below group.Y = lit< tt

pivot_row_is : (code : CodeName) (g : Group) (t : Place) → row_at (four_rows code g t) (row_of g)
    ≡ map (times 1) (row_at (rows_by_index (tables_of code)) (row_of g))
unfolding rows_by_index four_rows cleared_at
pivot_row_is code group.X t = refl
pivot_row_is code group.Y t = refl

others_are : (code : CodeName) (g : Group) (t : Place) (s : ℕ) → s < 4 → s ≢ row_of g → row_at (four_rows code g t) s
    ≡ sums (row_at (rows_by_index (tables_of code)) s) (map (times (coefficient (rows_by_index (tables_of code)) s (index_of t)))
    (map (times 1) (row_at (rows_by_index (tables_of code)) (row_of g))))
unfolding rows_by_index four_rows cleared_at
others_are code group.X t zero h ne = absurd (ne refl)
others_are code group.X t (suc zero) h ne = refl
others_are code group.X t (suc (suc zero)) h ne = refl
others_are code group.X t (suc (suc (suc zero))) h ne = refl
others_are code group.X t (suc (suc (suc (suc s)))) h ne = absurd (omega arith)
others_are code group.Y t zero h ne = refl
others_are code group.Y t (suc zero) h ne = absurd (ne refl)
others_are code group.Y t (suc (suc zero)) h ne = refl
others_are code group.Y t (suc (suc (suc zero))) h ne = refl
others_are code group.Y t (suc (suc (suc (suc s)))) h ne = absurd (omega arith)

-- the pivots, row by row
abbrev pub four_pivots : Group → Place → List (Option Place)
four_pivots group.X t = Some t ∷ Some Py ∷ Some P0 ∷ Some P1 ∷ []
four_pivots group.Y t = Some Px ∷ Some t ∷ Some P0 ∷ Some P1 ∷ []

-- the parity of the other group
abbrev pub other_parity : Group → Place
other_parity group.X = Py
other_parity group.Y = Px

as_many : (g : Group) (t : Place) → length (four_pivots g t) ≡ 4
as_many group.X t = refl
as_many group.Y t = refl

each : (code : CodeName) (lost : List Bool) (g : Group) (t : Place) → PivotTo lost (four_rows code g t) 16 (row_of g) (Some t)
    → ((q : ℕ) → q < 4 → (row_of g == q) ≡ false → is_in lost (parity q) ≡ true → PivotTo lost (four_rows code g t) 16 q (Some (parity q)))
    → is_in lost (other_parity g) ≡ true → is_in lost P0 ≡ true → is_in lost P1 ≡ true
    → (i : ℕ) → i < 4 → PivotTo lost (four_rows code g t) 16 i (get_or (four_pivots g t) i None)
each code lost group.X t a p o l0 l1 zero h = a
each code lost group.X t a p o l0 l1 (suc zero) h = p 1 (lit< tt) refl o
each code lost group.X t a p o l0 l1 (suc (suc zero)) h = p 2 (lit< tt) refl l0
each code lost group.X t a p o l0 l1 (suc (suc (suc zero))) h = p 3 (lit< tt) refl l1
each code lost group.X t a p o l0 l1 (suc (suc (suc (suc i)))) h = absurd (omega arith)
each code lost group.Y t a p o l0 l1 zero h = p 0 (lit< tt) refl o
each code lost group.Y t a p o l0 l1 (suc zero) h = a
each code lost group.Y t a p o l0 l1 (suc (suc zero)) h = p 2 (lit< tt) refl l0
each code lost group.Y t a p o l0 l1 (suc (suc (suc zero))) h = p 3 (lit< tt) refl l1
each code lost group.Y t a p o l0 l1 (suc (suc (suc (suc i)))) h = absurd (omega arith)

module _ (code : CodeName) (lost : List Bool) (g : Group) (t : Place) (here : has_place (tables_of code) t ≡ true)
    (of : group_of t ≡ Some g)
    (lost_t : is_in lost t ≡ true) (lost_other : is_in lost (other_parity g) ≡ true) (lost_p0 : is_in lost P0 ≡ true)
    (lost_p1 : is_in lost P1 ≡ true) where
  abbrev before : List (List ℕ)
  before = rows_by_index (tables_of code)

  cleared : IsCleared before (four_rows code g t) (row_of g) (index_of t)
  cleared = record {
    scalar = 1;
    is_byte = lit< tt;
    inverts = ap (λ x. times x 1) (own_one code g t here of) ∙ times-one 1 (lit< tt);
    four = as_many_rows code g t;
    pivot_row = pivot_row_is code g t;
    others = others_are code g t;
  }

  at_target : PivotTo lost (four_rows code g t) 16 (row_of g) (Some t)
  at_target = (
    index_of-lt t,
    lost_t,
    cleared_one before (four_rows code g t) (row_of g) (index_of t) (row_below g) (index_of-lt t) (equations_shape code) cleared,
    cleared_zero before (four_rows code g t) (row_of g) (index_of t) (row_below g) (index_of-lt t) (equations_shape code) cleared,
  )

  -- a parity of another row keeps its column
  at_parity : (q : ℕ) → q < 4 → (row_of g == q) ≡ false → is_in lost (parity q) ≡ true
      → PivotTo lost (four_rows code g t) 16 q (Some (parity q))
  at_parity q hq ne l = (
    index_of-lt (parity q),
    l,
    kept q hq ∙ same q,
    λ s hs other. kept s hs ∙ ap (λ b. cond b 1 0) (differs s q other),
  )
    where
      kept : (s : ℕ) → s < 4 → coefficient (four_rows code g t) s (index_of (parity q)) ≡ cond (s == q) 1 0
      kept s hs = cleared_keeps before (four_rows code g t) (row_of g) (index_of t) (row_below g) (index_of-lt t)
          (equations_shape code) cleared (index_of (parity q)) (index_of-lt (parity q))
          (parity_column code q hq (row_of g) (row_below g) ∙ ap (λ b. cond b 1 0) ne) s hs
          ∙ parity_column code q hq s hs

      same : (n : ℕ) → ◌≡◌ {A = ℕ} (cond (n == n) 1 0) 1
      same n = grind arith

      differs : (m n : ℕ) → m ≢ n → (m == n) ≡ false
      differs m n h = grind arith

  pub four_reduced : IsReduction (tables_of code) (is_in lost) (record { rows = four_rows code g t; pivots = four_pivots g t })
  four_reduced = reduced_end code lost (four_rows code g t) (four_pivots g t) (record {
    shape = cleared_shape before (four_rows code g t) (row_of g) (index_of t) (row_below g) (index_of-lt t) (equations_shape code) cleared;
    same = cleared_same before (four_rows code g t) (row_of g) (index_of t) (row_below g) (index_of-lt t) (equations_shape code) cleared;
    four = as_many g t;
    spans = cleared_spans before (four_rows code g t) (row_of g) (index_of t) (row_below g) (equations_shape code) cleared
        (equations_span code);
    empty = λ q hq z s hs. cleared_keeps before (four_rows code g t) (row_of g) (index_of t) (row_below g) (index_of-lt t)
        (equations_shape code) cleared q hq (z (row_of g) (row_below g)) s hs ∙ z s hs;
    pivot = each code lost g t at_target at_parity lost_other lost_p0 lost_p1;
  })
