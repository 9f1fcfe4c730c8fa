-- Bytes for the lost places that satisfy the rows.
use Rattle.lrc_code.specs.Code.{Code}
use Rattle.std.proofs.Common.{◌≡◌, ◌≢◌, ◌<◌, ℕ, Bool, true, false, cond, List, [], ◌∷◌, Option, Some, None, refl, sym, ◌∙◌, ap, arith, lit<}
use Rattle.std.proofs.Common.{inl, inr, ◌⊎◌, ◌↔◌}
use Rattle.std.proofs.lemmas.Bool.{eq-eqb}
use Rattle.std.proofs.lemmas.Bool.Decides.{eqb_tells}
use Rattle.lrc_code.specs.declared.places.Place.{Place}
use Rattle.lrc_code.specs.declared.places.Place.TheVariants.{X0}
use Rattle.std.specs.Int.Bits.{bit_xor}
use Rattle.lrc_field.specs.Field.{times}
use Rattle.lrc_code.specs.Places.{index_of, same_place, all_places}
use Rattle.lrc_code.specs.Sums.{GivesBytes, sum_over}
use Rattle.std.specs.Int.Bits.{xor_assoc, xor_zero_r, xor_zero_l, xor_self}
use Rattle.std.proofs.lemmas.Nat.{xor_lt}
use Rattle.lrc_field.proofs.FieldLaws.{times-zero_r, times-zero, times-xor, times-one, times-one_r, times_lt}
use Rattle.lrc_code.proofs.PlaceSums.{same_place-eq, sum_over-add, sum_over-same, sum_over-single}
use Rattle.lrc_plan.specs.Planned.{ExtensionsDiffer, Extends}
use Rattle.lrc_plan.specs.Rows.{dot, row_sum, AreReduced, GiveTarget}

one-ne-zero : ◌≡◌ {A = ℕ} 1 0 → ⊥
one-ne-zero e = absurd (omega (arith, e))

-- a row's sum is linear
pub row_sum-add : (coef : ℕ → Place → ℕ) (r : ℕ) (b d : Place → ℕ)
    → row_sum coef r (λ p. bit_xor (b p) (d p)) ≡ bit_xor (row_sum coef r b) (row_sum coef r d)
row_sum-add coef r b d =
    sum_over-same all_places (λ p. times (coef r p) (bit_xor (b p) (d p)))
    (λ p. bit_xor (times (coef r p) (b p)) (times (coef r p) (d p)))
    (λ p. times-xor (coef r p) (b p) (d p))
    ∙ sum_over-add all_places (λ p. times (coef r p) (b p)) (λ p. times (coef r p) (d p))

mul-cond : (c v : ℕ) (t : Bool) → times c (cond t v 0) ≡ cond t (times c v) 0
mul-cond c v true = refl
mul-cond c v false = times-zero_r c

-- the sum of a row over a single place
pub row_sum-single : (coef : ℕ → Place → ℕ) (r : ℕ) (q : Place) (v : ℕ)
    → row_sum coef r (λ p. cond (same_place q p) v 0) ≡ times (coef r q) v
row_sum-single coef r q v =
    sum_over-same all_places (λ p. times (coef r p) (cond (same_place q p) v 0))
    (λ p. cond (same_place q p) (times (coef r p) v) 0) (λ p. mul-cond (coef r p) v (same_place q p))
    ∙ sum_over-single q (λ p. times (coef r p) v)

pub zeros : (ps : List Place) → sum_over ps (λ p. 0) ≡ 0
zeros [] = refl
zeros (p ∷ ps) = ap (λ x. bit_xor 0 x) (zeros ps) ∙ xor_zero_r 0

-- a sum of products is a byte
pub products_small : (ps : List Place) (c b : Place → ℕ) → sum_over ps (λ p. times (c p) (b p)) < 256
products_small [] c b = omega arith
products_small (p ∷ ps) c b = xor_lt 8 _ _ (times_lt _ _) (products_small ps c b)

-- a byte or 0 is a byte
pub cond_small : (t : Bool) (n : ℕ) → n < 256 → cond t n 0 < 256
cond_small true n h = h
cond_small false n h = omega arith

-- what a pivot's place gets
abbrev pub part : Option Place → ℕ → Place → ℕ
part None v p = 0
part (Some q) v p = cond (same_place q p) v 0

-- what it adds to a row
abbrev pub term : Option Place → (Place → ℕ) → ℕ → ℕ
term None c v = 0
term (Some q) c v = times (c q) v

row_sum-part : (coef : ℕ → Place → ℕ) (r : ℕ) (o : Option Place) (v : ℕ)
    → row_sum coef r (part o v) ≡ term o (coef r) v
row_sum-part coef r None v =
    sum_over-same all_places (λ p. times (coef r p) 0) (λ p. 0) (λ p. times-zero_r (coef r p))
    ∙ zeros all_places
row_sum-part coef r (Some q) v = row_sum-single coef r q v

module _ (code : Code) (survives : Place → Bool) (coef : ℕ → Place → ℕ) (pivot : ℕ → Option Place)
    (red : AreReduced code survives coef pivot) (s : Place → ℕ) (small : GivesBytes s) (f : Place) (x : ℕ)
    (x_small : x < 256) where
  -- the survivors' bytes, and 0 elsewhere
  abbrev pub kept : Place → ℕ
  kept p = cond (survives p) (s p) 0

  -- what a row's pivot has to be
  abbrev pub val : ℕ → ℕ
  val j = bit_xor (row_sum coef j kept) (times (coef j f) x)

  abbrev pub parts : Place → ℕ
  parts p = bit_xor (part (pivot 0) (val 0) p)
      (bit_xor (part (pivot 1) (val 1) p) (bit_xor (part (pivot 2) (val 2) p) (part (pivot 3) (val 3) p)))

  abbrev pub extension : Place → ℕ
  extension p = bit_xor (kept p) (bit_xor (parts p) (cond (same_place f p) x 0))

  abbrev terms : ℕ → ℕ
  terms r = bit_xor (term (pivot 0) (coef r) (val 0))
      (bit_xor (term (pivot 1) (coef r) (val 1))
      (bit_xor (term (pivot 2) (coef r) (val 2)) (term (pivot 3) (coef r) (val 3))))

  sum_parts : (r : ℕ) → row_sum coef r parts ≡ terms r
  sum_parts r =
      row_sum-add coef r (part (pivot 0) (val 0))
      (λ p. bit_xor (part (pivot 1) (val 1) p)
      (bit_xor (part (pivot 2) (val 2) p) (part (pivot 3) (val 3) p)))
      ∙ cc (
        row_sum-add coef r (part (pivot 1) (val 1))
            (λ p. bit_xor (part (pivot 2) (val 2) p) (part (pivot 3) (val 3) p)),
        row_sum-add coef r (part (pivot 2) (val 2)) (part (pivot 3) (val 3)),
        row_sum-part coef r (pivot 0) (val 0),
        row_sum-part coef r (pivot 1) (val 1),
        row_sum-part coef r (pivot 2) (val 2),
        row_sum-part coef r (pivot 3) (val 3),
      )

  pub row_sum-extension : (r : ℕ)
      → row_sum coef r extension ≡ bit_xor (row_sum coef r kept) (bit_xor (terms r) (times (coef r f) x))
  row_sum-extension r =
      row_sum-add coef r kept (λ p. bit_xor (parts p) (cond (same_place f p) x 0))
      ∙ ap (λ y. bit_xor (row_sum coef r kept) y)
      (row_sum-add coef r parts (λ p. cond (same_place f p) x 0) ∙ cc
      (sum_parts r, row_sum-single coef r f x))

  -- another row's pivot adds nothing
  other : (r j : ℕ) → r < 4 → j < 4 → j ≢ r → (o : Option Place) → pivot j ≡ o → (v : ℕ) → term o (coef r) v ≡ 0
  other r j hr hj d None e v = refl
  other r j hr hj d (Some q) e v = ap (λ c. times c v) (red.alone j r q hj hr e (λ k. d (sym k))) ∙ times-zero v

  -- at a row without a pivot no pivot adds anything
  free_other : (r j : ℕ) → r < 4 → j < 4 → pivot r ≡ None → (o : Option Place) → pivot j ≡ o → (v : ℕ)
      → term o (coef r) v ≡ 0
  free_other r j hr hj n None e v = refl
  free_other r j hr hj n (Some q) e v =
      ap (λ c. times c v) (red.free r q hr n (red.lost j q hj e)) ∙ times-zero v

  -- a row's own pivot adds its value
  own : (r : ℕ) → r < 4 → (q : Place) → pivot r ≡ Some q → (v : ℕ) → v < 256 → term (pivot r) (coef r) v ≡ v
  own r hr q e v k = ap (λ o. term o (coef r) v) e ∙ ap (λ c. times c v) (red.one r q hr e) ∙ times-one v k

  kept_small : GivesBytes kept
  kept_small p = cond_small (survives p) (s p) (small p)

  val_small : (j : ℕ) → val j < 256
  val_small j = xor_lt 8 _ _ (products_small all_places (coef j) kept) (times_lt _ _)

  part_small : (o : Option Place) (v : ℕ) → v < 256 → (p : Place) → part o v p < 256
  part_small None v h p = omega arith
  part_small (Some q) v h p = cond_small (same_place q p) v h

  pub extension-small : GivesBytes extension
  extension-small p =
      xor_lt 8 _ _ (kept_small p)
      (xor_lt 8 _ _ (xor_lt 8 _ _ (part_small (pivot 0) (val 0) (val_small 0) p)
      (xor_lt 8 _ _ (part_small (pivot 1) (val 1) (val_small 1) p)
      (xor_lt 8 _ _ (part_small (pivot 2) (val 2) (val_small 2) p)
      (part_small (pivot 3) (val 3) (val_small 3) p))))
      (cond_small (same_place f p) x x_small))

  abbrev four : (a b c d : ℕ) → ℕ
  four a b c d = bit_xor a (bit_xor b (bit_xor c d))

  four-0 : (a b c d v : ℕ) → a ≡ v → b ≡ 0 → c ≡ 0 → d ≡ 0 → four a b c d ≡ v
  four-0 a b c d v p q r t = rw (p, q, r, t) (simp (xor_zero_r))

  four-1 : (a b c d v : ℕ) → a ≡ 0 → b ≡ v → c ≡ 0 → d ≡ 0 → four a b c d ≡ v
  four-1 a b c d v p q r t = rw (p, q, r, t) (simp (xor_zero_r))

  four-2 : (a b c d v : ℕ) → a ≡ 0 → b ≡ 0 → c ≡ v → d ≡ 0 → four a b c d ≡ v
  four-2 a b c d v p q r t = rw (p, q, r, t) (simp (xor_zero_r))

  four-3 : (a b c d v : ℕ) → a ≡ 0 → b ≡ 0 → c ≡ 0 → d ≡ v → four a b c d ≡ v
  four-3 a b c d v p q r t = rw (p, q, r, t) refl

  below_four : (r : ℕ) → r < 4 → (r ≡ 0) ⊎ ((r ≡ 1) ⊎ ((r ≡ 2) ⊎ (r ≡ 3)))
  below_four r h = elim (eqb_tells r 0) [
    | inl a ↦ inl a.1
    | inr a ↦ elim (eqb_tells r 1) [
      | inl b ↦ inr (inl b.1)
      | inr b ↦ elim (eqb_tells r 2) [
        | inl c ↦ inr (inr (inl c.1))
        | inr c ↦ inr (inr (inr (omega (arith, a.1, b.1, c.1))))
      ]
    ]
  ]

  at_pivot_0 : (q : Place) → pivot 0 ≡ Some q → terms 0 ≡ val 0
  at_pivot_0 q e = four-0 _ _ _ _ _ (own 0 (omega arith) q e _ (val_small 0))
      (other 0 1 (omega arith) (omega arith) (omega arith) _ refl _)
      (other 0 2 (omega arith) (omega arith) (omega arith) _ refl _)
      (other 0 3 (omega arith) (omega arith) (omega arith) _ refl _)

  at_pivot_1 : (q : Place) → pivot 1 ≡ Some q → terms 1 ≡ val 1
  at_pivot_1 q e = four-1 _ _ _ _ _ (other 1 0 (omega arith) (omega arith) (omega arith) _ refl _)
      (own 1 (omega arith) q e _ (val_small 1))
      (other 1 2 (omega arith) (omega arith) (omega arith) _ refl _)
      (other 1 3 (omega arith) (omega arith) (omega arith) _ refl _)

  at_pivot_2 : (q : Place) → pivot 2 ≡ Some q → terms 2 ≡ val 2
  at_pivot_2 q e = four-2 _ _ _ _ _ (other 2 0 (omega arith) (omega arith) (omega arith) _ refl _)
      (other 2 1 (omega arith) (omega arith) (omega arith) _ refl _)
      (own 2 (omega arith) q e _ (val_small 2)) (other 2 3 (omega arith) (omega arith) (omega arith) _ refl _)

  at_pivot_3 : (q : Place) → pivot 3 ≡ Some q → terms 3 ≡ val 3
  at_pivot_3 q e = four-3 _ _ _ _ _ (other 3 0 (omega arith) (omega arith) (omega arith) _ refl _)
      (other 3 1 (omega arith) (omega arith) (omega arith) _ refl _)
      (other 3 2 (omega arith) (omega arith) (omega arith) _ refl _) (own 3 (omega arith) q e _ (val_small 3))

  at_pivot : (r : ℕ) → r < 4 → (q : Place) → pivot r ≡ Some q → terms r ≡ val r
  at_pivot r h q e = elim (below_four r h) as (λ _. terms r ≡ val r) [
    | inl z ↦ rw z (at_pivot_0 q (rw z at e))
    | inr w ↦ elim w as (λ _. terms r ≡ val r) [
      | inl z ↦ rw z (at_pivot_1 q (rw z at e))
      | inr v ↦ elim v as (λ _. terms r ≡ val r)
          [ inl z ↦ rw z (at_pivot_2 q (rw z at e)) | inr z ↦ rw z (at_pivot_3 q (rw z at e)) ]
    ]
  ]

  at_free : (r : ℕ) → r < 4 → pivot r ≡ None → terms r ≡ 0
  at_free r h n = four-0 _ _ _ _ _ (free_other r 0 h (omega arith) n _ refl _)
      (free_other r 1 h (omega arith) n _ refl _) (free_other r 2 h (omega arith) n _ refl _)
      (free_other r 3 h (omega arith) n _ refl _)

  cancel : (a b : ℕ) → bit_xor a (bit_xor (bit_xor a b) b) ≡ 0
  cancel a b =
      ap (λ y. bit_xor a y) (xor_assoc a b b ∙ ap (λ y. bit_xor a y) (xor_self b) ∙ xor_zero_r a) ∙ xor_self a

  -- a row with a pivot holds
  pub holds_at_pivot : (r : ℕ) → r < 4 → (q : Place) → pivot r ≡ Some q → row_sum coef r extension ≡ 0
  holds_at_pivot r h q e =
      row_sum-extension r
      ∙ ap (λ y. bit_xor (row_sum coef r kept) (bit_xor y (times (coef r f) x))) (at_pivot r h q e)
      ∙ cancel (row_sum coef r kept) (times (coef r f) x)

  -- a row without one says what it says of the survivors
  pub same_at_free : (r : ℕ) → r < 4 → pivot r ≡ None → (survives f ≡ false) ⊎ (x ≡ 0)
      → row_sum coef r extension ≡ row_sum coef r kept
  same_at_free r h n w =
      row_sum-extension r
      ∙ ap (λ y. bit_xor (row_sum coef r kept) y) (cc (at_free r h n, nothing w, xor_zero_r 0)) ∙ xor_zero_r _
    where
      nothing : (survives f ≡ false) ⊎ (x ≡ 0) → times (coef r f) x ≡ 0
      nothing (inl l) = ap (λ c. times c x) (red.free r f h n l) ∙ times-zero x
      nothing (inr z) = ap (λ y. times (coef r f) y) z ∙ times-zero_r (coef r f)

  -- a survivor keeps its byte
  no_part : (j : ℕ) → j < 4 → (o : Option Place) → pivot j ≡ o → (v : ℕ) (p : Place) → survives p ≡ true
      → part o v p ≡ 0
  no_part j h None e v p k = refl
  no_part j h (Some q) e v p k = elim (eqb_tells (index_of q) (index_of p)) as (λ _. cond (same_place q p) v 0 ≡ 0) [
    | inl w ↦ absurd (true_not_false (sym k ∙ ap survives (sym (same_place-eq q p w.0)) ∙ red.lost j q h e))
    | inr w ↦ ap (λ t. cond t v 0) w.0
  ]
    where
      true_not_false : true ≡ false → ⊥
      true_not_false e = cc

  three : (a b c v : ℕ) → a ≡ v → b ≡ 0 → c ≡ 0 → bit_xor a (bit_xor b c) ≡ v
  three a b c v p q r = rw (p, q, r) (simp (xor_zero_r))

  no_free : (p : Place) → (survives f ≡ false) ⊎ (x ≡ 0) → survives p ≡ true → cond (same_place f p) x 0 ≡ 0
  no_free p (inr z) k = elim (same_place f p) as (λ t. cond t x 0 ≡ 0) [ true ↦ z | false ↦ refl ]
  no_free p (inl l) k = elim (eqb_tells (index_of f) (index_of p)) as (λ _. cond (same_place f p) x 0 ≡ 0) [
    | inl w ↦ absurd (true_not_false (sym k ∙ ap survives (sym (same_place-eq f p w.0)) ∙ l))
    | inr w ↦ ap (λ t. cond t x 0) w.0
  ]
    where
      true_not_false : true ≡ false → ⊥
      true_not_false e = cc

  pub extension-kept : (p : Place) → (survives f ≡ false) ⊎ (x ≡ 0) → survives p ≡ true → extension p ≡ s p
  extension-kept p w k =
      three _ _ _ _ (ap (λ t. cond t (s p) 0) k)
      (four-0 _ _ _ _ _ (no_part 0 (omega arith) _ refl _ p k) (no_part 1 (omega arith) _ refl _ p k)
      (no_part 2 (omega arith) _ refl _ p k) (no_part 3 (omega arith) _ refl _ p k)) (no_free p w k)

  -- the extension is one, where the rows without a pivot hold of the survivors
  pub is_extension : (survives f ≡ false) ⊎ (x ≡ 0)
      → ((r : ℕ) → r < 4 → pivot r ≡ None → row_sum coef r kept ≡ 0) → Extends code survives s extension
  is_extension w hold = record {
    bytes = extension-small;
    solves = (red.same extension extension-small).1 (λ r h. row r h (pivot r) refl);
    kept = λ p k. extension-kept p w k;
  }
    where
      row : (r : ℕ) → r < 4 → (o : Option Place) → pivot r ≡ o → row_sum coef r extension ≡ 0
      row r h None e = same_at_free r h e w ∙ hold r h e
      row r h (Some q) e = holds_at_pivot r h q e

  -- a place that is no pivot has no part
  pub no_parts : (t : Place) → ((j : ℕ) → j < 4 → pivot j ≢ Some t) → parts t ≡ 0
  no_parts t none = four-0 _ _ _ _ _ (p 0 (omega arith) _ refl) (p 1 (omega arith) _ refl)
      (p 2 (omega arith) _ refl) (p 3 (omega arith) _ refl)
    where
      p : (j : ℕ) → j < 4 → (o : Option Place) → pivot j ≡ o → part o (val j) t ≡ 0
      p j h None e = refl
      p j h (Some q) e = elim (eqb_tells (index_of q) (index_of t)) as (λ _. cond (same_place q t) (val j) 0 ≡ 0) [
        | inl w ↦ absurd (none j h (e ∙ ap (λ y. Some y) (same_place-eq q t w.0)))
        | inr w ↦ ap (λ b. cond b (val j) 0) w.0
      ]

  -- a pivot has its row's part alone
  pub own_part : (r : ℕ) (t : Place) → r < 4 → pivot r ≡ Some t → parts t ≡ val r
  own_part r t h e = elim (below_four r h) as (λ _. parts t ≡ val r) [
    | inl z ↦ rw z (four-0 _ _ _ _ _ (mine 0 (rw z at e)) (others 1 (omega arith) (omega arith) _ refl)
        (others 2 (omega arith) (omega arith) _ refl) (others 3 (omega arith) (omega arith) _ refl))
    | inr w ↦ elim w as (λ _. parts t ≡ val r) [
      | inl z ↦ rw z (four-1 _ _ _ _ _ (others 0 (omega arith) (omega arith) _ refl) (mine 1 (rw z at e))
          (others 2 (omega arith) (omega arith) _ refl) (others 3 (omega arith) (omega arith) _ refl))
      | inr v ↦ elim v as (λ _. parts t ≡ val r) [
        | inl z ↦ rw z (four-2 _ _ _ _ _ (others 0 (omega arith) (omega arith) _ refl)
            (others 1 (omega arith) (omega arith) _ refl) (mine 2 (rw z at e))
            (others 3 (omega arith) (omega arith) _ refl))
        | inr z ↦ rw z (four-3 _ _ _ _ _ (others 0 (omega arith) (omega arith) _ refl)
            (others 1 (omega arith) (omega arith) _ refl) (others 2 (omega arith) (omega arith) _ refl)
            (mine 3 (rw z at e)))
      ]
    ]
  ]
    where
      mine : (j : ℕ) → pivot j ≡ Some t → part (pivot j) (val j) t ≡ val j
      mine j k =
          ap (λ o. part o (val j) t) k ∙ ap (λ b. cond b (val j) 0) (eq-eqb (index_of t) (index_of t) refl)

      others : (j : ℕ) → j < 4 → j ≢ r → (o : Option Place) → pivot j ≡ o → part o (val j) t ≡ 0
      others j hj d None k = refl
      others j hj d (Some q) k = elim (eqb_tells (index_of q) (index_of t)) as
          (λ _. cond (same_place q t) (val j) 0 ≡ 0) [
            | inl w ↦ absurd (one-ne-zero (sym (red.one j t hj (k ∙ ap (λ y. Some y) (same_place-eq q t w.0)))
                ∙ red.alone r j t h hj e d))
            | inr w ↦ ap (λ b. cond b (val j) 0) w.0
          ]

-- coefficients that are 0 at lost places read the survivors alone
pub reads_survivors : (survives : Place → Bool) (s c e : Place → ℕ) → ((p : Place) → survives p ≡ true → e p ≡ s p)
    → ((p : Place) → survives p ≡ false → c p ≡ 0) → dot c e ≡ dot c s
reads_survivors survives s c e k z = sum_over-same all_places _ _ (λ p. at p (survives p) refl)
  where
    at : (p : Place) (t : Bool) → survives p ≡ t → times (c p) (e p) ≡ times (c p) (s p)
    at p true h = ap (λ y. times (c p) y) (k p h)
    at p false h = rw (z p h) (times-zero (e p) ∙ sym (times-zero (s p)))

module _ (code : Code) (survives : Place → Bool) (coef : ℕ → Place → ℕ) (pivot : ℕ → Option Place)
    (red : AreReduced code survives coef pivot) (s : Place → ℕ) (small : GivesBytes s) where
  -- when survivors' bytes have an extension
  pub has_extension : ((e : Place → ℕ) × Extends code survives s e) ↔
      ((r : ℕ) → r < 4 → pivot r ≡ None → row_sum coef r s ≡ 0)
  has_extension = (there, back)
    where
      there : (e : Place → ℕ) × Extends code survives s e → (r : ℕ) → r < 4 → pivot r ≡ None
          → row_sum coef r s ≡ 0
      there (e, x) r h n =
          sym (reads_survivors survives s (coef r) e x.kept (λ p l. red.free r p h n l))
          ∙ (red.same e x.bytes).0 x.solves r h

      back : ((r : ℕ) → r < 4 → pivot r ≡ None → row_sum coef r s ≡ 0)
          → (e : Place → ℕ) × Extends code survives s e
      back k = (
        extension code survives coef pivot red s small X0 0
            (omega arith),
        is_extension code survives coef pivot red s small X0 0 (omega arith) (inr refl)
            (λ r h n. reads_survivors survives s (coef r) (λ p. cond (survives p) (s p) 0)
            (λ p t. ap (λ b. cond b (s p) 0) t) (λ p l. red.free r p h n l) ∙ k r h n),
      )

-- the target's byte, where coefficients whose sum is 0 are 0 at every other lost place
module _ (code : Code) (survives : Place → Bool) (c : Place → ℕ) (t : Place) (one : c t ≡ 1) (z : GiveTarget survives c t) where
  pub determined : (s e : Place → ℕ) → dot c e ≡ 0 → Extends code survives s e
      → dot (λ p. cond (same_place t p) 0 (c p)) s ≡ e t
  determined s e holds x = reads_back ∙ sum_is (dot cut e) (e t) (sym split_row ∙ holds)
    where
      cut : Place → ℕ
      cut p = cond (same_place t p) 0 (c p)

      sum_is : (a b : ℕ) → bit_xor a b ≡ 0 → a ≡ b
      sum_is a b k =
          sym (xor_zero_r a) ∙ ap (λ y. bit_xor a y) (sym (xor_self b)) ∙ sym (xor_assoc a b b)
          ∙ ap (λ y. bit_xor y b) k ∙ xor_zero_l b

      cut_lost : (p : Place) (u : Bool) → same_place t p ≡ u → survives p ≡ false → cond u 0 (c p) ≡ 0
      cut_lost p true k l = refl
      cut_lost p false k l = z p l k

      reads_back : dot cut s ≡ dot cut e
      reads_back = sym (reads_survivors survives s cut e x.kept (λ p l. cut_lost p (same_place t p) refl l))

      piece : (d y : ℕ) (u : Bool) → times d y ≡ bit_xor (times (cond u 0 d) y) (cond u (times d y) 0)
      piece d y true = sym (ap (λ v. bit_xor v (times d y)) (times-zero y) ∙ xor_zero_l (times d y))
      piece d y false = sym (xor_zero_r (times d y))

      own_byte : times (c t) (e t) ≡ e t
      own_byte = ap (λ d. times d (e t)) one ∙ times-one (e t) (x.bytes t)

      split_row : dot c e ≡ bit_xor (dot cut e) (e t)
      split_row =
          sum_over-same all_places _ _ (λ p. piece (c p) (e p) (same_place t p))
          ∙ sum_over-add all_places (λ p. times (cut p) (e p))
          (λ p. cond (same_place t p) (times (c p) (e p)) 0)
          ∙ ap (λ y. bit_xor (dot cut e) y)
          (sum_over-single t (λ p. times (c p) (e p)) ∙ own_byte)

module _ (code : Code) (survives : Place → Bool) (coef : ℕ → Place → ℕ) (pivot : ℕ → Option Place)
    (red : AreReduced code survives coef pivot) where
  abbrev nil : Place → ℕ
  nil p = 0

  nil_small : GivesBytes nil
  nil_small p = omega arith

  same_cond : (u : Bool) → ◌≡◌ {A = ℕ} (cond u 0 0) 0
  same_cond true = refl
  same_cond false = refl

  nil_row : (r : ℕ) → row_sum coef r (λ p. cond (survives p) 0 0) ≡ 0
  nil_row r =
      sum_over-same all_places _ (λ p. 0)
      (λ p. ap (λ y. times (coef r p) y) (same_cond (survives p)) ∙ times-zero_r (coef r p))
      ∙ zeros all_places

  -- nothing, changed at one place
  abbrev moved : Place → (x : ℕ) → x < 256 → Place → ℕ
  moved f x h = extension code survives coef pivot red nil nil_small f x h

  moves : (f : Place) (x : ℕ) (h : x < 256) → survives f ≡ false → Extends code survives nil (moved f x h)
  moves f x h l = is_extension code survives coef pivot red nil nil_small f x h (inl l) (λ r k n. nil_row r)

  first_zero : (a b c v : ℕ) → a ≡ 0 → bit_xor b c ≡ v → bit_xor a (bit_xor b c) ≡ v
  first_zero a b c v p q = ap (λ y. bit_xor y (bit_xor b c)) p ∙ xor_zero_l (bit_xor b c) ∙ q

  -- a lost place that is no pivot takes any byte
  pub free_differs : (t : Place) → survives t ≡ false → ((j : ℕ) → j < 4 → pivot j ≢ Some t)
      → ExtensionsDiffer code survives t
  free_differs t l none = (
    nil,
    moved t 0 (omega arith),
    moved t 1 (lit< tt),
    nil_small,
    moves t 0
        (omega arith) l,
    moves t 1 (lit< tt) l,
    λ e. one-ne-zero
        (sym (value 1 (lit< tt)) ∙ sym e ∙ value 0 (omega arith)),
  )
    where
      value : (x : ℕ) (h : x < 256) → moved t x h t ≡ x
      value x h = first_zero (cond (survives t) 0 0) (parts code survives coef pivot red nil nil_small t x h t)
          (cond (same_place t t) x 0) x (same_cond (survives t))
          (ap (λ y. bit_xor y (cond (same_place t t) x 0))
          (no_parts code survives coef pivot red nil nil_small t x h t none) ∙ xor_zero_l
          (cond (same_place t t) x 0) ∙ ap (λ b. cond b x 0) (eq-eqb (index_of t) (index_of t) refl))

  -- so does a pivot whose row has another lost place
  pub pivot_differs : (r : ℕ) (t f : Place) → r < 4 → pivot r ≡ Some t → survives f ≡ false
      → same_place f t ≡ false → coef r f ≢ 0 → ExtensionsDiffer code survives t
  pivot_differs r t f h e l apart c = (
    nil,
    moved f 0 (omega arith),
    moved f 1 (lit< tt),
    nil_small,
    moves f 0 (omega arith) l,
    moves f 1
        (lit< tt) l,
    λ k. c (sym (times-one_r (coef r f) (red.small r f)) ∙ sym (value 1 (lit< tt)) ∙ sym k
        ∙ value 0 (omega arith) ∙ times-zero_r (coef r f)),
  )
    where
      value : (x : ℕ) (h : x < 256) → moved f x h t ≡ times (coef r f) x
      value x k = first_zero (cond (survives t) 0 0) (parts code survives coef pivot red nil nil_small f x k t)
          (cond (same_place f t) x 0) (times (coef r f) x) (same_cond (survives t))
          (ap (λ y. bit_xor y (cond (same_place f t) x 0))
          (own_part code survives coef pivot red nil nil_small f x k r t h e) ∙ ap
          (λ b. bit_xor (bit_xor (row_sum coef r (λ p. cond (survives p) 0 0)) (times (coef r f) x))
          (cond b x 0)) apart ∙ xor_zero_r
          (bit_xor (row_sum coef r (λ p. cond (survives p) 0 0)) (times (coef r f) x)) ∙ ap
          (λ y. bit_xor y (times (coef r f) x)) (nil_row r) ∙ xor_zero_l (times (coef r f) x))
