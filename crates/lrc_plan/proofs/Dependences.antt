-- Fewer rows than places: some bytes at the places, not all 0, have the sum 0 with each row.
use Rattle.std.proofs.Common.{◌≡◌, ◌≢◌, ◌<◌, ℕ, zero, suc, Bool, true, false, cond, ◌||◌, List, [], ◌∷◌, length, Option, Some, None, refl}
use Rattle.std.proofs.Common.{sym, ◌∙◌, ap, ap₂, arith, inl, inr, ◌⊎◌, lit<}
use Rattle.std.proofs.lemmas.Bool.{cases_Bool}
use Rattle.std.proofs.lemmas.Bool.Decides.{eqb_tells}
use Rattle.std.proofs.lemmas.Nat.{xor_lt}
use Rattle.std.specs.Int.Bits.{bit_xor, xor_zero_r, xor_zero_l, xor_self}
use Rattle.lrc_field.specs.Field.{times}
use Rattle.lrc_field.proofs.Shift.{swap_mid}
use Rattle.lrc_field.proofs.FieldLaws.{times_lt, times-zero, times-zero_r, times-one, times-xor, times-xor_l, times-assoc, times-inverse}
use Rattle.lrc_code.specs.declared.places.Place.{Place}
use Rattle.lrc_code.specs.Places.{same_place, all_places}
use Rattle.lrc_code.specs.Sums.{GivesBytes, sum_over}
use Rattle.lrc_code.proofs.PlaceSums.{same_place-eq, same_place-refl, same_place-sym, sum_over-same}
use Rattle.lrc_plan.specs.Rows.{dot}
use Rattle.lrc_plan.proofs.Extension.{row_sum-add, row_sum-single, products_small, cond_small, zeros}

-- ---- lists of places

abbrev pub member : Place → List Place → Bool
member p [] = false
member p (q ∷ qs) = same_place p q || member p qs

-- no place is there twice
abbrev pub Apart : List Place → Type 0
Apart [] = Unit {0}
Apart (p ∷ ps) = (member p ps ≡ false) × Apart ps

-- a list without the first of a place
abbrev pub without : Place → List Place → List Place
without q [] = []
without q (p ∷ ps) = cond (same_place q p) ps (p ∷ without q ps)

pub apart_bools : true ≡ false → ⊥
apart_bools e = cc

both_false : (a b : Bool) → (a || b) ≡ false → (a ≡ false) × (b ≡ false)
both_false true b h = absurd (apart_bools h)
both_false false b h = (refl, h)

pub neither : (a b : Bool) → a ≡ false → b ≡ false → (a || b) ≡ false
neither true b h k = absurd (apart_bools h)
neither false b h k = k

first_true : (a b : Bool) → a ≡ true → (a || b) ≡ true
first_true true b h = refl
first_true false b h = absurd (apart_bools (sym h))

second_true : (a b : Bool) → b ≡ true → (a || b) ≡ true
second_true true b h = refl
second_true false b h = h

length-without : (q : Place) (ps : List Place) → member q ps ≡ true → length ps ≡ suc (length (without q ps))
length-without q [] h = absurd (apart_bools (sym h))
length-without q (p ∷ ps) h = at (length-without q ps) (same_place q p) h
  where
    at : (member q ps ≡ true → length ps ≡ suc (length (without q ps)))
        → (b : Bool) → (b || member q ps) ≡ true → length (p ∷ ps) ≡ suc (length (cond b ps (p ∷ without q ps)))
    at more true k = refl
    at more false k = ap suc (more k)

member-without : (q r : Place) (ps : List Place) → member r ps ≡ false → member r (without q ps) ≡ false
member-without q r [] h = refl
member-without q r (p ∷ ps) h =
    let e = both_false (same_place r p) (member r ps) h in at e.0 e.1 (member-without q r ps e.1) (same_place q p)
  where
    at : same_place r p ≡ false → member r ps ≡ false → member r (without q ps) ≡ false
        → (b : Bool) → member r (cond b ps (p ∷ without q ps)) ≡ false
    at e f more true = f
    at e f more false = neither (same_place r p) (member r (without q ps)) e more

apart-without : (q : Place) (ps : List Place) → Apart ps → Apart (without q ps)
apart-without q [] a = tt
apart-without q (p ∷ ps) a = at (apart-without q ps a.1) (same_place q p)
  where
    at : Apart (without q ps) → (b : Bool) → Apart (cond b ps (p ∷ without q ps))
    at more true = a.1
    at more false = (member-without q p ps a.0, more)

without-itself : (q : Place) (ps : List Place) → Apart ps → member q (without q ps) ≡ false
without-itself q [] a = refl
without-itself q (p ∷ ps) a = at (without-itself q ps a.1) (same_place q p) refl
  where
    at : member q (without q ps) ≡ false
        → (b : Bool) → same_place q p ≡ b → member q (cond b ps (p ∷ without q ps)) ≡ false
    at more true e = ap (λ r. member r ps) (same_place-eq q p e) ∙ a.0
    at more false e = neither (same_place q p) (member q (without q ps)) e more

-- a function is 0 at all places of a list, or not at one of them
nonzero_in : (f : Place → ℕ) (ps : List Place)
    → ((p : Place) → member p ps ≡ true → f p ≡ 0) ⊎ ((q : Place) × (member q ps ≡ true) × (f q ≢ 0))
nonzero_in f [] = inl (λ p h. absurd (apart_bools (sym h)))
nonzero_in f (r ∷ ps) = elim (eqb_tells (f r) 0) [
  | inl z ↦ elim (nonzero_in f ps) [
    | inl a ↦ inl (λ p h. at p a z.1 (same_place p r) refl h)
    | inr w ↦ inr (w.0, second_true (same_place w.0 r) (member w.0 ps) w.1, w.2)
  ]
  | inr z ↦ inr (r, first_true (same_place r r) (member r ps) (same_place-refl r), z.1)
]
  where
    at : (p : Place) → ((p : Place) → member p ps ≡ true → f p ≡ 0) → f r ≡ 0 → (b : Bool) → same_place p r ≡ b
        → (b || member p ps) ≡ true → f p ≡ 0
    at p a z true e h = ap f (same_place-eq p r e) ∙ z
    at p a z false e h = a p h

-- ---- sums of products

dot-zero : (f v : Place → ℕ) → ((p : Place) → times (f p) (v p) ≡ 0) → dot f v ≡ 0
dot-zero f v h = sum_over-same all_places (λ p. times (f p) (v p)) (λ p. 0) h ∙ zeros all_places

-- only the places of a list count, and the function is 0 there
dot-none : (f v : Place → ℕ) (ps : List Place) → ((p : Place) → member p ps ≡ true → f p ≡ 0)
    → ((p : Place) → member p ps ≡ false → v p ≡ 0) → dot f v ≡ 0
dot-none f v ps a o = dot-zero f v (λ p. elim (cases_Bool (member p ps)) [
  | inl e ↦ ap (λ c. times c (v p)) (a p e) ∙ times-zero (v p)
  | inr e ↦ ap (times (f p)) (o p e) ∙ times-zero_r (f p)
])

scaled : (ps : List Place) (k : ℕ) (g f v : Place → ℕ)
    → sum_over ps (λ p. times (bit_xor (g p) (times k (f p))) (v p))
    ≡ bit_xor (sum_over ps (λ p. times (g p) (v p))) (times k (sum_over ps (λ p. times (f p) (v p))))
scaled [] k g f v = sym (ap (bit_xor 0) (times-zero_r k))
scaled (p ∷ ps) k g f v =
    ap₂ bit_xor (times-xor_l (g p) (times k (f p)) (v p) ∙ ap (bit_xor (times (g p) (v p))) (times-assoc k (f p) (v p)))
    (scaled ps k g f v)
    ∙ swap_mid (times (g p) (v p)) (times k (times (f p) (v p))) (sum_over ps (λ q. times (g q) (v q)))
    (times k (sum_over ps (λ q. times (f q) (v q))))
    ∙ ap (bit_xor (bit_xor (times (g p) (v p)) (sum_over ps (λ q. times (g q) (v q)))))
    (sym (times-xor k (times (f p) (v p)) (sum_over ps (λ q. times (f q) (v q)))))

-- one more place
dot-more : (f v : Place → ℕ) (q : Place) (x : ℕ)
    → dot f (λ p. bit_xor (v p) (cond (same_place q p) x 0)) ≡ bit_xor (dot f v) (times (f q) x)
dot-more f v q x =
    row_sum-add (λ r. f) 0 v (λ p. cond (same_place q p) x 0) ∙ ap (bit_xor (dot f v)) (row_sum-single (λ r. f) 0 q x)

-- ---- dependences

-- the pivots of the first n rows
abbrev pub joined : Option Place → List Place → List Place
joined None ps = ps
joined (Some p) ps = p ∷ ps

abbrev pub pivots_below : (ℕ → Option Place) → ℕ → List Place
pivots_below pivot zero = []
pivots_below pivot (suc n) = joined (pivot n) (pivots_below pivot n)

-- bytes at places of a list, not all 0, on which the first n rows are 0
pub record Dependence (n : ℕ) (rows : ℕ → Place → ℕ) (ps : List Place) : Type 0 where
  pub bytes : Place → ℕ
  pub small : GivesBytes bytes
  pub outside : (p : Place) → member p ps ≡ false → bytes p ≡ 0
  pub place : Place
  pub nonzero : bytes place ≢ 0
  pub each : (i : ℕ) → i < n → dot (rows i) bytes ≡ 0

-- a row that is 0 at all places of the list
dependence-pass : (n : ℕ) (rows : ℕ → Place → ℕ) (ps : List Place)
    → ((p : Place) → member p ps ≡ true → rows n p ≡ 0) → Dependence n rows ps → Dependence (suc n) rows ps
dependence-pass n rows ps a d = record {
  bytes = d.bytes;
  small = d.small;
  outside = d.outside;
  place = d.place;
  nonzero = d.nonzero;
  each = λ i h. elim (eqb_tells i n) [
    | inl w ↦ ap (λ k. dot (rows k) d.bytes) w.1 ∙ dot-none (rows n) d.bytes ps a d.outside
    | inr w ↦ d.each i (omega (arith, w.1, h))
  ];
}

-- the rows with a multiple of another added, which makes them 0 at q
abbrev cleared : (ℕ → Place → ℕ) → ℕ → Place → ℕ → ℕ → Place → ℕ
cleared rows n q c i p = bit_xor (rows i p) (times (times (rows i q) c) (rows n p))

-- a row that is not 0 at q
module _ (n : ℕ) (rows : ℕ → Place → ℕ) (ps : List Place) (apart : Apart ps) (q : Place) (inside : member q ps ≡ true)
    (c : ℕ) (inverse : times (rows n q) c ≡ 1) (d : Dependence n (cleared rows n q c) (without q ps)) where
  abbrev x : ℕ
  x = times c (dot (rows n) d.bytes)

  abbrev bytes : Place → ℕ
  bytes p = bit_xor (d.bytes p) (cond (same_place q p) x 0)

  elsewhere : (p : Place) → same_place q p ≡ false → bytes p ≡ d.bytes p
  elsewhere p e = ap (λ t. bit_xor (d.bytes p) (cond t x 0)) e ∙ xor_zero_r (d.bytes p)

  not_at : (p : Place) → member p ps ≡ false → same_place q p ≡ false
  not_at p h = elim (cases_Bool (same_place q p)) [
    | inl e ↦ absurd (apart_bools (sym inside ∙ ap (λ r. member r ps) (same_place-eq q p e) ∙ h))
    | inr e ↦ e
  ]

  not_there : same_place q d.place ≡ false
  not_there = elim (cases_Bool (same_place q d.place)) [
    | inl e ↦ absurd (d.nonzero (ap d.bytes (sym (same_place-eq q d.place e)) ∙ d.outside q (without-itself q ps apart)))
    | inr e ↦ e
  ]

  at_last : dot (rows n) bytes ≡ 0
  at_last =
      dot-more (rows n) d.bytes q x
      ∙ ap (bit_xor (dot (rows n) d.bytes))
      (sym (times-assoc (rows n q) c (dot (rows n) d.bytes)) ∙ ap (λ y. times y (dot (rows n) d.bytes)) inverse
      ∙ times-one (dot (rows n) d.bytes) (products_small all_places (rows n) d.bytes))
      ∙ xor_self (dot (rows n) d.bytes)

  at_other : (i : ℕ) → i < n → dot (rows i) bytes ≡ 0
  at_other i h =
      dot-more (rows i) d.bytes q x
      ∙ ap (bit_xor (dot (rows i) d.bytes)) (sym (times-assoc (rows i q) c (dot (rows n) d.bytes)))
      ∙ sym (scaled all_places (times (rows i q) c) (rows i) (rows n) d.bytes)
      ∙ d.each i h

  dependence-extend : Dependence (suc n) rows ps
  dependence-extend = record {
    bytes = bytes;
    small = λ p. xor_lt 8 _ _ (d.small p) (cond_small (same_place q p) x (times_lt _ _));
    outside = λ p h. elsewhere p (not_at p h) ∙ d.outside p (member-without q p ps h);
    place = d.place;
    nonzero = λ z. d.nonzero (sym (elsewhere d.place not_there) ∙ z);
    each = λ i h. elim (eqb_tells i n)
        [ inl w ↦ ap (λ k. dot (rows k) bytes) w.1 ∙ at_last | inr w ↦ at_other i (omega (arith, w.1, h)) ];
  }

-- fewer rows with a pivot than places
pub dependence : (n : ℕ) (pivot : ℕ → Option Place) (rows : ℕ → Place → ℕ) (ps : List Place)
    → ((i : ℕ) (p : Place) → rows i p < 256)
    → ((i : ℕ) (p : Place) → i < n → pivot i ≡ None → member p ps ≡ true → rows i p ≡ 0)
    → Apart ps → length (pivots_below pivot n) < length ps → Dependence n rows ps
dependence zero pivot rows [] small free apart h = absurd (omega (arith, h))
dependence zero pivot rows (p ∷ ps) small free apart h = record {
  bytes = λ r. cond (same_place p r) 1 0;
  small = λ r. cond_small (same_place p r) 1 (lit< tt);
  outside = λ r k. ap (λ t. cond t 1 0) (same_place-sym r p (both_false (same_place r p) (member r ps) k).0);
  place = p;
  nonzero = λ z. absurd (omega (arith, sym (ap (λ t. cond t 1 0) (same_place-refl p)) ∙ z));
  each = λ i k. absurd (omega (arith, k));
}
dependence (suc n) pivot rows ps small free apart h = at (dependence n pivot) (pivot n) refl h
  where
    Before : Type 0
    Before = (others : ℕ → Place → ℕ) (qs : List Place) → ((i : ℕ) (p : Place) → others i p < 256)
        → ((i : ℕ) (p : Place) → i < n → pivot i ≡ None → member p qs ≡ true → others i p ≡ 0)
        → Apart qs → length (pivots_below pivot n) < length qs → Dependence n others qs

    still_free : (q : Place) → member q ps ≡ true → (c i : ℕ) (p : Place) → i < n → pivot i ≡ None
        → member p (without q ps) ≡ true → cleared rows n q c i p ≡ 0
    still_free q m c i p l e k = elim (cases_Bool (member p ps)) [
      | inl t ↦ ap₂ (λ a b. bit_xor a (times (times b c) (rows n p)))
          (free i p (omega (arith, l)) e t) (free i q (omega (arith, l)) e m)
          ∙ xor_zero_l _ ∙ ap (λ y. times y (rows n p)) (times-zero c) ∙ times-zero (rows n p)
      | inr f ↦ absurd (apart_bools (sym k ∙ member-without q p ps f))
    ]

    pass : Before → ((p : Place) → member p ps ≡ true → rows n p ≡ 0) → length (pivots_below pivot n) < length ps
        → Dependence (suc n) rows ps
    pass before a k =
        dependence-pass n rows ps a (before rows ps small (λ i p l. free i p (omega (arith, l))) apart k)

    take : Before → (q : Place) → member q ps ≡ true → rows n q ≢ 0 → suc (length (pivots_below pivot n)) < length ps
        → Dependence (suc n) rows ps
    take before q m ne k = let inv = times-inverse (rows n q) (small n q) ne in
        dependence-extend n rows ps apart q m inv.0 inv.2
        (before (cleared rows n q inv.0) (without q ps)
        (λ i p. xor_lt 8 _ _ (small i p) (times_lt _ _)) (still_free q m inv.0) (apart-without q ps apart)
        (omega (arith, k, length-without q ps m)))

    at : Before → (o : Option Place) → pivot n ≡ o → length (joined o (pivots_below pivot n)) < length ps
        → Dependence (suc n) rows ps
    at before None e k = pass before (λ p. free n p (omega arith) e) k
    at before (Some t) e k = elim (nonzero_in (rows n) ps)
        [ inl a ↦ pass before a (omega (arith, k)) | inr w ↦ take before w.0 w.1 w.2 k ]
