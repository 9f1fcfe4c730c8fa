-- Stripes that differ from survivors in two places at most.
use Rattle.std.proofs.Common.{◌≡◌, ◌∙◌, ◌<◌, ◌+◌, ℕ, List, Bool, true, false, refl, sym, subst, inl, inr, length, map, All}
use Rattle.std.proofs.Common.{arith, cond, get_or, zero-add, ◌≤◌}
use Rattle.std.specs.Prelude.{not, ◌&&◌, ◌||◌, ◌==◌, IfSome, count_by}
use Rattle.std.specs.List.{range_with_len}
use Rattle.std.proofs.lemmas.Bool.{and_from, and_parts, cases_Bool, cases_lt, not_from_false, or_left, or_parts, true_from_ne_false}
use Rattle.std.proofs.lemmas.List.Sums.{get_or-le-sum_by}
use Rattle.std.proofs.lemmas.List.FromFn.{get_or-map-range_with_len, length-map-range_with_len}
use Rattle.lrc_field.specs.Sums.{column, combination}
use Rattle.lrc_code.specs.declared.places.Place.{Place}
use Rattle.lrc_code.specs.declared.codes.Code.{Code as CodeName}
use Rattle.lrc_code.specs.Code.{AreBytes, IsInCode, has_place}
use Rattle.lrc_code.specs.Codes.{tables_of}
use Rattle.lrc_code.specs.Encoding.{IsParity}
use Rattle.lrc_code.specs.Places.{all_places, index_of, same_place}
use Rattle.lrc_code.specs.Sets.{is_in}
use Rattle.lrc_code.proofs.PlaceSums.{at_places, index_of-eq, same_place-comm, same_place-eq, same_place-refl}
use Rattle.lrc_plan.specs.Stripes.{at_place, AreWhole, IsContradiction, Keeps}
use Rattle.lrc_plan.proofs.Stripes.{applied}
use Rattle.store_repair.specs.declared.damage.Suspects.{Suspects}
use Rattle.store_repair.specs.Damage.{all_but, AreSuspects, DiffersInTwoAtMost, IsCleared, IsDamaged, IsDetermined}
use Rattle.store_repair.specs.Damage.{IsLocated, without}

-- ---- sets

not_true : (b : Bool) → not b ≡ true → b ≡ false
not_true true e = absurd (cc)
not_true false e = refl

-- a place that is in a set and is another one than p
pub stays : (survives : Place → Bool) (p q : Place) → survives q ≡ true → same_place p q ≡ false → all_but survives p q ≡ true
stays survives p q there apart = and_from (survives q) (not (same_place p q)) there (not_from_false (same_place p q) apart)

stayed : (survives : Place → Bool) (p q : Place) → all_but survives p q ≡ true → (survives q ≡ true) × (same_place p q ≡ false)
stayed survives p q h =
    let parts = and_parts (survives q) (not (same_place p q)) h in
    (parts.0, not_true (same_place p q) parts.1)

pub in_without : (code : CodeName) (survives : Place → Bool) (p q : Place) → without code survives p q ≡ true
    → (has_place (tables_of code) q ≡ true) × (survives q ≡ true) × (same_place p q ≡ false)
in_without code survives p q h =
    let parts = and_parts (has_place (tables_of code) q) (all_but survives p q) h in
    let own = stayed survives p q parts.1 in
    (parts.0, own.0, own.1)

-- ---- fewer survivors

implied : (t s x : Bool) → (t ≡ true → s ≡ true) → (not s || x) ≡ true → (not t || x) ≡ true
implied true true x sub w = w
implied true false x sub w = absurd (let e = sub refl in cc)
implied false s x sub w = refl

module _ (code : CodeName) (more fewer : Place → Bool) (at : List (List ℕ)) (len : ℕ)
    (sub : (p : Place) → fewer p ≡ true → more p ≡ true) where
  whole_fewer : AreWhole code more at len → AreWhole code fewer at len
  whole_fewer whole p =
      implied (fewer p) (more p) (has_place (tables_of code) p && length (at_place at p) == len) (sub p) (whole p)

  keeps_fewer : (s : Place → List ℕ) → Keeps (tables_of code) more (at_place at) len s → Keeps (tables_of code) fewer (at_place at) len s
  keeps_fewer s keeps = record { in_code = keeps.in_code; kept = λ p there. keeps.kept p (sub p there) }

-- ---- what survivors determine

combined : List ℕ → List (List ℕ) → ℕ → List ℕ
combined row at len = map (λ k. combination row (column at k)) (range_with_len 0 len)

is_combined : (row : List ℕ) (at : List (List ℕ)) (len : ℕ) → IsParity row at len (combined row at len)
unfolding combined
is_combined row at len = record {
  long = length-map-range_with_len (λ k. combination row (column at k)) 0 len;
  each = λ k lt. get_or-map-range_with_len (λ j. combination row (column at j)) 0 len k k 0 lt (zero-add k);
}

-- stripes that keep the same bytes have the same bytes where these determine them
pub agree : (code : CodeName) (survives : Place → Bool) (at : List (List ℕ)) (len : ℕ) → AreWhole code survives at len → All AreBytes at
    → length at ≡ 16 → (p : Place) → has_place (tables_of code) p ≡ true → IsDetermined code survives p → (s t : Place → List ℕ)
    → Keeps (tables_of code) survives (at_place at) len s → Keeps (tables_of code) survives (at_place at) len t → s p ≡ t p
agree code survives at len whole small sixteen p has (row, value) s t of_s of_t =
    applied code survives at len whole small sixteen p has row (combined row at len) value (is_combined row at len) s of_s
    ∙ sym (applied code survives at len whole small sixteen p has row (combined row at len) value (is_combined row at len) t of_t)

-- ---- survivors that contradict each other, and belong together without the one at p

owned : (s h w : Bool) → (not s || (h && w)) ≡ true → s ≡ true → h ≡ true
owned true true w e there = refl
owned true false w e there = absurd (cc)
owned false h w e there = absurd (cc)

module _ (code : CodeName) (survives : Place → Bool) (at : List (List ℕ)) (len : ℕ) (whole : AreWhole code survives at len)
    (small : All AreBytes at) (sixteen : length at ≡ 16) (contradict : IsContradiction (tables_of code) survives (at_place at) len)
    (p : Place) (survivor : survives p ≡ true) (t : Place → List ℕ)
    (own : Keeps (tables_of code) (all_but survives p) (at_place at) len t) where
  abbrev others : Place → Bool
  others = without code survives p

  has : (q : Place) → survives q ≡ true → has_place (tables_of code) q ≡ true
  has q there = owned (survives q) (has_place (tables_of code) q) (length (at_place at q) == len) (whole q) there

  other : (q : Place) → survives q ≡ true → same_place p q ≡ false → others q ≡ true
  other q there apart = and_from (has_place (tables_of code) q) (all_but survives p q) (has q there) (stays survives p q there apart)

  -- a stripe that keeps the others doesn't keep the one at p
  not_all : (s : Place → List ℕ) → IsInCode (tables_of code) len s
      → ((q : Place) → survives q ≡ true → same_place p q ≡ false → s q ≡ at_place at q) → s p ≡ at_place at p → ⊥
  not_all s in_code kept here = contradict s (record {
    in_code = in_code;
    kept = λ q there. elim (cases_Bool (same_place p q)) as (λ _. s q ≡ at_place at q) [
      | inl same ↦ subst (λ r. s r ≡ at_place at r) (same_place-eq p q same) here
      | inr apart ↦ kept q there apart
    ];
  })

  module _ (q : Place) (there : others q ≡ true) (cleared : IsCleared code others p q) (s : Place → List ℕ) (o : Place)
      (keeps : Keeps (tables_of code) (all_but (all_but survives q) o) (at_place at) len s) where
    abbrev two : Place → Bool
    two = without code others q

    abbrev three : Place → Bool
    three = without code two o

    in_two : (r : Place) → two r ≡ true → (survives r ≡ true) × (same_place p r ≡ false) × (same_place q r ≡ false)
    in_two r h =
        let first = in_without code others q r h in
        let second = in_without code survives p r first.1 in
        (second.1, second.2, first.2)

    in_three : (r : Place) → three r ≡ true → (two r ≡ true) × (same_place o r ≡ false)
    in_three r h = let first = in_without code two o r h in (first.1, first.2)

    kept_but_one : (r : Place) → two r ≡ true → all_but survives p r ≡ true
    kept_but_one r h = let at_r = in_two r h in stays survives p r at_r.0 at_r.1

    kept_but_two : (r : Place) → two r ≡ true → same_place o r ≡ false → all_but (all_but survives q) o r ≡ true
    kept_but_two r h apart =
        let at_r = in_two r h in stays (all_but survives q) o r (stays survives q r at_r.0 at_r.2) apart

    here : (has_place (tables_of code) q ≡ true) × (survives q ≡ true) × (same_place p q ≡ false)
    here = in_without code survives p q there

    of_t : t q ≡ at_place at q
    of_t = own.kept q (stays survives p q here.1 here.2)

    -- where the third place is p
    kept_alone : same_place o p ≡ true → s q ≡ at_place at q
    kept_alone same =
        agree code two at len (whole_fewer code survives two at len (λ r h. (in_two r h).0) whole) small sixteen q here.0 cleared.alone s t
        (keeps_fewer code (all_but (all_but survives q) o) two at len
        (λ r h. kept_but_two r h (subst (λ x. same_place x r ≡ false) (sym (same_place-eq o p same)) (in_two r h).1)) s keeps)
        (keeps_fewer code (all_but survives p) two at len kept_but_one t own)
        ∙ of_t

    -- where it isn't
    same_at : (r : Place) → has_place (tables_of code) r ≡ true → IsDetermined code three r → s r ≡ t r
    same_at r of_code determined =
        agree code three at len (whole_fewer code survives three at len (λ x h. (in_two x (in_three x h).0).0) whole) small sixteen r
        of_code determined s t
        (keeps_fewer code (all_but (all_but survives q) o) three at len
        (λ x h. kept_but_two x (in_three x h).0 (in_three x h).1) s keeps)
        (keeps_fewer code (all_but survives p) three at len (λ x h. kept_but_one x (in_three x h).0) t own)

    kept_paired : same_place o p ≡ false → s q ≡ at_place at q
    kept_paired apart = elim (cleared.paired o) as (λ _. s q ≡ at_place at q) [
      | inl of_q ↦ same_at q here.0 of_q ∙ of_t
      | inr of_p ↦ absurd (not_all t own.in_code (λ r h a. own.kept r (stays survives p r h a))
          (sym (same_at p (has p survivor) of_p) ∙ keeps.kept p (stays (all_but survives q) o p
          (stays survives q p survivor (sym (same_place-comm p q) ∙ here.2)) apart)))
    ]

    kept_at : s q ≡ at_place at q
    kept_at = elim (cases_Bool (same_place o p)) as (λ _. s q ≡ at_place at q) [
      | inl same ↦ kept_alone same
      | inr apart ↦ kept_paired apart
    ]

  swapped : (e f q : Place) → same_place f q ≡ true → (r : Place) → all_but (all_but survives q) e r ≡ true
      → all_but (all_but survives e) f r ≡ true
  swapped e f q same r h =
      let first = stayed (all_but survives q) e r h in
      let second = stayed survives q r first.0 in
      stays (all_but survives e) f r (stays survives e r second.0 first.1)
      (subst (λ x. same_place x r ≡ false) (sym (same_place-eq f q same)) second.1)

  -- a stripe that differs in two places at most keeps what is cleared
  kept : (q : Place) → others q ≡ true → IsCleared code others p q → (s : Place → List ℕ) → DiffersInTwoAtMost code survives at len s
      → s q ≡ at_place at q
  kept q there cleared s (e, f, keeps) = elim (cases_Bool (same_place e q)) as (λ _. s q ≡ at_place at q) [
    | inl is_e ↦ kept_at q there cleared s f
        (subst (λ x. Keeps (tables_of code) (all_but (all_but survives x) f) (at_place at) len s) (same_place-eq e q is_e) keeps)
    | inr not_e ↦ elim (cases_Bool (same_place f q)) as (λ _. s q ≡ at_place at q) [
      | inl is_f ↦ kept_at q there cleared s e
          (keeps_fewer code (all_but (all_but survives e) f) (all_but (all_but survives q) e) at len (swapped e f q is_f) s keeps)
      | inr not_f ↦ keeps.kept q (stays (all_but survives e) f q (stays survives e q (in_without code survives p q there).1 not_e) not_f)
    ]
  ]

  in_some : (s : Place → List ℕ) × DiffersInTwoAtMost code survives at len s
  in_some =
      let keeps = keeps_fewer code (all_but survives p) (all_but (all_but survives p) p) at len
      (λ r h. (stayed (all_but survives p) p r h).0) t own in
      (t, (p, p, keeps))

  -- where all others are cleared, the one at p is damaged
  pub located : IsDamaged code survives at len p → ((q : Place) → others q ≡ true → IsCleared code others p q)
      → IsLocated code survives at len p
  located damaged cleared = record {
    damaged = damaged;
    in_each = λ s two same. not_all s two.2.in_code
        (λ q there apart. kept q (other q there apart) (cleared q (other q there apart)) s two) same;
    in_some = in_some;
  }

  -- suspects are p and the others that aren't cleared
  pub are_suspects : (found : List Bool) (suspects : Suspects)
      → ((q : Place) → is_in suspects.places q ≡ (same_place p q || is_in found q))
      → ((q : Place) → others q ≡ true → is_in found q ≡ false → IsCleared code others p q)
      → IfSome suspects.single (IsDamaged code survives at len) → AreSuspects code survives at len suspects
  are_suspects found suspects set cleared single = record {
    contradict = contradict;
    all = λ s two q there differs. true_from_ne_false (is_in suspects.places q)
        (λ out. (let parts = or_parts (same_place p q) (is_in found q) (sym (set q) ∙ out) in
        differs (kept q (other q there parts.0) (cleared q (other q there parts.0) parts.1) s two)));
    in_some = in_some;
    single = single;
  }

-- ---- sets of no places

counted : (b : Bool) (n : ℕ) → cond b 1 0 ≤ n → n ≡ 0 → b ≡ false
counted true n le e = absurd (omega (arith, le, e))
counted false n le e = refl

pub empty : (set : List Bool) → count_by (is_in set) all_places ≡ 0 → (p : Place) → is_in set p ≡ false
empty set e = at_places (λ p. is_in set p ≡ false)
    (λ k d lt. counted (is_in set (get_or all_places k d)) (count_by (is_in set) all_places)
    (get_or-le-sum_by (λ p. cond (is_in set p) 1 0) all_places k d lt) e)

-- what holds of each place before an index, and of the place of that index, holds of each before the next
pub before_next : (P : Place → Type 0) (n : ℕ) (p : Place) → index_of p ≡ n → ((q : Place) → index_of q < n → P q) → P p → (q : Place)
    → index_of q < n + 1 → P q
before_next P n p here before this q more = elim (cases_lt (index_of q) n) as (λ _. P q) [
  | inl less ↦ before q less
  | inr le ↦ subst P (index_of-eq p q (omega (arith, more, le, here))) this
]

-- ---- the others that were looked at

-- each other survivor before an index is cleared or a suspect
abbrev pub AreLookedAt : CodeName → (Place → Bool) → Place → ℕ → List Bool → Type 0
AreLookedAt code others p n suspects =
    (q : Place) → index_of q < n → others q ≡ true → is_in suspects q ≡ false → IsCleared code others p q

module _ (code : CodeName) (others : Place → Bool) (p : Place) (n : ℕ) (old : List Bool) (q : Place) (here : index_of q ≡ n)
    (before : AreLookedAt code others p n old) where
  pub next_suspect : (new : List Bool) → ((r : Place) → is_in new r ≡ (same_place q r || is_in old r))
      → AreLookedAt code others p (n + 1) new
  next_suspect new with_it = before_next (λ r. others r ≡ true → is_in new r ≡ false → IsCleared code others p r) n q here
      (λ r less there out. before r less there (or_parts (same_place q r) (is_in old r) (sym (with_it r) ∙ out)).1)
      (λ there out. absurd (let is = or_left (same_place q q) (is_in old q) (same_place-refl q) in
      let isnt = sym (with_it q) ∙ out in cc))

  pub next_cleared : (others q ≡ true → IsCleared code others p q) → AreLookedAt code others p (n + 1) old
  next_cleared cleared = before_next (λ r. others r ≡ true → is_in old r ≡ false → IsCleared code others p r) n q here before
      (λ there out. cleared there)
