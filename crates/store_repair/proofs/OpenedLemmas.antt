-- Fragments that are opened one after the other, and the bytes that they show.
use Rattle.std.proofs.Common.{◌≡◌, ◌∙◌, ◌<◌, ◌≤◌, ◌-◌, ℕ, zero, suc, List, [], ◌∷◌, ◌++◌, Bool, true, false, refl, sym, ap, ap₂}
use Rattle.std.proofs.Common.{subst, arith, inl, inr}
use Rattle.std.proofs.Common.{get_or, length, map, cond, Option, Some, None, All, length-append}
use Rattle.std.specs.Prelude.{IfSome, ◌&&◌, ◌||◌, ◌==◌, not, is_some, unwrap_or}
use Rattle.std.proofs.lemmas.Bool.{cases_lt, eq-eqb, ne_eqb}
use Rattle.std.proofs.lemmas.List.{get_or-append_right, get_or_append_left, get_or_past}
use Rattle.std.proofs.Math.ListN.{get_or-map}
use Rattle.lrc_code.specs.declared.places.Place.{Place}
use Rattle.lrc_code.specs.declared.codes.Code.{Code as CodeName}
use Rattle.lrc_code.specs.Code.{AreBytes, has_place}
use Rattle.lrc_code.specs.Codes.{tables_of}
use Rattle.lrc_code.specs.Places.{index_of, same_place}
use Rattle.lrc_code.specs.Sets.{is_in}
use Rattle.lrc_code.proofs.PlaceSums.{index_of-lt, place_at}
use Rattle.lrc_plan.specs.Stripes.{at_place, AreWhole}
use Rattle.store_repair.specs.Opened.{AreOpened, IsOpenedAt, IsThereWith, nth_place}
use Rattle.stores.specs.Shown.{AreShown, shown_of}
use Rattle.stores.specs.Store.{Files, ShownFiles}

zero_of : (a b : ℕ) → a ≤ b → a - b ≡ 0
zero_of a b le = omega (arith, le)

module _ {F : Type 0} (set new : List Bool) (xs : List (Option F)) (x : Option F) (p : Place) (here : index_of p ≡ length xs)
    (step : (q : Place) → is_in new q ≡ cond (is_some x) (same_place p q || is_in set q) (is_in set q))
    (so : (q : Place) → is_in set q ≡ is_some (get_or xs (index_of q) None)) where
  apart : (q : Place) → (index_of q ≡ length xs → ⊥) → same_place p q ≡ false
  apart q ne = ne_eqb (index_of p) (index_of q) (λ e. ne (sym e ∙ here))

  -- at the other places nothing changes
  other : (b : Bool) (q : Place) → (index_of q ≡ length xs → ⊥) → cond b (same_place p q || is_in set q) (is_in set q) ≡ is_in set q
  other true q ne = rw (apart q ne) refl
  other false q ne = refl

  -- at this one it is what was opened
  this : (b : Bool) (q : Place) → same_place p q ≡ true → is_in set q ≡ false
      → cond b (same_place p q || is_in set q) (is_in set q) ≡ b
  this true q same isnt = rw same refl
  this false q same isnt = isnt

  pub set_more : (q : Place) → is_in new q ≡ is_some (get_or (xs ++ (x ∷ [])) (index_of q) None)
  set_more q = elim (cases_lt (index_of q) (length xs)) as (λ _. is_in new q ≡ is_some (get_or (xs ++ (x ∷ [])) (index_of q) None)) [
    | inl less ↦ step q ∙ other (is_some x) q (λ e. absurd (omega (arith, e, less))) ∙ so q
        ∙ ap is_some (sym (get_or_append_left xs (x ∷ []) None (index_of q) less))
    | inr le ↦ elim (cases_lt (length xs) (index_of q)) as
        (λ _. is_in new q ≡ is_some (get_or (xs ++ (x ∷ [])) (index_of q) None)) [
          | inl more ↦ step q ∙ other (is_some x) q (λ e. absurd (omega (arith, e, more))) ∙ so q
              ∙ ap is_some (get_or_past xs (index_of q) None le)
              ∙ ap is_some (sym (get_or-append_right xs (x ∷ []) (length xs) (index_of q) None refl le
              ∙ get_or_past (x ∷ []) (index_of q - length xs) None (omega (arith, more))))
          | inr ge ↦ step q ∙ this (is_some x) q (eq-eqb (index_of p) (index_of q) (omega (arith, here, le, ge)))
              (so q ∙ ap is_some (get_or_past xs (index_of q) None le))
              ∙ ap is_some (sym (get_or-append_right xs (x ∷ []) (length xs) (index_of q) None refl le
              ∙ ap (λ n. get_or (x ∷ []) n None) (zero_of (index_of q) (length xs) ge)))
        ]
  ]

module _ {F : Type 0} (shown : F → Option (List ℕ)) (code : CodeName) (stripe : List ℕ) (len : ℕ) (files : ShownFiles) where
  -- one more fragment was opened, or wasn't
  pub opened_more : (set new : List Bool) (xs : List (Option F)) (x : Option F) (p : Place) → index_of p ≡ length xs
      → IsOpenedAt shown code stripe len files p x
      → ((q : Place) → is_in new q ≡ cond (is_some x) (same_place p q || is_in set q) (is_in set q))
      → AreOpened shown code stripe len files set xs → AreOpened shown code stripe len files new (xs ++ (x ∷ []))
  opened_more set new xs x p here opened step before = record {
    set_of = set_more set new xs x p here step before.set_of;
    each = λ k lt. elim (cases_lt k (length xs)) as
        (λ _. IsOpenedAt shown code stripe len files (nth_place k) (get_or (xs ++ (x ∷ [])) k None)) [
          | inl less ↦ subst (IsOpenedAt shown code stripe len files (nth_place k)) (sym (get_or_append_left xs (x ∷ []) None k less))
              (before.each k less)
          | inr le ↦ (let at : k ≡ length xs = (let long = length-append xs (x ∷ []) in omega (arith, le, lt, long)) in
              subst (IsOpenedAt shown code stripe len files (nth_place k))
              (sym (get_or-append_right xs (x ∷ []) (length xs) k None refl le
              ∙ ap (λ n. get_or (x ∷ []) n None) (zero_of k (length xs) (omega (arith, at)))))
              (subst (λ q. IsOpenedAt shown code stripe len files q x)
              (sym (ap nth_place (at ∙ sym here) ∙ place_at p)) opened))
        ];
  }

-- the bytes that an opened fragment shows; of one that wasn't opened, none
abbrev pub bytes_of : {F : Type 0} → (F → Option (List ℕ)) → Option F → List ℕ
bytes_of shown None = []
bytes_of shown (Some f) = unwrap_or (shown f) []

module _ {F : Type 0} (shown : F → Option (List ℕ)) (code : CodeName) (stripe : List ℕ) (len : ℕ) (old : Files) where
  found : (p : Place) (x : Option F) → IsOpenedAt shown code stripe len (Some old) p x → shown_of shown x ≡ Some (bytes_of shown x)
  found p None opened = refl
  found p (Some f) (has, (bytes, is, long, are, e)) = rw e refl

  no_bytes : AreBytes []
  no_bytes k d lt = absurd (omega (arith, lt))

  found_bytes : (p : Place) (x : Option F) → IsOpenedAt shown code stripe len (Some old) p x → AreBytes (bytes_of shown x)
  found_bytes p None opened = no_bytes
  found_bytes p (Some f) (has, (bytes, is, long, are, e)) = subst AreBytes (sym (ap (λ o. unwrap_or o []) e)) are

  whole_at : (p : Place) (x : Option F) (b : Bool) → b ≡ is_some x → IsOpenedAt shown code stripe len (Some old) p x
      → (not b || (has_place (tables_of code) p && length (bytes_of shown x) == len)) ≡ true
  whole_at p None b e opened = rw e refl
  whole_at p (Some f) b e (has, (bytes, is, long, are, e2)) = rw (e, has, e2) (eq-eqb (length bytes) len long)

  from_at : (p : Place) (x : Option F) → is_some x ≡ true → IsOpenedAt shown code stripe len (Some old) p x
      → old.fragments stripe p ≡ Some (bytes_of shown x)
  from_at p None e opened = absurd (cc)
  from_at p (Some f) e (has, (bytes, is, long, are, e2)) = rw e2 is

  all_found : (xs : List (Option F)) (at : ℕ → Place)
      → ((k : ℕ) → k < length xs → IsOpenedAt shown code stripe len (Some old) (at k) (get_or xs k None))
      → map (shown_of shown) xs ≡ map Some (map (bytes_of shown) xs)
  all_found [] at each = refl
  all_found (x ∷ xs) at each =
      ap₂ (λ y ys. y ∷ ys) (found (at 0) x (each 0 (omega arith)))
      (all_found xs (λ k. at (suc k)) (λ k lt. each (suc k) (omega (arith, lt))))

  all_bytes : (xs : List (Option F)) (at : ℕ → Place)
      → ((k : ℕ) → k < length xs → IsOpenedAt shown code stripe len (Some old) (at k) (get_or xs k None))
      → All AreBytes (map (bytes_of shown) xs)
  all_bytes [] at each k d lt = absurd (omega (arith, lt))
  all_bytes (x ∷ xs) at each zero d lt = found_bytes (at 0) x (each 0 (omega arith))
  all_bytes (x ∷ xs) at each (suc k) d lt =
      all_bytes xs (λ j. at (suc j)) (λ j less. each (suc j) (omega (arith, less))) k d (omega (arith, lt))

  module _ (set : List Bool) (xs : List (Option F)) (sixteen : length xs ≡ 16)
      (opened : AreOpened shown code stripe len (Some old) set xs) where
    abbrev pub at : List (List ℕ)
    at = map (bytes_of shown) xs

    at_is : (p : Place) → at_place at p ≡ bytes_of shown (get_or xs (index_of p) None)
    at_is p = get_or-map (bytes_of shown) xs (index_of p) None

    each_at : (p : Place) → IsOpenedAt shown code stripe len (Some old) p (get_or xs (index_of p) None)
    each_at p = subst (λ q. IsOpenedAt shown code stripe len (Some old) q (get_or xs (index_of p) None)) (place_at p)
        (opened.each (index_of p) (let lt = index_of-lt p in omega (arith, lt, sixteen)))

    pub are_shown : AreShown shown xs at
    are_shown = record {
      are = all_found xs nth_place opened.each;
      bytes = all_bytes xs nth_place opened.each;
    }

    pub are_whole : AreWhole code (is_in set) at len
    are_whole p =
        rw (at_is p) (whole_at p (get_or xs (index_of p) None) (is_in set p) (opened.set_of p) (each_at p))

    pub are_from : (q : Place) → is_in set q ≡ true → old.fragments stripe q ≡ Some (at_place at q)
    are_from q is = rw (at_is q) (from_at q (get_or xs (index_of q) None) (sym (opened.set_of q) ∙ is) (each_at q))

-- a fragment that was opened has its name, and so many bytes
there_at : {F : Type 0} (shown : F → Option (List ℕ)) (code : CodeName) (stripe : List ℕ) (len : ℕ) (old : Files) (p : Place) (x : Option F)
    → is_some x ≡ true → IsOpenedAt shown code stripe len (Some old) p x → IsThereWith stripe len old p
there_at shown code stripe len old p None on opened = absurd (cc)
there_at shown code stripe len old p (Some f) on (has, (bytes, is, long, are, e)) = (bytes, is, long)

pub are_there : {F : Type 0} (shown : F → Option (List ℕ)) (code : CodeName) (stripe : List ℕ) (len : ℕ) (files : ShownFiles)
    (set : List Bool) (xs : List (Option F)) → length xs ≡ 16 → AreOpened shown code stripe len files set xs
    → IfSome files (λ old. (p : Place) → is_in set p ≡ true → IsThereWith stripe len old p)
are_there shown code stripe len None set xs sixteen opened = tt
are_there shown code stripe len (Some old) set xs sixteen opened = λ p on.
    there_at shown code stripe len old p (get_or xs (index_of p) None) (sym (opened.set_of p) ∙ on)
    (each_at shown code stripe len old set xs sixteen opened p)
