-- Places that survive or are named by findings.
use Rattle.std.proofs.Common.{◌≡◌, ◌≢◌, ◌∙◌, ◌<◌, ◌+◌, ℕ, zero, suc, List, [], ◌∷◌, ◌++◌, Bool, true, false, refl, sym, ap, subst, arith}
use Rattle.std.proofs.Common.{All, cond, get_or, set, inl, inr, length, Option, Some, None}
use Rattle.std.specs.Prelude.{◌&&◌, ◌||◌, ◌==◌, Contains, IfNone, IfSome, filter, is_some, not}
use Rattle.std.proofs.lemmas.Bool.{and_from, and_parts, cases_Bool, cases_lt, eq-eqb, eqb-true, or_parts}
use Rattle.std.proofs.lemmas.List.{get_or-set_other, get_or-set_same, get_or_past, length-set}
use Rattle.lrc_code.specs.declared.places.Place.{Place}
use Rattle.lrc_code.specs.declared.codes.Code.{Code as CodeName}
use Rattle.lrc_code.specs.Code.{has_place}
use Rattle.lrc_code.specs.Codes.{tables_of}
use Rattle.lrc_code.specs.Places.{all_places, index_of, same_place}
use Rattle.lrc_code.specs.Sets.{is_in}
use Rattle.lrc_code.proofs.PlaceSums.{at_places, same_place-eq, same_place-refl}
use Rattle.store_repair.specs.Damage.{all_but}
use Rattle.store_repair.specs.Findings.{NamesStay, is_without_length, named}
use Rattle.store_repair.specs.Repaired.{AreAccountedFor, IsAccountedFor, IsOpenedOrNamed, IsWhole, IsWithoutLength}
use Rattle.store_repair.specs.Scrubbed.{AreOfOneStripe}
use Rattle.stores.specs.Store.{ShownFiles}
use Rattle.store_repair.specs.declared.outcomes.Finding.{Finding}
use Rattle.store_repair.specs.Lengths.{HaveNoCommonLength}
use Rattle.store_repair.specs.Opened.{AreFound}
use Rattle.stores.specs.Stripes.{has_file, is_file}
use Rattle.stores.specs.declared.stripes.Found.TheVariants as found
use Rattle.stores.specs.declared.stripes.Found.{Found as FoundName}
use Rattle.store_repair.proofs.NotedLemmas.{named_now, named_still}
use Rattle.store_repair.proofs.SuspectLemmas.{before_next}

-- what holds of the first and of the others holds of all
all_of : (P : Place → Type 0) (x : Place) (xs : List Place) → P x → All P xs → All P (x ∷ xs)
all_of P x xs this others zero d lt = this
all_of P x xs this others (suc k) d lt = others k d (omega (arith, lt))

-- where all that pass a test are in a list, each one that passes it is
passed : (test : Place → Bool) (names xs : List Place) → All (Contains names) (filter test xs)
    → All (λ p. test p ≡ true → Contains names p) xs
passed test names [] all = λ k d lt. absurd (omega (arith, lt))
passed test names (x ∷ xs) all = elim (cases_Bool (test x)) as (λ _. All (λ p. test p ≡ true → Contains names p) (x ∷ xs)) [
  | inl is ↦ (let these = subst (λ b. All (Contains names) (cond b (x ∷ filter test xs) (filter test xs))) is all in
      all_of (λ p. test p ≡ true → Contains names p) x xs (λ _. these 0 x (omega arith))
      (passed test names xs (λ k d lt. these (suc k) d (omega (arith, lt)))))
  | inr isnt ↦ (let these = subst (λ b. All (Contains names) (cond b (x ∷ filter test xs) (filter test xs))) isnt all in
      all_of (λ p. test p ≡ true → Contains names p) x xs (λ is. absurd (let never = sym isnt ∙ is in cc)) (passed test names xs these))
]

-- where all places that pass a test are named, each one that passes it is
pub named_that_pass : (test : Place → Bool) (names : List Place) → All (Contains names) (filter test all_places) → (p : Place)
    → test p ≡ true → Contains names p
named_that_pass test names all = at_places (λ p. test p ≡ true → Contains names p) (passed test names all_places all)

module _ {F : Type 0} (code : CodeName) (files : List FoundName) (len : ℕ) where
  -- one more place was looked at, and its fragment was opened or it is named
  pub opened_next : (set new : List Bool) (x : Option F) (old now : List Finding) (n : ℕ) (p : Place) → index_of p ≡ n
      → ((q : Place) → is_in new q ≡ cond (is_some x) (same_place p q || is_in set q) (is_in set q)) → NamesStay old now
      → IfNone x (has_place (tables_of code) p ≡ true → has_file files len p ≡ true → Contains (named now) p)
      → ((q : Place) → index_of q < n → IsOpenedOrNamed code files len (is_in set) old q)
      → (q : Place) → index_of q < n + 1 → IsOpenedOrNamed code files len (is_in new) now q
  opened_next set new x old now n p here step stay this before =
      before_next (IsOpenedOrNamed code files len (is_in new) now) n p here
      (λ q less has is out. stay q (before q less has is (was_out x q (sym (step q) ∙ out))))
      (λ has is out. at_this x this (sym (step p) ∙ out) has is)
    where
      was_out : (y : Option F) (q : Place) → cond (is_some y) (same_place p q || is_in set q) (is_in set q) ≡ false → is_in set q ≡ false
      was_out None q e = e
      was_out (Some f) q e = (or_parts (same_place p q) (is_in set q) e).1

      at_this : (y : Option F) → IfNone y (has_place (tables_of code) p ≡ true → has_file files len p ≡ true → Contains (named now) p)
          → cond (is_some y) (same_place p p || is_in set p) (is_in set p) ≡ false
          → has_place (tables_of code) p ≡ true → has_file files len p ≡ true → Contains (named now) p
      at_this None own e = own
      at_this (Some f) own e = absurd (let apart = (or_parts (same_place p p) (is_in set p) e).0 in let same = same_place-refl p in cc)

module _ (code : CodeName) (files : List FoundName) (len : ℕ) where
  -- a fragment was left out and is named
  pub opened_but : (set new : List Bool) (old now : List Finding) (p : Place)
      → ((q : Place) → is_in new q ≡ (has_place (tables_of code) q && all_but (is_in set) p q)) → named now ≡ named old ++ (p ∷ [])
      → ((q : Place) → IsOpenedOrNamed code files len (is_in set) old q) → (q : Place) → IsOpenedOrNamed code files len (is_in new) now q
  opened_but set new old now p step names before q has is out = elim (cases_Bool (same_place p q)) as (λ _. Contains (named now) q) [
    | inl same ↦ subst (Contains (named now)) (same_place-eq p q same) (named_now (named old) (named now) p names)
    | inr apart ↦ named_still (named old) (named now) (p ∷ []) q names
        (before q has is (was_out (is_in set q) (rw (has, apart) at (sym (step q) ∙ out))))
  ]
    where
      was_out : (b : Bool) → (true && (b && not false)) ≡ false → b ≡ false
      was_out true e = e
      was_out false e = refl

-- what is lost is named, and what isn't was opened or is named
pub all_accounted : (code : CodeName) (survives : Place → Bool) (files : List FoundName) (len : ℕ) (lost opened tested : List Finding)
    → ((p : Place) → has_place (tables_of code) p ≡ true → has_file files len p ≡ false → Contains (named lost) p)
    → NamesStay lost opened → ((p : Place) → IsOpenedOrNamed code files len survives opened p) → NamesStay opened tested
    → (p : Place) → IsAccountedFor code survives [] tested p
all_accounted code survives files len lost opened tested absent stay found then p has out =
    inr (then p (elim (cases_Bool (has_file files len p)) as (λ _. Contains (named opened) p) [
      | inl is ↦ found p has is out
      | inr isnt ↦ stay p (absent p has isnt)
    ]))

-- where no length is known something is said
pub said_without_length : (findings : List Finding) → is_without_length findings ≡ true → findings ≢ []
said_without_length findings said none = absurd (let nothing = ap is_without_length none in cc)

-- what is said where no length was found
pub without_length : (code : CodeName) (survives : Place → Bool) (files : List FoundName) (noted findings : List Finding) (o : Option ℕ)
    → o ≡ None → findings ≡ noted → IfNone o (is_without_length noted ≡ true) → IfNone o (HaveNoCommonLength code files)
    → ((p : Place) → survives p ≡ false) → IsWithoutLength code survives files findings
without_length code survives files noted findings o is same said several none = record {
  said = ap is_without_length same ∙ subst (λ x. IfNone x (is_without_length noted ≡ true)) is said;
  several = subst (λ x. IfNone x (HaveNoCommonLength code files)) is several;
  none = none;
}

-- no place is in a list of none
none_in : (p : Place) → ¬ Contains [] p
none_in p (k, lt, e) = absurd (omega (arith, lt))

-- where nothing is said and nothing was made each place of the code survives
pub all_survive : (code : CodeName) (survives : Place → Bool) (files : List FoundName) (findings : List Finding)
    → AreAccountedFor code survives files [] findings
    → findings ≡ [] → (p : Place) → has_place (tables_of code) p ≡ true → survives p ≡ true
all_survive code survives files findings (inl each) none p has = elim (cases_Bool (survives p)) as (λ _. survives p ≡ true) [
  | inl on ↦ on
  | inr out ↦ elim (each p has out) as (λ _. survives p ≡ true) [
    | inl own ↦ absurd (none_in p own)
    | inr is ↦ absurd (none_in p (subst (λ fs. Contains (named fs) p) none is))
  ]
]
all_survive code survives files findings (inr without) none p has = absurd (said_without_length findings without.said none)

-- fragments of one stripe at all places of the code are a whole stripe
pub whole_of_all : (code : CodeName) (survives : Place → Bool) (len : ℕ) (s : List ℕ) (files : ShownFiles)
    → ((p : Place) → has_place (tables_of code) p ≡ true → survives p ≡ true) → IfSome files (AreOfOneStripe code survives len s)
    → IsWhole code len s files
whole_of_all code survives len s None all of = tt
whole_of_all code survives len s (Some old) all (st, in_code, there) = (st, in_code, λ p has. there p (all p has))

-- ---- places at which files were found

absent_at : (files : List FoundName) (i : ℕ) → get_or (set files i found.Absent) i found.Absent ≡ found.Absent
absent_at files i = elim (cases_lt i (length files)) as (λ _. get_or (set files i found.Absent) i found.Absent ≡ found.Absent) [
  | inl lt ↦ get_or-set_same files i found.Absent found.Absent lt
  | inr past ↦ get_or_past (set files i found.Absent) i found.Absent
      (let long = length-set files i found.Absent in omega (arith, long, past))
]

-- where a name is taken for absent no other one comes to be a file
pub still_file : (files : List FoundName) (i len : ℕ) (p : Place) → has_file (set files i found.Absent) len p ≡ true
    → has_file files len p ≡ true
still_file files i len p is = elim (cases_Bool (index_of p == i)) as (λ _. has_file files len p ≡ true) [
  | inl same ↦ (let at : index_of p ≡ i = eqb-true _ _ same in
      absurd (let isnt = subst (λ n. get_or (set files i found.Absent) n found.Absent ≡ found.Absent) (sym at) (absent_at files i) in
      let none = ap (is_file len) isnt in cc))
  | inr apart ↦ ap (is_file len) (sym (get_or-set_other files i (index_of p) found.Absent found.Absent
      (λ e. absurd (let same = eq-eqb (index_of p) i e in cc)))) ∙ is
]

module _ (code : CodeName) (files : List FoundName) (len : ℕ) where
  -- one more was opened where a file was found, or none
  pub found_next : {F : Type 0} (set new : List Bool) (x : Option F) (p : Place)
      → ((q : Place) → is_in new q ≡ cond (is_some x) (same_place p q || is_in set q) (is_in set q))
      → IfSome x (λ _. (has_place (tables_of code) p && has_file files len p) ≡ true) → AreFound code files len (is_in set)
      → AreFound code files len (is_in new)
  found_next set new None p step this before q on = before q (sym (step q) ∙ on)
  found_next set new (Some f) p step this before q on = elim (cases_Bool (same_place p q)) as
      (λ _. (has_place (tables_of code) q && has_file files len q) ≡ true) [
        | inl same ↦ subst (λ r. (has_place (tables_of code) r && has_file files len r) ≡ true) (same_place-eq p q same) this
        | inr apart ↦ before q (rw apart at (sym (step q) ∙ on))
      ]

  -- one was left out
  pub found_but : (set new : List Bool) (p : Place)
      → ((q : Place) → is_in new q ≡ (has_place (tables_of code) q && all_but (is_in set) p q)) → AreFound code files len (is_in set)
      → AreFound code files len (is_in new)
  found_but set new p step before q on =
      before q (and_parts (is_in set q) _ (and_parts (has_place (tables_of code) q) _ (sym (step q) ∙ on)).1).0

-- where these were found others were that have no fewer files
pub found_among : (code : CodeName) (some files : List FoundName) (len : ℕ) (survives : Place → Bool)
    → ((n : ℕ) (p : Place) → has_file some n p ≡ true → has_file files n p ≡ true) → AreFound code some len survives
    → AreFound code files len survives
found_among code some files len survives more are p on =
    let both = and_parts (has_place (tables_of code) p) (has_file some len p) (are p on) in
    and_from (has_place (tables_of code) p) (has_file files len p) both.0 (more len p both.1)
