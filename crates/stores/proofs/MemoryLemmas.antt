-- A store in memory: what is left where a name is given.
use Rattle.std.proofs.Common.{◌≡◌, ◌∙◌, ℕ, List, Bool, true, false, cond, refl, sym, ap, subst, Option, Some, None, Result, Ok, Err}
use Rattle.std.proofs.Common.{inl, inr}
use Rattle.std.specs.Prelude.{◌&&◌, ◌⊎◌, bytes_eq, IfOk}
use Rattle.std.proofs.lemmas.Bool.{and_parts, and_right, cases_Bool}
use Rattle.std.proofs.lemmas.Slice.Eq.{bytes_eq-Decides}
use Rattle.lrc_code.specs.declared.places.Place.{Place}
use Rattle.lrc_code.specs.Places.{same_place}
use Rattle.lrc_code.proofs.PlaceSums.{same_place-eq, same_place-refl}
use Rattle.std.specs.declared.io.Error.{Error}
use Rattle.stores.specs.Changed.{ChangesOrHas, GivesOneMore}
use Rattle.stores.specs.Kept.{Given, HasBytes, KeepsOrHas, StaysBeside, StaysOver}
use Rattle.stores.proofs.GivenLemmas.{more_are, more_off, more_on, one_more}
use Rattle.stores.specs.Memory.{ExchangesName, GivesName, put_name, with_fragment, with_kept, with_old}
use Rattle.stores.specs.Store.{AreUntouched, Files, HasName, IsUntouched, KeepsAll, Names, SameElsewhere}
use Rattle.stores.specs.declared.store.Placed.{Placed as PlacedName}
use Rattle.stores.specs.declared.store.Placed.TheVariants as placed

module _ (names : Names) (s : List ℕ) (p : Place) (bytes : List ℕ) where
  -- other stripes are as they were
  put_other : (t : List ℕ) (q : Place) → bytes_eq s t ≡ false → put_name names s p bytes t q ≡ names t q
  put_other t q apart = rw apart refl

  -- and so are other places
  put_elsewhere : (t : List ℕ) (q : Place) → same_place p q ≡ false → put_name names s p bytes t q ≡ names t q
  put_elsewhere t q apart = rw (and_right (bytes_eq s t) (same_place p q) apart) refl

  put_own : put_name names s p bytes s p ≡ Some bytes
  put_own = rw ((bytes_eq-Decides s s).1 refl, same_place-refl p) refl

  taken : (b : Bool) (x y : Option (List ℕ)) → b ≡ false → cond b x y ≡ y
  taken b x y off = rw off refl

  -- where nothing was there, nothing is lost
  put_keeps : names s p ≡ None → KeepsAll names (put_name names s p bytes)
  put_keeps none t q kept h = elim (cases_Bool (bytes_eq s t && same_place p q)) as (λ _. put_name names s p bytes t q ≡ Some kept) [
    | inl on ↦ absurd (
        let parts = and_parts (bytes_eq s t) (same_place p q) on in
        let there = sym none ∙ ap (λ u. names u p) ((bytes_eq-Decides s t).0 parts.0) ∙ ap (names t) (same_place-eq p q parts.1) ∙ h in
        cc)
    | inr off ↦ taken (bytes_eq s t && same_place p q) (Some bytes) (names t q) off ∙ h
  ]

untouched_same : (r : Bool) (s : List ℕ) (f : Files) → IsUntouched r s f f
untouched_same r s f = record {
  others = λ t q apart. refl;
  others_kept = λ t q apart. refl;
  kept = λ t q bytes h. h;
  stays = λ off t q bytes h. h;
  replaced = λ q bytes h. inl h;
}

untouched_given : (r : Bool) (s : List ℕ) (p : Place) (bytes : List ℕ) (f : Files) → f.fragments s p ≡ None
    → IsUntouched r s f (with_fragment f s p bytes)
untouched_given r s p bytes f none = record {
  others = λ t q apart. put_other f.fragments s p bytes t q apart;
  others_kept = λ t q apart. refl;
  kept = λ t q kept h. h;
  stays = λ off t q kept h. put_keeps f.fragments s p bytes none t q kept h;
  replaced = λ q kept h. inl (put_keeps f.fragments s p bytes none s q kept h);
}

some_same : (x y : List ℕ) (o : Option (List ℕ)) → o ≡ Some x → o ≡ Some y → Some x ≡ Some y
some_same x y o a b = sym a ∙ b

untouched_exchanged : (s : List ℕ) (p : Place) (bytes was : List ℕ) (f : Files) → f.kept s p ≡ None → f.fragments s p ≡ Some was
    → IsUntouched true s f (with_fragment (with_kept f s p was) s p bytes)
untouched_exchanged s p bytes was f none there = record {
  others = λ t q apart. put_other f.fragments s p bytes t q apart;
  others_kept = λ t q apart. put_other f.kept s p was t q apart;
  kept = λ t q kept h. put_keeps f.kept s p was none t q kept h;
  stays = λ off. absurd (cc);
  replaced = λ q kept h. elim (cases_Bool (same_place p q)) as
      (λ _. (put_name f.fragments s p bytes s q ≡ Some kept) ⊎ (put_name f.kept s p was s q ≡ Some kept)) [
        | inl same ↦ inr (subst (λ u. put_name f.kept s p was s u ≡ Some kept) (same_place-eq p q same)
            (put_own f.kept s p was
            ∙ some_same was kept (f.fragments s p) there (ap (f.fragments s) (same_place-eq p q same) ∙ h)))
        | inr apart ↦ inl (put_elsewhere f.fragments s p bytes s q apart ∙ h)
      ];
}

untouched_with_old : (s : List ℕ) (p : Place) (bytes : List ℕ) (f : Files) (o : Option (List ℕ)) → f.kept s p ≡ None
    → f.fragments s p ≡ o → IsUntouched true s f (with_fragment (with_old f s p o) s p bytes)
untouched_with_old s p bytes f None none is = untouched_given true s p bytes f is
untouched_with_old s p bytes f (Some was) none is = untouched_exchanged s p bytes was f none is

-- ---- a name that was given

pub given_untouched : (r : Result PlacedName Error) (s : List ℕ) (p : Place) (bytes : List ℕ) (old new : Files)
    → GivesName r s p bytes old new → AreUntouched false s (Some old) (Some new)
given_untouched (Ok placed.Placed) s p bytes old new (none, is) =
    subst (λ n. IsUntouched false s old n) (sym is) (untouched_given false s p bytes old none)
given_untouched (Ok placed.IsThere) s p bytes old new (there, is) =
    subst (λ n. IsUntouched false s old n) (sym is) (untouched_same false s old)
given_untouched (Err e) s p bytes old new is = subst (λ n. IsUntouched false s old n) (sym is) (untouched_same false s old)

pub given_elsewhere : (r : Result PlacedName Error) (s : List ℕ) (p : Place) (bytes : List ℕ) (old new : Files)
    → GivesName r s p bytes old new → SameElsewhere s p (Some old) (Some new)
given_elsewhere (Ok placed.Placed) s p bytes old new (none, is) =
    λ q apart. ap (λ (f : Files). f.fragments s q) is ∙ put_elsewhere old.fragments s p bytes s q apart
given_elsewhere (Ok placed.IsThere) s p bytes old new (there, is) = λ q apart. ap (λ (f : Files). f.fragments s q) is
given_elsewhere (Err e) s p bytes old new is = λ q apart. ap (λ (f : Files). f.fragments s q) is

pub given_placed : (r : Result PlacedName Error) (s : List ℕ) (p : Place) (bytes : List ℕ) (old new : Files)
    → GivesName r s p bytes old new → IfOk r (HasName s p (Some bytes) (Some new))
given_placed (Ok placed.Placed) s p bytes old new (none, is) =
    ap (λ (f : Files). f.fragments s p) is ∙ put_own old.fragments s p bytes
given_placed (Ok placed.IsThere) s p bytes old new so = tt
given_placed (Err e) s p bytes old new so = tt

-- what a name was given, where nothing was, is there
had_none : (t : List ℕ) (q : Place) (s : List ℕ) (given : Given) (from old : Files) → old.fragments t q ≡ None
    → (old.fragments t q ≡ from.fragments t q)
    ⊎ ((bytes_eq s t ≡ true) × (from.fragments t q ≡ None) × ((b : List ℕ) × (given q ≡ Some b) × (old.fragments t q ≡ Some b)))
    → from.fragments t q ≡ None
had_none t q s given from old none (inl same) = sym same ∙ none
had_none t q s given from old none (inr had) = had.1

still : (t : List ℕ) (q : Place) (s : List ℕ) (given : Given) (from old new : Files) → new.fragments t q ≡ old.fragments t q
    → (old.fragments t q ≡ from.fragments t q)
    ⊎ ((bytes_eq s t ≡ true) × (from.fragments t q ≡ None) × ((b : List ℕ) × (given q ≡ Some b) × (old.fragments t q ≡ Some b)))
    → (new.fragments t q ≡ from.fragments t q)
    ⊎ ((bytes_eq s t ≡ true) × (from.fragments t q ≡ None) × ((b : List ℕ) × (given q ≡ Some b) × (new.fragments t q ≡ Some b)))
still t q s given from old new is (inl same) = inl (is ∙ same)
still t q s given from old new is (inr had) = inr (had.0, had.1, (had.2.0, had.2.1, is ∙ had.2.2))

kept_given : (s : List ℕ) (p : Place) (bytes : List ℕ) (given : Given) (from old : Files) → old.fragments s p ≡ None
    → given p ≡ Some bytes → KeepsOrHas s given from old → (t : List ℕ) (q : Place)
    → ((with_fragment old s p bytes).fragments t q ≡ from.fragments t q)
    ⊎ ((bytes_eq s t ≡ true) × (from.fragments t q ≡ None)
    × ((b : List ℕ) × (given q ≡ Some b) × ((with_fragment old s p bytes).fragments t q ≡ Some b)))
kept_given s p bytes given from old none is before t q = elim (cases_Bool (bytes_eq s t && same_place p q)) [
  | inl on ↦ (let parts = and_parts (bytes_eq s t) (same_place p q) on in
      let stripe = (bytes_eq-Decides s t).0 parts.0 in
      let place = same_place-eq p q parts.1 in
      inr (
        parts.0,
        had_none t q s given from old (subst (λ u. old.fragments u q ≡ None) stripe
            (subst (λ r. old.fragments s r ≡ None) place none)) (before.names t q),
        (bytes, subst (λ r. given r ≡ Some bytes) place is, rw on refl),
      ))
  | inr off ↦ still t q s given from old (with_fragment old s p bytes)
      (taken old.fragments s p bytes (bytes_eq s t && same_place p q) (Some bytes) (old.fragments t q) off) (before.names t q)
]

pub given_kept : (r : Result PlacedName Error) (s : List ℕ) (p : Place) (bytes : List ℕ) (given : Given) (from old new : Files)
    → GivesName r s p bytes old new → given p ≡ Some bytes → KeepsOrHas s given from old → KeepsOrHas s given from new
given_kept (Ok placed.Placed) s p bytes given from old new (none, are) is before =
    subst (KeepsOrHas s given from) (sym are) (record {
      names = kept_given s p bytes given from old none is before;
      seconds = before.seconds;
    })
given_kept (Ok placed.IsThere) s p bytes given from old new (there, are) is before = subst (KeepsOrHas s given from) (sym are) before
given_kept (Err e) s p bytes given from old new are is before = subst (KeepsOrHas s given from) (sym are) before

keeps_bytes : (old new : Files) → KeepsAll old.fragments new.fragments → StaysOver (HasBytes old) (HasBytes new)
keeps_bytes old new keeps s p shown has = (has.0, has.1, keeps s p has.0 has.2)

pub given_others : (r : Result PlacedName Error) (s : List ℕ) (p : Place) (bytes : List ℕ) (old new : Files)
    → GivesName r s p bytes old new → StaysOver (HasBytes old) (HasBytes new)
given_others r s p bytes old new so = keeps_bytes old new ((given_untouched r s p bytes old new so).stays refl)

pub given_named : (r : Result PlacedName Error) (s : List ℕ) (p : Place) (bytes : List ℕ) (old new : Files)
    → GivesName r s p bytes old new → IfOk r (λ x. x ≡ placed.Placed → HasBytes new s p (Some bytes))
given_named (Ok placed.Placed) s p bytes old new so = λ is. (bytes, refl, given_placed (Ok placed.Placed) s p bytes old new so)
given_named (Ok placed.IsThere) s p bytes old new so = λ is. absurd (cc)
given_named (Err e) s p bytes old new so = tt

-- ---- a name that was exchanged

old_fragments : (f : Files) (s : List ℕ) (p : Place) (o : Option (List ℕ)) → (with_old f s p o).fragments ≡ f.fragments
old_fragments f s p None = refl
old_fragments f s p (Some was) = refl

pub exchanged_untouched : (r : Result PlacedName Error) (s : List ℕ) (p : Place) (bytes : List ℕ) (old new : Files)
    → ExchangesName r s p bytes old new → AreUntouched true s (Some old) (Some new)
exchanged_untouched (Ok placed.Placed) s p bytes old new (none, is) =
    subst (λ n. IsUntouched true s old n) (sym is) (untouched_with_old s p bytes old (old.fragments s p) none refl)
exchanged_untouched (Ok placed.IsThere) s p bytes old new (there, is) =
    subst (λ n. IsUntouched true s old n) (sym is) (untouched_same true s old)
exchanged_untouched (Err e) s p bytes old new is = subst (λ n. IsUntouched true s old n) (sym is) (untouched_same true s old)

pub exchanged_elsewhere : (r : Result PlacedName Error) (s : List ℕ) (p : Place) (bytes : List ℕ) (old new : Files)
    → ExchangesName r s p bytes old new → SameElsewhere s p (Some old) (Some new)
exchanged_elsewhere (Ok placed.Placed) s p bytes old new (none, is) = λ q apart.
    ap (λ (f : Files). f.fragments s q) is
    ∙ put_elsewhere (with_old old s p (old.fragments s p)).fragments s p bytes s q apart
    ∙ ap (λ (names : Names). names s q) (old_fragments old s p (old.fragments s p))
exchanged_elsewhere (Ok placed.IsThere) s p bytes old new (there, is) = λ q apart. ap (λ (f : Files). f.fragments s q) is
exchanged_elsewhere (Err e) s p bytes old new is = λ q apart. ap (λ (f : Files). f.fragments s q) is

pub exchanged_placed : (r : Result PlacedName Error) (s : List ℕ) (p : Place) (bytes : List ℕ) (old new : Files)
    → ExchangesName r s p bytes old new → IfOk r (HasName s p (Some bytes) (Some new))
exchanged_placed (Ok placed.Placed) s p bytes old new (none, is) =
    ap (λ (f : Files). f.fragments s p) is ∙ put_own (with_old old s p (old.fragments s p)).fragments s p bytes
exchanged_placed (Ok placed.IsThere) s p bytes old new so = tt
exchanged_placed (Err e) s p bytes old new so = tt

pub exchanged_beside : (r : Result PlacedName Error) (s : List ℕ) (p : Place) (bytes : List ℕ) (old new : Files)
    → ExchangesName r s p bytes old new → StaysBeside s p (HasBytes old) (HasBytes new)
exchanged_beside r s p bytes old new so =
    λ q shown apart has. (has.0, has.1, exchanged_elsewhere r s p bytes old new so q apart ∙ has.2)

pub exchanged_named : (r : Result PlacedName Error) (s : List ℕ) (p : Place) (bytes : List ℕ) (old new : Files)
    → ExchangesName r s p bytes old new → IfOk r (λ x. x ≡ placed.Placed → HasBytes new s p (Some bytes))
exchanged_named (Ok placed.Placed) s p bytes old new so =
    λ is. (bytes, refl, exchanged_placed (Ok placed.Placed) s p bytes old new so)
exchanged_named (Ok placed.IsThere) s p bytes old new so = λ is. absurd (cc)
exchanged_named (Err e) s p bytes old new so = tt

-- ---- names that were exchanged or given, one after the other

-- an exchange at a place that was given nothing before
module _ (s : List ℕ) (p : Place) (bytes : List ℕ) (given : Given) (from old : Files) (fresh : given p ≡ None)
    (changes : ChangesOrHas s given from old) where
  abbrev after : Given
  after = one_more given p (Some bytes)

  same_name : old.fragments s p ≡ from.fragments s p
  same_name = elim (changes.names s p) as (λ _. old.fragments s p ≡ from.fragments s p) [
    | inl same ↦ same
    | inr has ↦ absurd (let both : None ≡ Some has.1.0 = sym fresh ∙ has.1.1 in cc)
  ]

  same_second : old.kept s p ≡ from.kept s p
  same_second = elim (changes.seconds s p) as (λ _. old.kept s p ≡ from.kept s p) [
    | inl same ↦ same
    | inr got ↦ absurd (let both : None ≡ Some got.2.0 = sym fresh ∙ got.2.1 in cc)
  ]

  -- what was given before at other names
  still_given : (t : List ℕ) (q : Place) (b : List ℕ) → bytes_eq s t ≡ true → (bytes_eq s t && same_place p q) ≡ false
      → given q ≡ Some b → after q ≡ Some b
  still_given t q b stripe off is = more_off given p (Some bytes) q (sym (ap (λ x. x && same_place p q) stripe) ∙ off) ∙ is

  abbrev IsName : Files → List ℕ → Place → Type 0
  IsName new t q = (new.fragments t q ≡ from.fragments t q)
      ⊎ ((bytes_eq s t ≡ true) × ((b : List ℕ) × (after q ≡ Some b) × (new.fragments t q ≡ Some b)
      × ((from.fragments t q ≡ None) ⊎ (new.kept t q ≡ from.fragments t q))))

  abbrev IsSecond : Files → List ℕ → Place → Type 0
  IsSecond new t q = (new.kept t q ≡ from.kept t q) ⊎ ((bytes_eq s t ≡ true)
      × (from.kept t q ≡ None) × ((b : List ℕ) × (after q ≡ Some b)) × (new.kept t q ≡ from.fragments t q))

  -- at other names all is as it was
  name_off : (new : Files) (t : List ℕ) (q : Place) → (bytes_eq s t && same_place p q) ≡ false → new.fragments t q ≡ old.fragments t q
      → new.kept t q ≡ old.kept t q → IsName new t q
  name_off new t q off same second = elim (changes.names t q) as (λ _. IsName new t q) [
    | inl had ↦ inl (same ∙ had)
    | inr has ↦ inr (
      has.0,
      (
        has.1.0,
        still_given t q has.1.0 has.0 off has.1.1,
        same ∙ has.1.2,
        elim has.1.3 as (λ _. (from.fragments t q ≡ None) ⊎ (new.kept t q ≡ from.fragments t q)) [
          | inl none ↦ inl none
          | inr kept ↦ inr (second ∙ kept)
        ],
      ),
    )
  ]

  second_off : (new : Files) (t : List ℕ) (q : Place) → (bytes_eq s t && same_place p q) ≡ false → new.kept t q ≡ old.kept t q
      → IsSecond new t q
  second_off new t q off same = elim (changes.seconds t q) as (λ _. IsSecond new t q) [
    | inl had ↦ inl (same ∙ had)
    | inr got ↦ inr (got.0, got.1, (got.2.0, still_given t q got.2.0 got.0 off got.2.1), same ∙ got.3)
  ]

  -- something may have been there
  changed_at : (o : Option (List ℕ)) → old.fragments s p ≡ o → old.kept s p ≡ None
      → ChangesOrHas s after from (with_fragment (with_old old s p o) s p bytes)
  changed_at None is free = let new = with_fragment old s p bytes in record {
    names = λ t q. elim (cases_Bool (bytes_eq s t && same_place p q)) as (λ _. IsName new t q) [
      | inl on ↦ (let parts = and_parts (bytes_eq s t) (same_place p q) on in
          subst (λ u. IsName new u q) ((bytes_eq-Decides s t).0 parts.0) (subst (IsName new s) (same_place-eq p q parts.1)
          (inr (
            (bytes_eq-Decides s s).1 refl,
            (
              bytes,
              more_on given p (Some bytes),
              put_own old.fragments s p bytes,
              inl (sym same_name ∙ is),
            ),
          ))))
      | inr off ↦ name_off new t q off
          (taken old.fragments s p bytes (bytes_eq s t && same_place p q) (Some bytes) (old.fragments t q) off) refl
    ];
    seconds = λ t q. elim (cases_Bool (bytes_eq s t && same_place p q)) as (λ _. IsSecond new t q) [
      | inl on ↦ (let parts = and_parts (bytes_eq s t) (same_place p q) on in
          subst (λ u. IsSecond new u q) ((bytes_eq-Decides s t).0 parts.0) (subst (IsSecond new s) (same_place-eq p q parts.1)
          (inl same_second)))
      | inr off ↦ second_off new t q off refl
    ];
  }
  changed_at (Some was) is free = let new = with_fragment (with_kept old s p was) s p bytes in record {
    names = λ t q. elim (cases_Bool (bytes_eq s t && same_place p q)) as (λ _. IsName new t q) [
      | inl on ↦ (let parts = and_parts (bytes_eq s t) (same_place p q) on in
          subst (λ u. IsName new u q) ((bytes_eq-Decides s t).0 parts.0) (subst (IsName new s) (same_place-eq p q parts.1)
          (inr (
            (bytes_eq-Decides s s).1 refl,
            (
              bytes,
              more_on given p (Some bytes),
              put_own old.fragments s p bytes,
              inr (put_own old.kept s p was ∙ sym is ∙ same_name),
            ),
          ))))
      | inr off ↦ name_off new t q off
          (taken old.fragments s p bytes (bytes_eq s t && same_place p q) (Some bytes) (old.fragments t q) off)
          (taken old.kept s p was (bytes_eq s t && same_place p q) (Some was) (old.kept t q) off)
    ];
    seconds = λ t q. elim (cases_Bool (bytes_eq s t && same_place p q)) as (λ _. IsSecond new t q) [
      | inl on ↦ (let parts = and_parts (bytes_eq s t) (same_place p q) on in
          subst (λ u. IsSecond new u q) ((bytes_eq-Decides s t).0 parts.0) (subst (IsSecond new s) (same_place-eq p q parts.1)
          (inr (
            (bytes_eq-Decides s s).1 refl,
            sym same_second ∙ free,
            (bytes, more_on given p (Some bytes)),
            put_own old.kept s p was ∙ sym is ∙ same_name,
          ))))
      | inr off ↦ second_off new t q off (taken old.kept s p was (bytes_eq s t && same_place p q) (Some was) (old.kept t q) off)
    ];
  }

  unchanged_there : (new : Files) → new ≡ old → GivesOneMore ChangesOrHas s given p (Some bytes) from new
  unchanged_there new is = record {
    after = given;
    are = λ q. inl refl;
    changes = subst (ChangesOrHas s given from) (sym is) changes;
  }

  pub exchanged_changed : (r : Result PlacedName Error) (new : Files) → ExchangesName r s p bytes old new
      → GivesOneMore ChangesOrHas s given p (Some bytes) from new
  exchanged_changed (Ok placed.Placed) new (none, is) = record {
    after = after;
    are = more_are given p (Some bytes);
    changes = subst (ChangesOrHas s after from) (sym is) (changed_at (old.fragments s p) refl none);
  }
  exchanged_changed (Ok placed.IsThere) new (there, is) = unchanged_there new is
  exchanged_changed (Err e) new is = unchanged_there new is
