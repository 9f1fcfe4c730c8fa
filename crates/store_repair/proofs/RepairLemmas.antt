-- What a repair leaves, step by step.
use Rattle.std.proofs.Common.{◌≡◌, ◌∙◌, ◌<◌, ◌+◌, ℕ, List, [], ◌∷◌, ◌++◌, Bool, true, false, refl, sym, ap, subst, arith, inl}
use Rattle.std.proofs.Common.{inr}
use Rattle.std.proofs.Common.{get_or, length, set, Option, Some, None, All, IfSome}
use Rattle.std.specs.Prelude.{◌⊎◌, ◌&&◌, not, is_some, IsSome}
use Rattle.std.proofs.lemmas.Bool.{and_parts, cases_Bool, cases_lt, eq-eqb, eqb-true}
use Rattle.std.proofs.lemmas.List.{get_or-set_other, get_or_append_left, get_or_push, length-set}
use Rattle.std.proofs.lemmas.List.Elements.{All-push}
use Rattle.std.proofs.lemmas.Grind.{get_or-set_at}
use Rattle.lrc_code.specs.declared.places.Place.{Place}
use Rattle.lrc_code.specs.declared.codes.Code.{Code as CodeName}
use Rattle.lrc_code.specs.Code.{has_place}
use Rattle.lrc_code.specs.Codes.{tables_of}
use Rattle.lrc_code.specs.Places.{index_of, same_place}
use Rattle.lrc_code.specs.Sets.{is_in}
use Rattle.lrc_code.proofs.PlaceSums.{index_of-lt, place_at}
use Rattle.lrc_plan.specs.Stripes.{AreWhole}
use Rattle.store_repair.specs.Damage.{all_but}
use Rattle.store_repair.specs.Mended.{AreLost, IsMended, IsMendedStripe}
use Rattle.store_repair.specs.Opened.{AreApart, AreMade, AreOnlyOnes, AreOpened, AreRebuilt, IsOnlyOne, IsOpenedAt, IsPutOf}
use Rattle.store_repair.specs.Opened.{IsRebuiltAt, nth_place}
use Rattle.stores.specs.Shown.{AreShown}
use Rattle.stores.specs.Store.{AreUntouched, Files, HasName, IsUntouched, SameElsewhere, ShownFiles}
use Rattle.stores.specs.declared.store.Placed.TheVariants as placed
use Rattle.store_repair.proofs.ScrubLemmas.{of_one_stripe}
use Rattle.store_repair.proofs.OpenedLemmas.{are_from, are_shown, are_whole, at}

-- ---- what is untouched

replaced_still : (r : Bool) (s : List ℕ) (a b c : Files) (p : Place) (bytes : List ℕ) → IsUntouched r s b c
    → (b.fragments s p ≡ Some bytes) ⊎ (b.kept s p ≡ Some bytes) → (c.fragments s p ≡ Some bytes) ⊎ (c.kept s p ≡ Some bytes)
replaced_still r s a b c p bytes so (inl there) = so.replaced p bytes there
replaced_still r s a b c p bytes so (inr kept) = inr (so.kept s p bytes kept)

pub untouched_trans : (r : Bool) (s : List ℕ) (a b c : ShownFiles) → AreUntouched r s a b → AreUntouched r s b c → AreUntouched r s a c
untouched_trans r s None None None x y = tt
untouched_trans r s None None (Some c) x y = absurd y
untouched_trans r s None (Some b) c x y = absurd x
untouched_trans r s (Some a) None c x y = absurd x
untouched_trans r s (Some a) (Some b) None x y = absurd y
untouched_trans r s (Some a) (Some b) (Some c) x y = record {
  others = λ t p other. y.others t p other ∙ x.others t p other;
  others_kept = λ t p other. y.others_kept t p other ∙ x.others_kept t p other;
  kept = λ t p bytes h. y.kept t p bytes (x.kept t p bytes h);
  stays = λ off t p bytes h. y.stays off t p bytes (x.stays off t p bytes h);
  replaced = λ p bytes h. replaced_still r s a b c p bytes y (x.replaced p bytes h);
}

pub off_too : (w r : Bool) → (w ≡ true → r ≡ true) → r ≡ false → w ≡ false
off_too true r implies off = absurd (let on = implies refl in cc)
off_too false r implies off = refl

pub untouched_weaker : (w r : Bool) (s : List ℕ) (a b : ShownFiles) → (w ≡ true → r ≡ true) → AreUntouched w s a b → AreUntouched r s a b
untouched_weaker w r s None None implies x = tt
untouched_weaker w r s None (Some b) implies x = absurd x
untouched_weaker w r s (Some a) None implies x = absurd x
untouched_weaker w r s (Some a) (Some b) implies x = record {
  others = x.others;
  others_kept = x.others_kept;
  kept = x.kept;
  stays = λ off. x.stays (off_too w r implies off);
  replaced = x.replaced;
}

-- where only what is checked replaces, nothing is replaced by what isn't
pub untouched_if : (r c : Bool) (s : List ℕ) (a b : ShownFiles) → AreUntouched (r && c) s a b → AreUntouched r s a b
untouched_if r c s a b x = untouched_weaker (r && c) r s a b (λ on. (and_parts r c on).0) x

pub untouched_unless : (r c : Bool) (s : List ℕ) (a b : ShownFiles) → c ≡ false → AreUntouched (r && c) s a b → AreUntouched false s a b
untouched_unless r c s a b off x =
    untouched_weaker (r && c) false s a b (λ on. absurd (let checked = (and_parts r c on).1 in cc)) x

-- ---- names that were given stay

has_stays : (s : List ℕ) (p q : Place) (o : Option (List ℕ)) (a b : ShownFiles) → HasName s q o a placed.Placed
    → SameElsewhere s p a b → same_place p q ≡ false → HasName s q o b placed.Placed
has_stays s p q None a b has same apart = tt
has_stays s p q (Some bytes) None None has same apart = tt
has_stays s p q (Some bytes) None (Some b) has same apart = absurd same
has_stays s p q (Some bytes) (Some a) None has same apart = absurd same
has_stays s p q (Some bytes) (Some a) (Some b) has same apart = same q apart ∙ has

module _ {N : Type 0} (shown : N → Option (List ℕ)) (places : List Place) (made : List N) (s : List ℕ) where
  pub put_stays : (p q : Place) (a b : ShownFiles) → IsPutOf shown places made s a q → SameElsewhere s p a b → same_place p q ≡ false
      → IsPutOf shown places made s b q
  put_stays p q a b put same apart =
      (put.0, put.1, put.2, λ e. has_stays s p q (shown (get_or made put.0 e)) a b (put.3 e) same apart)

-- ---- files that are made

module _ {F N : Type 0} (survivor : F → Option (List ℕ)) (shown : N → Option (List ℕ)) (code : CodeName) (stripe : List ℕ) (len : ℕ)
    (set : List Bool) (fragments : List (Option F)) (sixteen : length fragments ≡ 16) (places : List Place) (made : List N) where
  only_one : (old : Files) (opened : AreOpened survivor code stripe len (Some old) set fragments) (p : Place) (o : Option (List ℕ))
      → IsMended code (is_in set) (at survivor code stripe len old set fragments sixteen opened) len p o
      → IfSome o (IsOnlyOne code (is_in set) len stripe old p)
  only_one old opened p None mended = tt
  only_one old opened p (Some bytes) mended = (
    at survivor code stripe len old set fragments sixteen opened,
    are_from survivor code stripe len old set fragments sixteen opened,
    mended,
  )

  only : (files : ShownFiles) → AreOpened survivor code stripe len files set fragments
      → ((xs : List (List ℕ)) → AreShown survivor fragments xs → AreWhole code (is_in set) xs len
      → IsMendedStripe shown code (is_in set) xs len places made true)
      → IfSome files (λ old. AreOnlyOnes shown code (is_in set) len stripe old places made)
  only None opened mended = tt
  only (Some old) opened mended = λ k d e lt.
      only_one old opened (get_or places k d) (shown (get_or made k e))
      ((mended (at survivor code stripe len old set fragments sixteen opened)
      (are_shown survivor code stripe len old set fragments sixteen opened)
      (are_whole survivor code stripe len old set fragments sixteen opened)).1 k d e lt)

  pub are_made : (files : ShownFiles) → AreOpened survivor code stripe len files set fragments → length made ≡ length places
      → AreApart places → AreLost code (is_in set) places → (0 < length made → (q : Place) × (is_in set q ≡ true))
      → ((xs : List (List ℕ)) → AreShown survivor fragments xs → AreWhole code (is_in set) xs len
      → IsMendedStripe shown code (is_in set) xs len places made true)
      → AreMade shown code (is_in set) len stripe files places made
  are_made files opened long apart lost used mended = record {
    lengths = long;
    apart = apart;
    lost = lost;
    used = used;
    possible = of_one_stripe survivor code stripe len set fragments sixteen files opened (λ xs are whole. (mended xs are whole).0);
    only = only files opened mended;
  }

-- ---- fragments that are left out

own_some : (h i s : Bool) → (i ≡ true → h ≡ true) → s ≡ false → (h && (i && not s)) ≡ i
own_some h true s has off = rw (has refl, off) refl
own_some true false s has off = refl
own_some false false s has off = refl

none_here : (h i s : Bool) → s ≡ true → (h && (i && not s)) ≡ false
none_here true true s on = rw on refl
none_here true false s on = refl
none_here false i s on = refl

module _ {F : Type 0} (shown : F → Option (List ℕ)) (code : CodeName) (stripe : List ℕ) (len : ℕ) (files : ShownFiles) where
  has_of : (p : Place) (x : Option F) → IsOpenedAt shown code stripe len files p x → is_some x ≡ true → has_place (tables_of code) p ≡ true
  has_of p None opened some = absurd (cc)
  has_of p (Some f) opened some = opened.0

  none_opened : (p : Place) → IsOpenedAt {F = F} shown code stripe len files p None
  none_opened p = tt

  pub opened_less : (old new : List Bool) (xs : List (Option F)) (p : Place) → length xs ≡ 16
      → ((q : Place) → is_in new q ≡ (has_place (tables_of code) q && all_but (is_in old) p q))
      → AreOpened shown code stripe len files old xs → AreOpened shown code stripe len files new (set xs (index_of p) None)
  opened_less old new xs p long without so = record {
    set_of = λ q. without q ∙ elim (cases_Bool (same_place p q)) as
        (λ _. (has_place (tables_of code) q && all_but (is_in old) p q) ≡ is_some (get_or (set xs (index_of p) None) (index_of q) None)) [
          | inl same ↦ none_here (has_place (tables_of code) q) (is_in old q) (same_place p q) same
              ∙ ap is_some (sym (get_or-set_at xs (index_of p) (index_of q) None None (sym (eqb-true (index_of p) (index_of q) same))
              (let lt = index_of-lt p in omega (arith, lt, long))))
          | inr apart ↦ own_some (has_place (tables_of code) q) (is_in old q) (same_place p q)
              (λ there. has_of q (get_or xs (index_of q) None)
              (subst (λ r. IsOpenedAt shown code stripe len files r (get_or xs (index_of q) None)) (place_at q)
              (so.each (index_of q) (let lt = index_of-lt q in omega (arith, lt, long)))) (sym (so.set_of q) ∙ there)) apart
              ∙ so.set_of q
              ∙ ap is_some (sym (get_or-set_other xs (index_of p) (index_of q) None None
              (λ e. absurd (let on = eq-eqb (index_of p) (index_of q) (sym e) in cc))))
        ];
    each = λ k lt. (let less : k < length xs = (let same = length-set xs (index_of p) None in omega (arith, lt, same)) in
        elim (cases_lt k (index_of p)) as
        (λ _. IsOpenedAt shown code stripe len files (nth_place k) (get_or (set xs (index_of p) None) k None)) [
          | inl before ↦ subst (IsOpenedAt shown code stripe len files (nth_place k))
              (sym (get_or-set_other xs (index_of p) k None None (λ e. absurd (omega (arith, e, before))))) (so.each k less)
          | inr le ↦ elim (cases_lt (index_of p) k) as
              (λ _. IsOpenedAt shown code stripe len files (nth_place k) (get_or (set xs (index_of p) None) k None)) [
                | inl after ↦ subst (IsOpenedAt shown code stripe len files (nth_place k))
                    (sym (get_or-set_other xs (index_of p) k None None (λ e. absurd (omega (arith, e, after))))) (so.each k less)
                | inr ge ↦ subst (IsOpenedAt shown code stripe len files (nth_place k))
                    (sym (get_or-set_at xs (index_of p) k None None (omega (arith, le, ge)) (omega (arith, less, le, ge))))
                    (none_opened (nth_place k))
              ]
        ]);
  }

-- ---- one name after the other

module _ {N : Type 0} (shown : N → Option (List ℕ)) (places : List Place) (made : List N) (s : List ℕ) (now next : ShownFiles) (n : ℕ)
    (p : Place) (file : N) (put : List Place) (apart : AreApart places) (long : length made ≡ length places) (less : n < length made)
    (here : (d : Place) → get_or places n d ≡ p) (is : (e : N) → get_or made n e ≡ file) (elsewhere : SameElsewhere s p now next)
    (so : All (IsPutOf shown places made s now) put)
    (far : All (λ q. (k : ℕ) (d : Place) → k < n + 1 → same_place (get_or places k d) q ≡ false) put) where
  -- the names that were given before stay
  pub put_before : All (IsPutOf shown places made s next) put
  put_before i d lt =
      put_stays shown places made s p (get_or put i d) now next (so i d lt) elsewhere
      (subst (λ r. same_place r (get_or put i d) ≡ false) (here p) (far i d lt n p (omega arith)))

  -- and one is given more
  pub put_more : HasName s p (shown file) next placed.Placed → All (IsPutOf shown places made s next) (put ++ (p ∷ []))
  put_more has =
      All-push (IsPutOf shown places made s next) put p put_before
      (n, less, here, λ e. subst (λ f. HasName s p (shown f) next placed.Placed) (sym (is e)) has)

  pub far_before : All (λ q. (k : ℕ) (d : Place) → k < n → same_place (get_or places k d) q ≡ false) put
  far_before i e lt k d small = far i e lt k d (omega (arith, small))

  pub far_more : All (λ q. (k : ℕ) (d : Place) → k < n → same_place (get_or places k d) q ≡ false) (put ++ (p ∷ []))
  far_more =
      All-push (λ q. (k : ℕ) (d : Place) → k < n → same_place (get_or places k d) q ≡ false) put p far_before
      (λ k d small. subst (λ q. same_place (get_or places k d) q ≡ false) (here d) (apart k n d small (omega (arith, less, long))))

-- what was popped was the last
pub popped_before : {N : Type 0} (old new made : List N) (file : N) (n : ℕ) → old ≡ new ++ (file ∷ []) → length new ≡ n
    → ((k : ℕ) (e : N) → k < n + 1 → get_or old k e ≡ get_or made k e) → (k : ℕ) (e : N) → k < n → get_or new k e ≡ get_or made k e
popped_before old new made file n is long so k e lt =
    sym (get_or_append_left new (file ∷ []) e k (omega (arith, lt, long))) ∙ ap (λ xs. get_or xs k e) (sym is)
    ∙ so k e (omega (arith, lt))

pub popped_last : {N : Type 0} (old new made : List N) (file : N) (n : ℕ) → old ≡ new ++ (file ∷ []) → length new ≡ n
    → ((k : ℕ) (e : N) → k < n + 1 → get_or old k e ≡ get_or made k e) → (e : N) → get_or made n e ≡ file
popped_last old new made file n is long so e =
    sym (so n e (omega arith)) ∙ ap (λ xs. get_or xs n e) is ∙ get_or_push new file e n long

-- ---- all of a repair

rebuilt_at : (code : CodeName) (survives : Place → Bool) (len : ℕ) (s : List ℕ) (old : Files) (new : ShownFiles) (p : Place)
    (o : Option (List ℕ)) → IfSome o (IsOnlyOne code survives len s old p) → (IsSome new → IsSome o) → HasName s p o new placed.Placed
    → IsRebuiltAt code survives len s old new p
rebuilt_at code survives len s old None p o one shown has = tt
rebuilt_at code survives len s old (Some new) p None one shown has = absurd (let e = shown refl in cc)
rebuilt_at code survives len s old (Some new) p (Some bytes) one shown has = (bytes, has, one)

module _ {N : Type 0} (shown : N → Option (List ℕ)) (code : CodeName) (survives : Place → Bool) (len : ℕ) (s : List ℕ)
    (places : List Place) where
  put_rebuilt : (made : List N) (old : Files) (new : ShownFiles) (p : Place) → AreOnlyOnes shown code survives len s old places made
      → ((f : N) → IsSome new → IsSome (shown f)) → IsPutOf shown places made s new p → IsRebuiltAt code survives len s old new p
  put_rebuilt [] old new p ones shows put = absurd (let lt = put.1 in omega (arith, lt))
  put_rebuilt (e ∷ made) old new p ones shows put =
      rebuilt_at code survives len s old new p (shown (get_or (e ∷ made) put.0 e))
      (subst (λ q. IfSome (shown (get_or (e ∷ made) put.0 e)) (IsOnlyOne code survives len s old q)) (put.2 p) (ones put.0 p e put.1))
      (shows (get_or (e ∷ made) put.0 e)) (put.3 e)

  pub are_rebuilt : (made : List N) (old new : ShownFiles) (put : List Place)
      → AreMade shown code survives len s old places made → ((f : N) → IsSome new → IsSome (shown f))
      → All (IsPutOf shown places made s new) put → AreRebuilt code survives len s old new put
  are_rebuilt made None new put are shows so = tt
  are_rebuilt made (Some old) new put are shows so =
      λ i d lt. put_rebuilt made old new (get_or put i d) are.only shows (so i d lt)
