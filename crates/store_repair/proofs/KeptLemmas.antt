-- Fragments that are given to places of a stripe.
use Rattle.std.proofs.Common.{◌≡◌, ◌∙◌, ◌<◌, ◌+◌, ℕ, zero, suc, List, [], ◌∷◌, ◌++◌, Bool, true, false, cond, refl, sym, ap, subst, arith}
use Rattle.std.proofs.Common.{inl, inr, get_or, length, All, Option, Some, None, IfSome, Result, Ok, Err}
use Rattle.std.specs.Prelude.{◌&&◌, ◌⊎◌, IfOk}
use Rattle.std.specs.declared.io.Error.{Error}
use Rattle.std.proofs.lemmas.Bool.{cases_Bool}
use Rattle.std.proofs.lemmas.List.Elements.{All-push}
use Rattle.lrc_code.specs.declared.places.Place.{Place}
use Rattle.lrc_code.specs.declared.codes.Code.{Code as CodeName}
use Rattle.lrc_code.specs.Places.{same_place}
use Rattle.lrc_code.proofs.PlaceSums.{same_place-eq, same_place-refl}
use Rattle.stores.specs.Kept.{Given, StaysBeside, StaysOver, nothing}
use Rattle.store_repair.specs.Kept.{AreDone, FitOnly, IsRepaired, given_by}
use Rattle.store_repair.specs.Opened.{AreApart, AreMade, AreOnlyOnes, IsOnlyOne}
use Rattle.store_repair.specs.Repaired.{IsPlaced}
use Rattle.stores.specs.Store.{Files, ShownFiles}
use Rattle.stores.specs.declared.store.Placed.{Placed as PlacedName}
use Rattle.stores.specs.declared.store.Placed.TheVariants as placed

module _ {N : Type 0} (shown : N → Option (List ℕ)) where
  own : (same : Bool) (a b : Option (List ℕ)) → same ≡ true → cond same a b ≡ a
  own same a b on = rw on refl

  other : (same : Bool) (a b : Option (List ℕ)) → same ≡ false → cond same a b ≡ b
  other same a b off = rw off refl

  -- the file at the index of a place is what is given there
  given_at : (places : List Place) (made : List N) → AreApart places → length made ≡ length places → (k : ℕ) → k < length made
      → (d : Place) (e : N) → given_by shown places made (get_or places k d) ≡ shown (get_or made k e)
  given_at [] [] apart long k lt d e = absurd (omega (arith, lt))
  given_at [] (f ∷ made) apart long k lt d e = absurd (omega (arith, long))
  given_at (q ∷ places) [] apart long k lt d e = absurd (omega (arith, long))
  given_at (q ∷ places) (f ∷ made) apart long zero lt d e =
      own (same_place q q) (shown f) (given_by shown places made q) (same_place-refl q)
  given_at (q ∷ places) (f ∷ made) apart long (suc k) lt d e =
      other (same_place q (get_or places k d)) (shown f) (given_by shown places made (get_or places k d))
      (apart 0 (suc k) d (omega arith) (omega (arith, lt, long)))
      ∙ given_at places made (λ i j c before after. apart (suc i) (suc j) c (omega (arith, before)) (omega (arith, after)))
      (omega (arith, long)) k (omega (arith, lt)) d e

  pub given_here : (places : List Place) (made : List N) (k : ℕ) (p : Place) (file : N) → AreApart places
      → length made ≡ length places → k < length made → ((d : Place) → get_or places k d ≡ p) → ((e : N) → get_or made k e ≡ file)
      → given_by shown places made p ≡ shown file
  given_here places made k p file apart long lt here is =
      sym (ap (given_by shown places made) (here p)) ∙ given_at places made apart long k lt p file ∙ ap shown (is file)

  module _ (code : CodeName) (survives : Place → Bool) (len : ℕ) (stripe : List ℕ) (old : Files) where
    abbrev Fits : Place → List ℕ → Type 0
    Fits p bytes = (some : Place → Bool) × (n : ℕ) × ((q : Place) × (some q ≡ true)) × IsOnlyOne code some n stripe old p bytes

    fits_one : (used : (q : Place) × (survives q ≡ true)) (p : Place) (o : Option (List ℕ))
        → IfSome o (IsOnlyOne code survives len stripe old p) → IfSome o (Fits p)
    fits_one used p None one = tt
    fits_one used p (Some bytes) one = (survives, len, used, one)

    fits_all : (places : List Place) (made : List N) → (0 < length made → (q : Place) × (survives q ≡ true))
        → AreOnlyOnes shown code survives len stripe old places made → (p : Place) → IfSome (given_by shown places made p) (Fits p)
    fits_all [] made used ones p = tt
    fits_all (q ∷ places) [] used ones p = tt
    fits_all (q ∷ places) (f ∷ made) used ones p = elim (cases_Bool (same_place q p)) [
      | inl same ↦ subst (λ o. IfSome o (Fits p)) (sym (own (same_place q p) (shown f) (given_by shown places made p) same))
          (fits_one (used (omega arith)) p (shown f) (subst (λ r. IfSome (shown f) (IsOnlyOne code survives len stripe old r))
          (same_place-eq q p same) (ones 0 p f (omega arith))))
      | inr apart ↦ subst (λ o. IfSome o (Fits p)) (sym (other (same_place q p) (shown f) (given_by shown places made p) apart))
          (fits_all places made (λ lt. used (omega arith))
          (λ k d e lt. ones (suc k) d e (omega (arith, lt))) p)
    ]

  pub are_fit : (code : CodeName) (survives : Place → Bool) (len : ℕ) (stripe : List ℕ) (files : ShownFiles) (places : List Place)
      (made : List N) → AreMade shown code survives len stripe files places made
      → FitOnly code stripe files (given_by shown places made)
  are_fit code survives len stripe None places made are = tt
  are_fit code survives len stripe (Some old) places made are =
      fits_all code survives len stripe old places made are.used are.only

-- where nothing is given, nothing has to fit
pub none_fit : (code : CodeName) (stripe : List ℕ) (files : ShownFiles) → FitOnly code stripe files nothing
none_fit code stripe None = tt
none_fit code stripe (Some old) = λ p. tt

module _ {S : Type 0} (kept : List ℕ → Given → S → S → Type 0) (same : (stripe : List ℕ) (given : Given) (s : S) → kept stripe given s s)
    (settled : S → List ℕ → Place → Option (List ℕ) → Type 0)
    (over : (stripe : List ℕ) (given : Given) (from to : S) → kept stripe given from to → StaysOver (settled from) (settled to))
    (code : CodeName) (stripe : List ℕ) (files : ShownFiles) (old new : S) where
  -- calls that gave nothing
  pub none_given : ((given : Given) (from : S) → kept stripe given from old → kept stripe given from new)
      → IsRepaired kept settled code stripe files old new
  none_given leads = let keeps = leads nothing old (same stripe nothing old) in record {
    given = nothing;
    fit = none_fit code stripe files;
    keeps = keeps;
    stays = over stripe nothing old new keeps;
  }

  -- or what fits
  pub some_given : {N : Type 0} (shown : N → Option (List ℕ)) (survives : Place → Bool) (len : ℕ) (places : List Place) (made : List N)
      (mid : S) → AreMade shown code survives len stripe files places made
      → ((given : Given) (from : S) → kept stripe given from old → kept stripe given from mid)
      → ((from : S) → kept stripe (given_by shown places made) from mid → kept stripe (given_by shown places made) from new)
      → IsRepaired kept settled code stripe files old new
  some_given shown survives len places made mid are first second =
      let given = given_by shown places made in
      let keeps = second old (first given old (same stripe given old)) in record {
        given = given;
        fit = are_fit shown code survives len stripe files places made are;
        keeps = keeps;
        stays = over stripe given old new keeps;
      }

module _ {S : Type 0} (settled : S → List ℕ → Place → Option (List ℕ) → Type 0) (code : CodeName) (stripe : List ℕ) (files : ShownFiles)
    (new : S) where
  -- where no fragment got a name, all that did are on the disk
  pub none_done : (places : List Place) → places ≡ [] → AreDone settled code stripe files new places
  none_done places none = record {
    given = nothing;
    fit = none_fit code stripe files;
    done = λ k d lt. absurd (let long = ap length none in omega (arith, lt, long));
  }

  pub some_done : {N : Type 0} (shown : N → Option (List ℕ)) (survives : Place → Bool) (len : ℕ) (places : List Place) (made : List N)
      (put : List Place) → AreMade shown code survives len stripe files places made
      → All (λ p. settled new stripe p (given_by shown places made p)) put → AreDone settled code stripe files new put
  some_done shown survives len places made put are done = record {
    given = given_by shown places made;
    fit = are_fit shown code survives len stripe files places made are;
    done = done;
  }

-- ---- what is said of one name after the other

module _ (s : List ℕ) (given : Given) (places : List Place) (old new : List ℕ → Place → Option (List ℕ) → Type 0)
    (stays : StaysOver old new) (are : All (λ p. old s p (given p)) places) where
  pub all_over : All (λ p. new s p (given p)) places
  all_over k d lt = stays s (get_or places k d) (given (get_or places k d)) (are k d lt)

-- the same where a place of those that wait got its name, and what is so of others stays
module _ (s : List ℕ) (given : Given) (places : List Place) (n : ℕ) (p : Place) (put : List Place)
    (old new : List ℕ → Place → Option (List ℕ) → Type 0) (here : (d : Place) → get_or places n d ≡ p)
    (far : All (λ q. (k : ℕ) (d : Place) → k < n + 1 → same_place (get_or places k d) q ≡ false) put)
    (stays : StaysBeside s p old new) (are : All (λ q. old s q (given q)) put) where
  pub all_beside : All (λ q. new s q (given q)) put
  all_beside i d lt =
      stays (get_or put i d) (given (get_or put i d))
      (subst (λ r. same_place r (get_or put i d) ≡ false) (here p) (far i d lt n p (omega arith))) (are i d lt)

  pub all_more : (bytes : Option (List ℕ)) → given p ≡ bytes → new s p bytes → All (λ q. new s q (given q)) (put ++ (p ∷ []))
  all_more bytes is has = All-push (λ q. new s q (given q)) put p all_beside (subst (new s p) (sym is) has)

-- what is so of other places stays where all does, or names are apart
pub beside_either : (s : List ℕ) (p : Place) (off apart : Type 0) (old new : List ℕ → Place → Option (List ℕ) → Type 0)
    → (off → StaysOver old new) → (apart → StaysBeside s p old new) → off ⊎ apart → StaysBeside s p old new
beside_either s p off apart old new over beside (inl is) = λ q bytes other had. over is s q bytes had
beside_either s p off apart old new over beside (inr are) = beside are

-- a fragment that got its name
pub if_placed : (r : Result PlacedName Error) (P : Type 0) → IfOk r (λ x. x ≡ placed.Placed → P) → IsPlaced r → P
if_placed (Ok placed.Placed) P so is = so refl
if_placed (Ok placed.IsThere) P so is = absurd is
if_placed (Err e) P so is = absurd is

pub off_with : (r c : Bool) → r ≡ false → (r && c) ≡ false
off_with r c off = rw off refl

-- where nothing is replaced, or names are apart, it is so after calls that gave nothing
module _ {S : Type 0} (kept : List ℕ → Given → S → S → Type 0) (same : (stripe : List ℕ) (given : Given) (s : S) → kept stripe given s s)
    (apart : S → Type 0) (stay : (stripe : List ℕ) (given : Given) (old new : S) → kept stripe given old new → apart old → apart new) where
  pub either_after : (r c : Bool) (stripe : List ℕ) (old new : S)
      → ((given : Given) (from : S) → kept stripe given from old → kept stripe given from new)
      → (r ≡ false) ⊎ apart old → ((r && c) ≡ false) ⊎ apart new
  either_after r c stripe old new keeps (inl off) = inl (off_with r c off)
  either_after r c stripe old new keeps (inr are) =
      inr (stay stripe nothing old new (keeps nothing old (same stripe nothing old)) are)
