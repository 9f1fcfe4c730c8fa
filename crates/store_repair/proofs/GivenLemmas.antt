-- What is given to one place after the other.
use Rattle.std.proofs.Common.{◌≡◌, ◌∙◌, ◌<◌, ◌+◌, ℕ, List, false, refl, sym, ap, subst, arith}
use Rattle.std.proofs.Common.{inl, inr, get_or, length, Option, Some, None, IfSome}
use Rattle.lrc_code.specs.declared.places.Place.{Place}
use Rattle.lrc_code.specs.declared.codes.Code.{Code as CodeName}
use Rattle.lrc_code.specs.Places.{same_place}
use Rattle.lrc_code.proofs.PlaceSums.{same_place-refl}
use Rattle.store_repair.proofs.KeptLemmas.{none_fit}
use Rattle.stores.specs.Changed.{GivesOneMore, IsAmong}
use Rattle.store_repair.specs.Changed.{ChangesAmong, IsMended}
use Rattle.stores.specs.Kept.{Given, given_at, nothing}
use Rattle.store_repair.specs.Kept.{FitOnly}
use Rattle.store_repair.specs.Opened.{AreApart}
use Rattle.stores.specs.Store.{ShownFiles}
use Rattle.stores.proofs.GivenLemmas.{at_among, more_among, more_are, one_more, own_at}

same_among : (given : Given) → IsAmong given given
same_among given p b is = is

none_among : (given : Given) → IsAmong nothing given
none_among given p b is = absurd (let both : None ≡ Some b = is in cc)

-- ---- the places one after the other: those that wait were given nothing

module _ {S : Type 0} (changed : List ℕ → Given → S → S → Type 0) (stripe : List ℕ) where
  pub record AreGivenFrom (all : Given) (places : List Place) (n : ℕ) (from new : S) : Type 0 where
    pub some : ChangesAmong changed stripe all from new
    pub waiting : (k : ℕ) (d : Place) → k < n → some.given (get_or places k d) ≡ None

  pub given_none : (all : Given) (places : List Place) (n : ℕ) (from new : S) → changed stripe nothing from new
      → AreGivenFrom all places n from new
  given_none all places n from new before = record {
    some = record { given = nothing; among = none_among all; changes = before };
    waiting = λ k d lt. refl;
  }

  pub given_next : (all : Given) (places : List Place) (n : ℕ) (place : Place) (bytes : Option (List ℕ)) (from old new : S)
      → AreApart places → n < length places → ((d : Place) → get_or places n d ≡ place) → all place ≡ bytes
      → ((given : Given) (from : S) → given place ≡ None → changed stripe given from old
      → GivesOneMore changed stripe given place bytes from new)
      → AreGivenFrom all places (n + 1) from old → AreGivenFrom all places n from new
  given_next all places n place bytes from old new apart lt here is gives before =
      let fresh = subst (λ p. before.some.given p ≡ None) (here place) (before.waiting n place (omega arith)) in
      let more = gives before.some.given from fresh before.some.changes in record {
        some = record {
          given = more.after;
          among = λ p b at. elim (more.are p) as (λ _. all p ≡ Some b) [
            | inl as_it_was ↦ before.some.among p b (sym as_it_was ∙ at)
            | inr own ↦ ap all own.0 ∙ is ∙ sym own.1 ∙ at
          ];
          changes = more.changes;
        };
        waiting = λ k d less. elim (more.are (get_or places k d)) as (λ _. more.after (get_or places k d) ≡ None) [
          | inl as_it_was ↦ as_it_was ∙ before.waiting k d (omega (arith, less))
          | inr own ↦ absurd (
              let off : same_place place place ≡ false = subst (λ p. same_place p place ≡ false) own.0
              (subst (λ p. same_place (get_or places k d) p ≡ false) (here d) (apart k n d less lt)) in
              let on = same_place-refl place in cc)
        ];
      }

-- ---- calls, with what a store says of them

module _ {S : Type 0} (kept : List ℕ → Given → S → S → Type 0) (changed : List ℕ → Given → S → S → Type 0)
    (same : (stripe : List ℕ) (given : Given) (s : S) → kept stripe given s s)
    (over : (stripe : List ℕ) (given more all : Given) (old mid new : S) → IsAmong given all → IsAmong more all
    → changed stripe given old mid → kept stripe more mid new → changed stripe all old new) (stripe : List ℕ) where
  -- calls that give nothing
  pub quiet_changed : (given : Given) (from old new : S)
      → ((given : Given) (from : S) → kept stripe given from old → kept stripe given from new) → changed stripe given from old
      → changed stripe given from new
  quiet_changed given from old new keeps before = over stripe given nothing given from old new (same_among given) (none_among given)
      before (keeps nothing old (same stripe nothing old))

  pub quiet_more : (given : Given) (place : Place) (bytes : Option (List ℕ)) (from old new : S)
      → ((given : Given) (from : S) → kept stripe given from old → kept stripe given from new) → changed stripe given from old
      → GivesOneMore changed stripe given place bytes from new
  quiet_more given place bytes from old new keeps before = record {
    after = given;
    are = λ p. inl refl;
    changes = quiet_changed given from old new keeps before;
  }

  -- a call that may give one, where nothing is
  pub placed_more : (given : Given) (place : Place) (bytes : Option (List ℕ)) (from old new : S) → given place ≡ None
      → ((given : Given) (from : S) → given place ≡ bytes → kept stripe given from old → kept stripe given from new)
      → changed stripe given from old → GivesOneMore changed stripe given place bytes from new
  placed_more given place bytes from old new none keeps before = record {
    after = one_more given place bytes;
    are = more_are given place bytes;
    changes = over stripe given (given_at place bytes) (one_more given place bytes) from old new (more_among given place bytes none)
        (at_among given place bytes) before
        (keeps (given_at place bytes) old (own_at given place bytes) (same stripe (given_at place bytes) old));
  }

  pub among_quiet : (all : Given) (from old new : S)
      → ((given : Given) (from : S) → kept stripe given from old → kept stripe given from new) → ChangesAmong changed stripe all from old
      → ChangesAmong changed stripe all from new
  among_quiet all from old new keeps before = record {
    given = before.given;
    among = before.among;
    changes = quiet_changed before.given from old new keeps before.changes;
  }

  -- ---- a repair

  module _ (code : CodeName) (files : ShownFiles) (old : S) (first : changed stripe nothing old old) where
    -- of calls that gave nothing
    pub given_none_mended : (new : S) → ((given : Given) (from : S) → kept stripe given from old → kept stripe given from new)
        → IsMended changed code stripe files old new
    given_none_mended new keeps = record {
      given = nothing;
      fit = none_fit code stripe files;
      changes = quiet_changed nothing old old new keeps first;
    }

    some_fits : (P : List ℕ → Type 0) (given all : Option (List ℕ)) → ((b : List ℕ) → given ≡ Some b → all ≡ Some b) → IfSome all P
        → IfSome given P
    some_fits P None all among fits = tt
    some_fits P (Some b) all among fits = subst (λ o. IfSome o P) (among b refl) fits

    fit_among : (files : ShownFiles) (given all : Given) → IsAmong given all → FitOnly code stripe files all
        → FitOnly code stripe files given
    fit_among None given all among fits = tt
    fit_among (Some shown) given all among fits = λ p. some_fits _ (given p) (all p) (among p) (fits p)

    -- or of calls that gave what fits
    pub given_some_mended : (all : Given) (mid new : S) → FitOnly code stripe files all
        → ((given : Given) (from : S) → kept stripe given from old → kept stripe given from mid)
        → ((from : S) → changed stripe nothing from mid → ChangesAmong changed stripe all from new)
        → IsMended changed code stripe files old new
    given_some_mended all mid new fits keeps gives =
        let some = gives old (quiet_changed nothing old old mid keeps first) in record {
          given = some.given;
          fit = fit_among files some.given all some.among fits;
          changes = some.changes;
        }
