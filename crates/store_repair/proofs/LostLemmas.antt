-- Lost places that a loop over all places has sorted.
use Rattle.std.proofs.Common.{◌≡◌, ◌<◌, ◌+◌, ℕ, List, [], ◌∷◌, ◌++◌, Bool, true, false, length, All}
use Rattle.std.specs.Prelude.{Contains, ◌⊎◌}
use Rattle.std.proofs.Common.{inl, inr}
use Rattle.std.proofs.lemmas.List.Elements.{All-push, Contains-append_left, Contains-push}
use Rattle.lrc_code.specs.declared.places.Place.{Place}
use Rattle.lrc_code.specs.declared.codes.Code.{Code as CodeName}
use Rattle.lrc_code.specs.Code.{has_place}
use Rattle.lrc_code.specs.Codes.{tables_of}
use Rattle.lrc_code.specs.Places.{index_of}
use Rattle.lrc_plan.specs.Planned.{ExtensionsDiffer}
use Rattle.store_repair.specs.Damage.{IsDetermined}
use Rattle.store_repair.specs.Losses.{HasAny, IsLostAmong}
use Rattle.store_repair.specs.Mended.{AreLost}
use Rattle.store_repair.specs.Opened.{AreApart}
use Rattle.store_repair.proofs.LossLemmas.{apart_more, before_more, before_next}
use Rattle.store_repair.proofs.SuspectLemmas.{before_next as each_next}

module _ (code : CodeName) (survives among : Place → Bool) where
  abbrev Lost : Place → Type 0
  Lost p = (has_place (tables_of code) p ≡ true) × (survives p ≡ false)

  -- what is known of the lost places before an index
  pub record AreSorted (n : ℕ) (ds vs : List Place) : Type 0 where
    pub determined : AreLost code survives ds
    pub before : All (λ p. index_of p < n) ds
    pub apart : AreApart ds
    pub used : 0 < length ds → HasAny survives
    pub given : All (IsDetermined code survives) ds
    pub several : AreLost code survives vs
    pub differ : HasAny survives → All (ExtensionsDiffer (tables_of code) survives) vs
    pub all : (p : Place) → index_of p < n → IsLostAmong code survives among p → Contains ds p ⊎ Contains vs p

  module _ (n : ℕ) (determined several : List Place) (p : Place) (here : index_of p ≡ n) (so : AreSorted n determined several) where
    listed : (more also : List Place) → ((q : Place) → Contains determined q → Contains more q)
        → ((q : Place) → Contains several q → Contains also q) → (IsLostAmong code survives among p → Contains more p ⊎ Contains also p)
        → (q : Place) → index_of q < n + 1 → IsLostAmong code survives among q → Contains more q ⊎ Contains also q
    listed more also first second this = each_next
        (λ q. IsLostAmong code survives among q → Contains more q ⊎ Contains also q) n p here
        (λ q less lost. elim (so.all q less lost) as (λ _. Contains more q ⊎ Contains also q)
        [ inl is ↦ inl (first q is) | inr is ↦ inr (second q is) ]) this

    pub sorted_determined : Lost p → HasAny survives → IsDetermined code survives p → AreSorted (n + 1) (determined ++ (p ∷ [])) several
    sorted_determined lost any is = record {
      determined = All-push Lost determined p so.determined lost;
      before = before_more determined n p here so.before;
      apart = apart_more determined n p here so.before so.apart;
      used = λ some. any;
      given = All-push (IsDetermined code survives) determined p so.given is;
      several = so.several;
      differ = so.differ;
      all = listed (determined ++ (p ∷ [])) several (λ q. Contains-append_left determined (p ∷ []) q) (λ q h. h)
          (λ own. inl (Contains-push determined p));
    }

    pub sorted_several : Lost p → (HasAny survives → ExtensionsDiffer (tables_of code) survives p)
        → AreSorted (n + 1) determined (several ++ (p ∷ []))
    sorted_several lost differs = record {
      determined = so.determined;
      before = before_next determined n so.before;
      apart = so.apart;
      used = so.used;
      given = so.given;
      several = All-push Lost several p so.several lost;
      differ = λ any. All-push (ExtensionsDiffer (tables_of code) survives) several p (so.differ any) (differs any);
      all = listed determined (several ++ (p ∷ [])) (λ q h. h) (λ q. Contains-append_left several (p ∷ []) q)
          (λ own. inr (Contains-push several p));
    }

    pub sorted_other : ¬ IsLostAmong code survives among p → AreSorted (n + 1) determined several
    sorted_other other = record {
      determined = so.determined;
      before = before_next determined n so.before;
      apart = so.apart;
      used = so.used;
      given = so.given;
      several = so.several;
      differ = so.differ;
      all = listed determined several (λ q h. h) (λ q h. h) (λ own. absurd (other own));
    }
