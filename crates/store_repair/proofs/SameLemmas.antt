-- What a repair leaves that changes no file.
use Rattle.std.proofs.Common.{◌≡◌, ℕ, List, [], Bool, Some, None, refl, rules, subst, sym, inl}
use Rattle.lrc_code.specs.declared.places.Place.{Place}
use Rattle.lrc_code.specs.declared.codes.Code.{Code as CodeName}
use Rattle.store_repair.specs.Opened.{AreRebuilt}
use Rattle.store_repair.specs.Repaired.{OnlyReplaces}
use Rattle.stores.specs.Store.{AreUntouched, ShownFiles}

pub untouched_same : (r : Bool) (s : List ℕ) (a b : ShownFiles) → b ≡ a → AreUntouched r s a b
untouched_same r s a b same = subst (AreUntouched r s a) (sym same) (itself a) where
  itself : (a : ShownFiles) → AreUntouched r s a a
  itself None = tt
  itself (Some a) = record {
    others = λ _ _ _. refl;
    others_kept = λ _ _ _. refl;
    kept = λ _ _ _ is. is;
    stays = λ _ _ _ _ is. is;
    replaced = λ _ _ is. inl is;
  }

pub replaces_same : (may : Place → Type 0) (s : List ℕ) (a b : ShownFiles) → b ≡ a → OnlyReplaces may s a b
replaces_same may s a b same = subst (OnlyReplaces may s a) (sym same) (itself a) where
  itself : (a : ShownFiles) → OnlyReplaces may s a a
  itself None = tt
  itself (Some a) = λ _ _ is. inl is

pub none_rebuilt : (code : CodeName) (survives : Place → Bool) (len : ℕ) (s : List ℕ) (old new : ShownFiles) (places : List Place)
    → places ≡ [] → AreRebuilt code survives len s old new places
none_rebuilt code survives len s old new places none = subst (AreRebuilt code survives len s old new) (sym none) (nothing old) where
  nothing : (old : ShownFiles) → AreRebuilt code survives len s old new []
  nothing None = tt
  nothing (Some old) = search rules
