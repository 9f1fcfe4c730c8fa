-- Paths that are given new files one after another, and what was there.
use Rattle.std.proofs.Common.{◌≡◌, ◌⊎◌, inl, inr, ℕ, List, refl, sym, ◌∙◌, subst, Option, Some, None}
use Rattle.std.specs.Prelude.{◌≢◌}
use Rattle.folders.specs.Files.{Files, under}
use Rattle.folders.specs.Kept.{IsKept}
use Rattle.folders.specs.Exchanged.{HasNew, IsExchanged, seen_at}
use Rattle.folders.specs.Changed.{IsChanged}
use Rattle.folders.proofs.Links.{same_or_other}
use Rattle.folders.proofs.SeenFiles.{none_named, none_under, same_unless}

module _ (temporary : List ℕ → Type 0) (second : List ℕ → List ℕ) where
  -- nothing was seen at a path at which nothing is seen
  none_before : (given : List ℕ → List ℕ → Type 0) (first shown : Files) (path : List ℕ) → shown.named path ≡ None
      → IsChanged temporary given second first first shown path → first.named path ≡ None
  none_before given first shown path none (inl same) = none_named first path (sym same ∙ none_under shown path none)
  none_before given first shown path none (inr (inl has)) =
      absurd (let both : None ≡ Some has.bytes = sym (none_under shown path none) ∙ has.here in cc)
  none_before given first shown path none (inr (inr was)) = was.none

  -- a path that wasn't given a file, and is the second one of none that was, has what it had
  pub as_before : (given : List ℕ → List ℕ → Type 0) (at : List ℕ) → ((bytes : List ℕ) → given at bytes → ⊥)
      → ((q bytes : List ℕ) → given q bytes → at ≡ second q → ⊥) → (first old mid : Files)
      → IsChanged temporary given second first old mid at → under mid at ≡ under old at
  as_before given at fresh no_second first old mid (inl had) = had
  as_before given at fresh no_second first old mid (inr (inl has)) = absurd (fresh has.bytes has.gave)
  as_before given at fresh no_second first old mid (inr (inr was)) = absurd (no_second was.first was.bytes was.gave was.is)

  module _ (given wider : List ℕ → List ℕ → Type 0) (leads : (path bytes : List ℕ) → given path bytes → wider path bytes)
      (first shown old mid new : Files) where
    -- a path that has what it had before
    pub stays_changed : (path : List ℕ) → under new path ≡ under mid path
        → ((bytes : List ℕ) → given path bytes → (temporary (second path) → ⊥) → under new (second path) ≡ under mid (second path))
        → IsChanged temporary given second first old mid path → IsChanged temporary wider second first old new path
    stays_changed path same beside (inl had) = inl (same ∙ had)
    stays_changed path same beside (inr (inl has)) = inr (inl (record {
      bytes = has.bytes;
      gave = leads path has.bytes has.gave;
      here = same ∙ has.here;
      kept = elim has.kept [
        | inl none ↦ inl none
        | inr kept ↦ inr (kept.0, beside has.bytes has.gave kept.0 ∙ kept.1)
      ];
    }))
    stays_changed path same beside (inr (inr was)) = inr (inr (record {
      first = was.first;
      bytes = was.bytes;
      gave = leads was.first was.bytes was.gave;
      is = was.is;
      none = was.none;
      here = same ∙ was.here;
    }))

    -- a path that is kept then, or given a file if nothing is there
    pub kept_changed : (gave : List ℕ → List ℕ → Type 0) (path : List ℕ) → ((bytes : List ℕ) → gave path bytes → wider path bytes)
        → ((bytes more : List ℕ) → given path bytes → gave (second path) more → ⊥)
        → IsChanged temporary given second first first shown path → IsChanged temporary given second first old mid path
        → IsKept gave shown mid new path
        → ((bytes : List ℕ) → given path bytes → (temporary (second path) → ⊥) → IsKept gave shown mid new (second path))
        → IsChanged temporary wider second first old new path
    kept_changed gave path widens apart in_shown was (inl same) beside = stays_changed path same
        (λ bytes is lasting. same_unless gave shown mid new (second path) (λ more. apart bytes more is) (beside bytes is lasting)) was
    kept_changed gave path widens apart in_shown was (inr had) beside = inr (inl (record {
      bytes = had.1.0;
      gave = widens had.1.0 had.1.1;
      here = had.1.2;
      kept = inl (none_before given first shown path (none_named shown path had.0) in_shown);
    }))

    -- a path that gets a new file then, and its second one
    module _ (at : List ℕ) (written : Option (List ℕ)) (all : List ℕ) (whole : written ≡ Some all) (gets : wider at all)
        (fresh : (bytes : List ℕ) → given at bytes → ⊥) (no_second : (q bytes : List ℕ) → given q bytes → at ≡ second q → ⊥)
        (free : (bytes : List ℕ) → given (second at) bytes → ⊥) (one : (p q : List ℕ) → second p ≡ second q → p ≡ q)
        (lasting_second : temporary (second at) → ⊥) (still : seen_at shown mid at ≡ seen_at first old at) where
      at_first : IsChanged temporary given second first old mid at
          → (under new at ≡ under mid at) ⊎ HasNew written at (second at) shown mid new
          → IsChanged temporary wider second first old new at
      at_first was (inl same) = inl (same ∙ as_before given at fresh no_second first old mid was)
      at_first was (inr has) = inr (inl (record {
        bytes = all;
        gave = gets;
        here = has.here ∙ sym has.whole ∙ whole;
        kept = inr (lasting_second, has.kept ∙ still);
      }))

      at_second : IsChanged temporary given second first first shown (second at)
          → IsChanged temporary given second first old mid (second at)
          → (under new (second at) ≡ under mid (second at))
          ⊎ ((shown.named (second at) ≡ None) × (under new (second at) ≡ seen_at shown mid at))
          → IsChanged temporary wider second first old new (second at)
      at_second in_shown was (inl same) = stays_changed (second at) same (λ bytes is lasting. absurd (free bytes is)) was
      at_second in_shown was (inr got) = inr (inr (record {
        first = at;
        bytes = all;
        gave = gets;
        is = refl;
        none = none_before given first shown (second at) got.0 in_shown;
        here = got.1 ∙ still;
      }))

      pub exchanged_changed : (ours : List ℕ → Type 0) → ((path bytes : List ℕ) → given path bytes → ours (second path))
          → ((path : List ℕ) → ours path → (temporary path → ⊥) → IsChanged temporary given second first first shown path)
          → ((path : List ℕ) → ours path → (temporary path → ⊥) → IsChanged temporary given second first old mid path)
          → IsExchanged written at (second at) shown mid new
          → ((path : List ℕ) → ours path → (temporary path → ⊥) → path ≢ at → path ≢ second at → under new path ≡ under mid path)
          → (path : List ℕ) → ours path → (temporary path → ⊥) → IsChanged temporary wider second first old new path
      exchanged_changed ours own in_shown was now others path our lasting = elim (same_or_other path at) [
        | inl is ↦ subst (IsChanged temporary wider second first old new) (sym is)
            (at_first (subst (IsChanged temporary given second first old mid) is (was path our lasting)) now.at)
        | inr other ↦ elim (same_or_other path (second at)) [
          | inl is ↦ subst (IsChanged temporary wider second first old new) (sym is)
              (at_second (subst (IsChanged temporary given second first first shown) is (in_shown path our lasting))
              (subst (IsChanged temporary given second first old mid) is (was path our lasting)) now.beside)
          | inr apart ↦ stays_changed path (others path our lasting other apart)
              (λ bytes is lasting_there. others (second path) (own path bytes is) lasting_there
              (λ same. no_second path bytes is (sym same)) (λ same. other (one path at same)))
              (was path our lasting)
        ]
      ]
