-- A fragment that is replaced after others.
use Rattle.std.proofs.Common.{◌≡◌, ◌∙◌, ◌⊎◌, inl, inr, refl, sym, ap, ℕ, List, false, Option, Some, None, codes}
use Rattle.std.proofs.lemmas.List.{append_cancel_right}
use Rattle.folders.specs.Calls.{Answered}
use Rattle.folders.proofs.ChangeRuns.{changes_exchanged, changes_kept}
use Rattle.folders.proofs.Exchanges.{not_on, some_bytes}
use Rattle.lrc_code.specs.declared.places.Place.{Place}
use Rattle.stores.specs.Kept.{Given}
use Rattle.stores.proofs.GivenLemmas.{more_among, more_are, more_on, one_more}
use Rattle.store_folder.specs.declared.site.Site.{Site}
use Rattle.store_folder.specs.Changed.{IsChangedIn, IsGivenAt}
use Rattle.store_folder.specs.ChangedOver.{no_second, one_place}
use Rattle.store_folder.specs.Kept.{IsPathOf, IsTemporary, KeepsEach}
use Rattle.store_folder.specs.Replaced.{ExchangesOne, ReplacesIn, second_path}
use Rattle.store_folder.specs.Stays.{lasts}
use Rattle.store_folder.specs.Temporary.{is_temporary}
use Rattle.std.proofs.Common.{subst}

-- what was given before was, and maybe these bytes at this place
abbrev pub IsChangedMore : List ℕ → Given → Place → Option (List ℕ) → Site → Site → List Answered → List Answered → Type 0
IsChangedMore stripe given place written site new_site from new =
    (after : Given) × ((p : Place) → (after p ≡ given p) ⊎ ((p ≡ place) × (after p ≡ written)))
    × IsChangedIn stripe after site new_site from new

module _ (stripe : List ℕ) (given : Given) (place : Place) (written : Option (List ℕ)) (site old_site new_site : Site)
    (from old new : List Answered) (same : new_site ≡ old_site) (before : IsChangedIn stripe given site old_site from old) where
  -- a call that gives no name
  pub changed_none : KeepsEach old new → IsChangedMore stripe given place written site new_site from new
  changed_none keeps = (
    given,
    (λ p. inl refl),
    record {
      same = same ∙ before.same;
      changes = λ links. changes_kept IsTemporary second_path (IsGivenAt site stripe given) (IsGivenAt site stripe given)
          (λ path bytes is. is) (λ path bytes. ⊥) (λ path bytes none. absurd none) (λ path bytes more is none. none) from old new
          (before.changes links) keeps;
    },
  )

  -- a call that replaces a fragment
  changed_one : (fresh : given place ≡ None) (path : List ℕ) → IsPathOf site stripe place path → is_temporary path ≡ false
      → ExchangesOne path written old new → IsChangedMore stripe given place written site new_site from new
  changed_one fresh path here lasting is =
      let all = some_bytes written is.some in
      let after = one_more given place written in (
        after,
        more_are given place written,
        record {
          same = same ∙ before.same;
          changes = λ links. changes_exchanged IsTemporary second_path (IsGivenAt site stripe given) (IsGivenAt site stripe after)
              (λ p bytes was. (was.0, was.1, more_among given place written fresh was.0 bytes was.2)) path written all.0 all.1
              (place, here, more_on given place written ∙ all.1)
              (λ bytes was.
              let at : was.0 ≡ place = one_place site links stripe was.0 place path was.1 here in
              let both : None ≡ Some bytes = sym fresh ∙ sym (ap given at) ∙ was.2 in absurd (cc))
              (λ q bytes was is_second. no_second site links stripe place path q here is_second)
              (λ bytes was. no_second site links stripe was.0 (second_path path) path was.1 refl)
              (λ p q both. append_cancel_right p q (codes ".damaged") both) (lasts path lasting)
              (not_on (is_temporary (second_path path)) is.lasting) from old new (before.changes links) is.exchanges;
        },
      )

  pub changed_replaces : given place ≡ None → ReplacesIn old_site stripe place written old new
      → IsChangedMore stripe given place written site new_site from new
  changed_replaces fresh (inl keeps) = changed_none keeps
  changed_replaces fresh (inr is) = elim is.at as (λ _. IsChangedMore stripe given place written site new_site from new) [
    | inl keeps ↦ changed_none keeps
    | inr one ↦ changed_one fresh is.path (subst (λ s. IsPathOf s stripe place is.path) before.same is.here) is.lasting one
  ]
