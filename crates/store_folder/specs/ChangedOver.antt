-- Calls of a store one after another, where some may replace fragments.
use Rattle.std.proofs.Common.{◌≡◌, ◌∙◌, refl, sym, ap, subst, ℕ, List, [], ◌∷◌, ◌++◌, true, false, not, ◌&&◌, codes}
use Rattle.std.proofs.lemmas.Bool.{and_parts}
use Rattle.std.proofs.lemmas.Bool.Decides.{Decides-eqb}
use Rattle.std.proofs.lemmas.List.{append_cancel_left}
use Rattle.std.proofs.lemmas.Slice.Eq.{ends_is}
use Rattle.folders.specs.Calls.{Answered}
use Rattle.folders.specs.Files.{slash}
use Rattle.folders.specs.Kept.{Keeps}
use Rattle.folders.proofs.ChangeRuns.{changes_kept, changes_none}
use Rattle.lrc_code.specs.declared.places.Place.{Place}
use Rattle.store_names.specs.Names.{IsNameOf, is_below, is_second}
use Rattle.store_names.specs.Temporary.{is_free}
use Rattle.store_names.specs.Texts.{lacks}
use Rattle.store_names.proofs.Distinct.{names_differ}
use Rattle.store_names.proofs.Marks.{not_both}
use Rattle.stores.specs.Changed.{IsAmong}
use Rattle.stores.specs.Kept.{Given, nothing}
use Rattle.store_folder.specs.declared.links.Links.TheVariants.{NotFollowed}
use Rattle.store_folder.specs.declared.site.Site.{Site}
use Rattle.store_folder.specs.Changed.{IsChangedIn, IsGivenAt}
use Rattle.store_folder.specs.Kept.{IsKeptIn, IsOneOf, IsPathOf, IsTemporary}
use Rattle.store_folder.specs.Replaced.{second_path}

-- what ends with a text without '/' has it in its last part
cut : (folder name front text : List ℕ) → lacks 47 text ≡ true → folder ++ 47 ∷ name ≡ front ++ text
    → (rest : List ℕ) × (name ≡ rest ++ text)
cut folder name [] text free is = absurd (not_both 47 text folder name (sym is) free)
cut [] name (x ∷ front) text free is = (front, cc)
cut (y ∷ folder) name (x ∷ front) text free is =
    let rest : folder ++ 47 ∷ name ≡ front ++ text = cc in cut folder name front text free rest

module _ (site : Site) (links : site.links ≡ NotFollowed) (stripe : List ℕ) where
  -- no fragment has a second path
  pub no_second : (place : Place) (path first : List ℕ) → IsPathOf site stripe place path → path ≡ second_path first → ⊥
  no_second place path first here same =
      let at = here links in
      let end = cut site.target.now at.0 first (codes ".damaged") refl (sym at.1 ∙ same) in
      let second : is_second at.0 ≡ true = (ends_is Decides-eqb at.0 (codes ".damaged") _ refl).1 end.0 end.1 in
      let free = (and_parts (is_below at.0 && is_free at.0) (not (is_second at.0)) at.2.may_be).1 in
      let both : true ≡ false = sym free ∙ ap not second in cc

  -- different places have different paths
  pub one_place : (place other : Place) (path : List ℕ) → IsPathOf site stripe place path → IsPathOf site stripe other path
      → place ≡ other
  one_place place other path here there =
      let at = here links in
      let to = there links in
      let same : slash ∷ at.0 ≡ slash ∷ to.0 = append_cancel_left site.target.now _ _ (sym at.1 ∙ to.1) in
      let name : to.0 ≡ at.0 = cc in
      let made = subst (IsNameOf site.pattern site.code stripe other) name to.2 in
      (names_differ site.pattern site.pattern.apart site.code stripe stripe place other at.0 at.2.made made.made).1

-- nothing was called
pub none_changed_in : (stripe : List ℕ) (site : Site) (calls : List Answered) → IsChangedIn stripe nothing site site calls calls
none_changed_in stripe site calls = record {
  same = refl;
  changes = λ links. changes_none IsTemporary second_path (IsGivenAt site stripe nothing) calls;
}

-- and then calls that replace nothing
pub changed_over : (stripe : List ℕ) (given more all : Given) (old_site mid_site new_site : Site) (old mid new : List Answered)
    → IsAmong given all → IsAmong more all → IsChangedIn stripe given old_site mid_site old mid
    → IsKeptIn stripe more mid_site new_site mid new → IsChangedIn stripe all old_site new_site old new
changed_over stripe given more all old_site mid_site new_site old mid new leads widens changes kept = record {
  same = kept.same ∙ changes.same;
  changes = λ links. changes_kept IsTemporary second_path (IsGivenAt old_site stripe given) (IsGivenAt old_site stripe all)
      (λ path bytes is. (is.0, is.1, leads is.0 bytes is.2)) (IsOneOf old_site stripe more new)
      (λ path bytes is. (is.0, is.1.here, widens is.0 bytes is.2))
      (λ path bytes other is gave. no_second old_site links stripe gave.0 (second_path path) path gave.1.here refl) old mid new
      (changes.changes links)
      (subst (λ site. Keeps IsTemporary (IsOneOf site stripe more new) mid new) changes.same kept.keeps);
}
