-- What was found of a stripe, index by index.
use Rattle.std.proofs.Common.{◌≡◌, ◌≢◌, ◌∙◌, ◌<◌, ◌≤◌, ◌+◌, ℕ, List, Option, None, Some}
use Rattle.std.proofs.Common.{ap, arith, get_or, inl, inr, length, refl, subst, sym}
use Rattle.std.specs.Prelude.{Contains, IfSome, IsSomeAnd, MatchOption}
use Rattle.std.proofs.lemmas.Bool.{cases_lt}
use Rattle.std.proofs.lemmas.List.{get_or_default}
use Rattle.std.proofs.lemmas.List.Elements.{All-contains}
use Rattle.stores.specs.Stripes.{HasLength, IsLengthOf}
use Rattle.stores.specs.declared.stripes.Found.{Found}
use Rattle.stores.specs.declared.stripes.Found.TheVariants as found

-- a length that each file before an index has, and that one has; or there is no file
abbrev pub IsLengthBefore : List Found → ℕ → Option ℕ → Type 0
IsLengthBefore files n None = (len k : ℕ) (d : Found) → k < n → HasLength len (get_or files k d)
IsLengthBefore files n (Some len) = ((k : ℕ) (d : Found) → k < n → HasLength len (get_or files k d)) × Contains files (found.File len)

module _ (files : List Found) (n : ℕ) (x e : Found) (within : n < length files) (here : get_or files n e ≡ x) where
  each_next : (P : Found → Type 0) → ((k : ℕ) (d : Found) → k < n → P (get_or files k d)) → P x → (k : ℕ) (d : Found) → k < n + 1
      → P (get_or files k d)
  each_next P before this k d lt = elim (cases_lt k n) as (λ _. P (get_or files k d)) [
    | inl less ↦ before k d less
    | inr le ↦ (let at : k ≡ n = omega (arith, lt, le) in
        subst P (sym (ap (λ j. get_or files j d) at ∙ get_or_default files n d e within ∙ here)) this)
  ]

  pub length_next_other : (common : Option ℕ) → ((len : ℕ) → HasLength len x) → IsLengthBefore files n common
      → IsLengthBefore files (n + 1) common
  length_next_other None own before = λ len. each_next (HasLength len) (before len) (own len)
  length_next_other (Some len) own before = (each_next (HasLength len) before.0 (own len), before.1)

  is_there : (len : ℕ) → x ≡ found.File len → Contains files (found.File len)
  is_there len is = (n, within, get_or_default files n (found.File len) e within ∙ here ∙ is)

  pub length_next_file : (common : Option ℕ) (len : ℕ) → x ≡ found.File len → IfSome common (λ other. other ≡ len)
      → IsLengthBefore files n common → IsLengthBefore files (n + 1) (Some len)
  length_next_file None len is same before =
      (each_next (HasLength len) (before len) (subst (HasLength len) (sym is) refl), is_there len is)
  length_next_file (Some other) len is same before = (
    each_next (HasLength len) (λ k d lt. subst (λ m. HasLength m (get_or files k d)) same (before.0 k d lt))
        (subst (HasLength len) (sym is) refl),
    is_there len is,
  )

  pub lengths_differ : (common : Option ℕ) (len : ℕ) → x ≡ found.File len → IsSomeAnd common (λ other. other ≢ len)
      → IsLengthBefore files n common → (m : ℕ) → ¬ IsLengthOf files m
  lengths_differ None len is apart before m of = absurd apart
  lengths_differ (Some other) len is apart before m of =
      apart (All-contains (HasLength m) files (found.File other) of.each before.1
      ∙ sym (All-contains (HasLength m) files (found.File len) of.each (is_there len is)))

pub length_at_end : (files : List Found) (n : ℕ) (common : Option ℕ) → length files ≤ n → IsLengthBefore files n common
    → MatchOption common ((len : ℕ) → ¬ IsLengthOf files len) (IsLengthOf files)
length_at_end files n None le before = λ len of.
    absurd (let e = All-contains (HasLength (len + 1)) files (found.File len) (λ k d lt. before (len + 1) k d (omega (arith, lt, le)))
    of.some in omega (arith, e))
length_at_end files n (Some len) le before =
    record { each = λ k d lt. before.0 k d (omega (arith, lt, le)); some = before.1 }

-- what is no file has any length
pub no_file : (x : Found) → ((len : ℕ) → x ≡ found.File len → ⊥) → (len : ℕ) → HasLength len x
no_file found.Absent none len = tt
no_file (found.File length) none len = absurd (none length refl)
no_file found.Dangling none len = tt
no_file found.Other none len = tt
no_file (found.Unknown code) none len = tt
