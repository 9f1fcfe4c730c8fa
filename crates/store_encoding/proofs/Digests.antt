-- What is said of names that calls don't change.
use Rattle.std.proofs.Common.{◌≡◌, ◌∙◌, ◌<◌, sym, ap, refl, cond, ℕ, true, false, List, [], ◌∷◌, length, get_or}
use Rattle.std.proofs.Common.{String, Global, string_bytes, Option, Some, None, inl, inr}
use Rattle.std.specs.Str.{bytes_eq}
use Rattle.std.proofs.lemmas.Bool.{cases_Bool, cond-false, or_from, or_parts}
use Rattle.std.proofs.lemmas.List.Folds.{list_any_at}
use Rattle.store_records.specs.Sums.{digest_in}
use Rattle.store_records.specs.declared.sums.Sums.{Sums}
use Rattle.store_encoding.specs.Own.{has}
use Rattle.store_encoding.specs.Digests.{KeepsBut, KeepsDigests, KeepsOthers}
use Rattle.store_encoding.specs.Replaced.{IsTextOf, SaysOthers}
use Rattle.store_encoding.specs.declared.encoding.stripe_files.StripeFiles.{StripeFiles}

-- one of some names isn't another one that is none of them
pub has_not : (names : List (String Global)) (name : List ℕ) → has names name ≡ false → (i : ℕ) (d : String Global) → i < length names
    → bytes_eq (string_bytes (get_or names i d)) name ≡ false
has_not names name out i d lt = elim (cases_Bool (bytes_eq (string_bytes (get_or names i d)) name)) as
    (λ _. bytes_eq (string_bytes (get_or names i d)) name ≡ false) [
      | inl is ↦ absurd (let both : true ≡ false =
          sym (list_any_at (λ other. bytes_eq (string_bytes other) name) names i d lt is) ∙ out in cc)
      | inr off ↦ off
    ]

-- a digest that is taken out or set
pub changes_one : (but text : List ℕ) (content : Option (List ℕ)) (old new : Sums) → text ≡ but
    → ((other : List ℕ) → digest_in new other ≡ cond (bytes_eq text other) content (digest_in old other)) → KeepsBut but old new
changes_one but text content old new same others name apart =
    others name ∙ cond-false (bytes_eq text name) content (digest_in old name) (ap (λ t. bytes_eq t name) same ∙ apart)

-- a digest of one of some names is taken out
pub changes_among : (names : List (String Global)) (i : ℕ) (d : String Global) → i < length names → (item : String Global)
    → get_or names i d ≡ item → (first old new : Sums) → KeepsBut (string_bytes item) old new → KeepsDigests names first old
    → KeepsDigests names first new
changes_among names i d lt item is first old new one before name out =
    one name (ap (λ n. bytes_eq (string_bytes n) name) (sym is) ∙ has_not names name out i d lt) ∙ before name out

-- the first of some names, and the others
pub has_rest : (names : List (String Global)) (item : String Global) (more : List (String Global)) → names ≡ item ∷ more
    → (name : List ℕ) → has names name ≡ false → (bytes_eq (string_bytes item) name ≡ false) × (has more name ≡ false)
has_rest names item more is name out =
    or_parts (bytes_eq (string_bytes item) name) (has more name) (ap (λ all. has all name) (sym is) ∙ out)

pub of_one : (item : String Global) (name : List ℕ) → bytes_eq (string_bytes item) name ≡ false → has (item ∷ []) name ≡ false
of_one item name off = or_from _ _ off refl

-- names that are gone through, of which this one is the next
module _ (others rest more : List (String Global)) (item : String Global) (is : rest ≡ item ∷ more)
    (among : (name : List ℕ) → has others name ≡ false → has rest name ≡ false) where
  pub changes_next : (first old new : Sums) (but : List ℕ) → but ≡ string_bytes item → KeepsBut but old new → KeepsDigests others first old
      → KeepsDigests others first new
  changes_next first old new but same one before name out =
      one name (ap (λ t. bytes_eq t name) same ∙ (has_rest rest item more is name (among name out)).0) ∙ before name out

  pub others_next : (name : List ℕ) → has others name ≡ false → has more name ≡ false
  others_next name out = (has_rest rest item more is name (among name out)).1

-- as names are known
pub kept_of : (names known : List (String Global)) → known ≡ names → (old new : Sums) → KeepsDigests known old new
    → KeepsDigests names old new
kept_of names known is old new keeps name out = keeps name (ap (λ all. has all name) is ∙ out)

-- the text of digests that say of others what was said before
pub text_keeps : (files others : StripeFiles) (old then_sums : Sums) (text : Option (List ℕ)) → IsTextOf then_sums text
    → KeepsOthers files others old then_sums → SaysOthers files others old text
text_keeps files others old then_sums None is keeps = tt
text_keeps files others old then_sums (Some bytes) is keeps = (then_sums, is, keeps)
