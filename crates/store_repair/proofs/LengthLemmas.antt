-- The lengths of files, place by place.
use Rattle.std.proofs.Common.{◌≡◌, ◌≢◌, ◌∙◌, ◌≤◌, ◌+◌, ℕ, Bool, List, Option, None, Some, true}
use Rattle.std.proofs.Common.{arith, get_or, subst, sym}
use Rattle.std.specs.Prelude.{IfNone, IfSome, IsSomeAnd}
use Rattle.std.proofs.lemmas.Bool.{and_parts, eqb-true}
use Rattle.lrc_code.specs.Code.{has_place}
use Rattle.lrc_code.specs.Codes.{tables_of}
use Rattle.lrc_code.specs.declared.places.Place.{Place}
use Rattle.lrc_code.specs.declared.codes.Code.{Code as CodeName}
use Rattle.lrc_code.specs.Places.{index_of}
use Rattle.lrc_code.proofs.PlaceSums.{index_of-lt}
use Rattle.lrc_code.specs.Sets.{is_in}
use Rattle.store_repair.specs.Lengths.{HasFileOf, HasLengthAt, HaveNoCommonLength, HaveOneLength, HaveOneLengthBefore}
use Rattle.store_repair.specs.Lengths.{IsConfirmed}
use Rattle.store_repair.specs.Losses.{AreChecked}
use Rattle.store_repair.specs.Scrubbed.{AreOfOneStripe}
use Rattle.stores.specs.Store.{ShownFiles}
use Rattle.stores.specs.Stripes.{HasLength, has_file, is_file}
use Rattle.stores.specs.declared.stripes.Found.{Found}
use Rattle.stores.specs.declared.stripes.Found.TheVariants as found
use Rattle.store_repair.proofs.SuspectLemmas.{before_next}

module _ (code : CodeName) (files : List Found) (n : ℕ) (p : Place) (here : index_of p ≡ n) where
  -- a file more, of the common length
  pub next_file : (common : Option ℕ) (len : ℕ) → IfSome common (λ other. other ≡ len) → HasLengthAt code files len p
      → HaveOneLengthBefore code files n common → HaveOneLengthBefore code files (n + 1) (Some len)
  next_file None len same own before = before_next (HasLengthAt code files len) n p here (before len) own
  next_file (Some other) len same own before =
      before_next (HasLengthAt code files len) n p here
      (λ q less. subst (λ m. HasLengthAt code files m q) same (before q less)) own

  -- a place without a file
  pub next_none : (common : Option ℕ) → ((len : ℕ) → HasLengthAt code files len p) → HaveOneLengthBefore code files n common
      → HaveOneLengthBefore code files (n + 1) common
  next_none None own before = λ len. before_next (HasLengthAt code files len) n p here (before len) (own len)
  next_none (Some len) own before = before_next (HasLengthAt code files len) n p here before (own len)

pub have_one_length : (code : CodeName) (files : List Found) (n : ℕ) (common : Option ℕ) → 16 ≤ n
    → HaveOneLengthBefore code files n common → IfSome common (HaveOneLength code files)
have_one_length code files n None le before = tt
have_one_length code files n (Some len) le before = λ p. before p (let lt = index_of-lt p in omega (arith, lt, le))

-- a file of one length has no other
one_length : (n m : ℕ) (f : Found) → is_file n f ≡ true → HasLength m f → n ≡ m
one_length n m found.Absent is has = absurd (cc)
one_length n m (found.File length) is has = sym (eqb-true _ _ is) ∙ has
one_length n m found.Dangling is has = absurd (cc)
one_length n m found.Other is has = absurd (cc)
one_length n m (found.Unknown code) is has = absurd (cc)

-- a file at a place of the code has the length of each
is_each : (code : CodeName) (files : List Found) (n m : ℕ) → HasFileOf code files n → HaveOneLength code files m → n ≡ m
is_each code files n m (p, both) each =
    let parts = and_parts (has_place (tables_of code) p) (has_file files n p) both in
    one_length n m (get_or files (index_of p) found.Absent) parts.1 (each p parts.0)

-- where no length was seen at any place there is no common one
pub no_common : (code : CodeName) (files : List Found) (n : ℕ) (common : Option ℕ) → 16 ≤ n
    → HaveOneLengthBefore code files n common → IfNone common (HaveNoCommonLength code files)
no_common code files n None le before = λ len is. absurd (
    let other = is_each code files len (len + 1) is.some (λ p. before (len + 1) p (let lt = index_of-lt p in omega (arith, lt, le))) in
    omega (arith, other))
no_common code files n (Some len) le before = tt

-- nor where two were seen
pub of_several : (code : CodeName) (files : List Found) (len : ℕ) (common : Option ℕ) → IsSomeAnd common (λ other. other ≢ len)
    → IfSome common (HasFileOf code files) → HasFileOf code files len → HaveNoCommonLength code files
of_several code files len None apart some own = absurd apart
of_several code files len (Some other) apart some own = λ m is.
    apart (is_each code files other m some is.each ∙ sym (is_each code files len m own is.each))

-- what checks confirm
pub confirmed : (code : CodeName) (len : ℕ) (stripe : List ℕ) (set : List Bool) (files : ShownFiles) → AreChecked code (is_in set) len
    → IfSome files (AreOfOneStripe code (is_in set) len stripe) → IfSome files (IsConfirmed code len stripe)
confirmed code len stripe set None checked one = tt
confirmed code len stripe set (Some files) checked one = (is_in set, checked, one)
