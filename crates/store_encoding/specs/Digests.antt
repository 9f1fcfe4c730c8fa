-- What calls leave of a store's digests.
use Rattle.std.specs.Prelude.{◌≡◌, ℕ, List, false}
use Rattle.std.proofs.Common.{String, Global}
use Rattle.std.specs.Str.{bytes_eq}
use Rattle.store_records.specs.Sums.{digest_in}
use Rattle.store_records.specs.declared.sums.Sums.{Sums}
use Rattle.store_encoding.specs.Own.{has}
use Rattle.store_encoding.specs.declared.encoding.stripe_files.StripeFiles.{StripeFiles}

-- what they say of each name but this one is as it was
abbrev pub KeepsBut : List ℕ → Sums → Sums → Type 0
KeepsBut but old new = (name : List ℕ) → bytes_eq but name ≡ false → digest_in new name ≡ digest_in old name

-- of each name but these
abbrev pub KeepsDigests : List (String Global) → Sums → Sums → Type 0
KeepsDigests names old new = (name : List ℕ) → has names name ≡ false → digest_in new name ≡ digest_in old name

-- of each name but those of one stripe's files
abbrev pub KeepsBeside : StripeFiles → Sums → Sums → Type 0
KeepsBeside files old new =
    (name : List ℕ) → has files.fragments.items name ≡ false → has files.descriptions.items name ≡ false
    → digest_in new name ≡ digest_in old name

-- of each name but those of two stripes' files
abbrev pub KeepsOthers : StripeFiles → StripeFiles → Sums → Sums → Type 0
KeepsOthers files others old new =
    (name : List ℕ) → has files.fragments.items name ≡ false → has files.descriptions.items name ≡ false
    → has others.fragments.items name ≡ false → has others.descriptions.items name ≡ false
    → digest_in new name ≡ digest_in old name
