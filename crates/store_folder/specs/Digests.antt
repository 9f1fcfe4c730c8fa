-- The digests of new files, and those that a store's sums say.
use Rattle.std.specs.Prelude.{◌≡◌, ℕ, List, Option, IfSome, IsSome, option_and_then}
use Rattle.sha2.specs.Hashers.{Holds256}
use Rattle.sha2.specs.Sha256.{sha256}
use Rattle.sha2.specs.declared.Sha256.{Sha256}
use Rattle.lrc_code.specs.declared.places.Place.{Place}
use Rattle.store_names.specs.Names.{IsNameOf}
use Rattle.store_records.specs.Sums.{digest_in}
use Rattle.store_folder.specs.declared.site.Site.{Site}

-- what is digested of a file, if anything is, is all that was written to it, if no append failed
abbrev pub IsDigested : Option Sha256 → Option (List ℕ) → Type 0
IsDigested digest written = IfSome written (λ bytes. IfSome digest (λ d. Holds256 d bytes))

-- the bytes of a file, if no append failed, have this SHA-256 digest, if there is one
abbrev pub HasDigest : Option (List ℕ) → Option (List ℕ) → Type 0
HasDigest sum written = IfSome written (λ bytes. IfSome sum (λ digest. sha256 bytes ≡ digest))

-- the digest that a store's sums say of a name, if it has sums and they name it
abbrev pub digest_at : Site → List ℕ → Option (List ℕ)
digest_at site name = option_and_then (λ sums. digest_in sums.now name) site.sums

-- the digest that they say of a stripe's fragment at a place
abbrev pub IsSumOf : Site → List ℕ → Place → Option (List ℕ) → Type 0
IsSumOf site stripe place sum =
    (name : List ℕ) → IsNameOf site.pattern site.code stripe place name → digest_at site name ≡ sum

-- they say one
abbrev pub HasSum : Site → List ℕ → Place → Type 0
HasSum site stripe place = (name : List ℕ) → IsNameOf site.pattern site.code stripe place name → IsSome (digest_at site name)

-- the bytes of a file, if no append failed, have the digest that the sums say of a stripe's fragment at a place
abbrev pub IsAsListed : Site → List ℕ → Place → Option (List ℕ) → Type 0
IsAsListed site stripe place written =
    (name : List ℕ) → IsNameOf site.pattern site.code stripe place name → HasDigest (digest_at site name) written
