-- The digests of files that are written.
use Rattle.std.specs.Prelude.{◌≡◌, ℕ, List, Option, IfSome, IsSomeAnd}
use Rattle.sha2.specs.Hashers.{Holds256}
use Rattle.sha2.specs.Sha256.{sha256}
use Rattle.sha2.specs.declared.Sha256.{Sha256}

-- what was digested, if anything was, is all that was written to a file, and no append failed
abbrev pub IsDigestOf : Option Sha256 → Option (List ℕ) → Type 0
IsDigestOf digest written = IfSome digest (λ d. IsSomeAnd written (λ bytes. Holds256 d bytes))

-- no append failed, and all that was written to a file has this SHA-256 digest
abbrev pub HasDigest : List ℕ → Option (List ℕ) → Type 0
HasDigest digest written = IsSomeAnd written (λ bytes. sha256 bytes ≡ digest)
