-- Digests of files that are written.
use Rattle.std.proofs.Common.{◌≡◌, subst, sym, ℕ, List, ◌++◌, Option, Some, None, option_map, IfSome}
use Rattle.std.specs.Prelude.{IsSomeAnd}
use Rattle.std.specs.Coded.{Coded-set, coded_list, coded_ℕ}
use Rattle.sha2.specs.Hashers.{Holds256}
use Rattle.sha2.specs.Sha256.{sha256}
use Rattle.sha2.specs.declared.Sha256.{Sha256}
use Rattle.store_files.specs.Digests.{HasDigest, IsDigestOf}

-- what was digested, after bytes that were appended
pub digested_after : (before after : Option Sha256) (old new : Option (List ℕ)) (bytes : List ℕ)
    → new ≡ option_map (λ m. m ++ bytes) old
    → IfSome after (λ d. IsSomeAnd before (λ b. (m : List ℕ) → Holds256 b m → Holds256 d (m ++ bytes)))
    → IsDigestOf before old → IsDigestOf after new
digested_after before None old new bytes is step held = tt
digested_after None (Some d) old new bytes is step held = absurd step
digested_after (Some b) (Some d) None new bytes is step held = absurd held
digested_after (Some b) (Some d) (Some m) new bytes is step held =
    subst (λ (o : Option (List ℕ)). IsSomeAnd o (λ all. Holds256 d all)) (sym is) (step m held)

-- a digest that was compared
pub has_digest : (digest : Option Sha256) (wanted : List ℕ) (written : Option (List ℕ))
    → IsSomeAnd digest (λ d. (m : List ℕ) → Holds256 d m → sha256 m ≡ wanted) → IsDigestOf digest written → HasDigest wanted written
has_digest None wanted written compared held = absurd compared
has_digest (Some d) wanted None compared held = absurd held
has_digest (Some d) wanted (Some m) compared held = compared m held

pub HasDigest-prop : (wanted : List ℕ) (written : Option (List ℕ)) → IsProp (HasDigest wanted written)
HasDigest-prop wanted None = λ x y. absurd x
HasDigest-prop wanted (Some m) = Coded-set (coded_list coded_ℕ) (sha256 m) wanted
