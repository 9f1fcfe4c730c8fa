-- What is said of files that are taken away.
use Rattle.std.specs.Prelude.{◌≡◌, ◌⊎◌, ℕ, List, [], ◌∷◌, Bool, true, All, Option, None, string_bytes}
use Rattle.std.proofs.Common.{String, Global}
use Rattle.folders.specs.Calls.{Answered}
use Rattle.folders.specs.Given.{Remove}
use Rattle.folders.specs.Kept.{Keeps}
use Rattle.folders.specs.Worlds.{World, IsLawful}
use Rattle.store_encoding.specs.Names.{IsNamed}
use Rattle.store_encoding.specs.Replaced.{IsSums}

-- one of the paths that are taken away, by a test that each of them passes
abbrev pub AreTaken : (List ℕ → Bool) → List (String Global) → Type 0
AreTaken taken paths = All (λ path. taken (string_bytes path) ≡ true) paths

-- Whenever the run from the old calls to the new ones ends, by a crash or by itself, each path that is none of these has what it had.
abbrev pub TakesOnly : List (String Global) → List Answered → List Answered → Type 0
TakesOnly paths old new =
    (taken : List ℕ → Bool) → AreTaken taken paths → Keeps (λ path. taken path ≡ true) (λ path bytes. ⊥) old new

-- The same of each path that none of the calls takes away.
abbrev pub KeepsRest : List Answered → List Answered → Type 0
KeepsRest old new =
    (taken : List ℕ → Bool) → Remove (λ path. taken path ≡ true) new → Keeps (λ path. taken path ≡ true) (λ path bytes. ⊥) old new

-- one of some paths
abbrev pub IsOneOf : List (String Global) → List ℕ → Type 0
IsOneOf [] path = ⊥
IsOneOf (one ∷ more) path = (path ≡ string_bytes one) ⊎ IsOneOf more path

-- one of some paths goes
abbrev pub GoesFrom : List (String Global) → List ℕ → Option (List ℕ) → Type 0
GoesFrom paths path content = IsOneOf paths path × (content ≡ None)

-- the path of one of some names goes
abbrev pub GoesOf : List ℕ → List (String Global) → List ℕ → Option (List ℕ) → Type 0
GoesOf folder names path content = IsNamed folder names path × (content ≡ None)

-- the path of the digests gets this text, if there is one, and the paths of some names go
abbrev pub IsTakenOut : List ℕ → Option (List ℕ) → List (String Global) → List (String Global) → List ℕ → Option (List ℕ) → Type 0
IsTakenOut folder text descriptions fragments path content =
    IsSums folder text path content ⊎ GoesOf folder descriptions path content ⊎ GoesOf folder fragments path content

-- Nothing is at the path, and a crash leaves nothing there.
abbrev pub IsGone : List ℕ → List Answered → Type 0
IsGone path calls =
    (w : World) → IsLawful w calls → w.ours path ≡ true → ((w.seen calls).named path ≡ None) × ((w.left calls).named path ≡ None)
