-- Digests that are made in grains, in any order, beside the right ones.
use Rattle.std.specs.Prelude.{◌≡◌, ◌+◌, ◌<◌, ℕ, List, [], Option, None, IfSome, length, map, get_or}
use Rattle.farm_reports.specs.declared.grains.Grain.{Grain}

-- the digests at these places
abbrev pub at_each : List ℕ → List (List ℕ) → List (List ℕ)
at_each places digests = map (λ place. get_or digests place []) places

-- the digests of a grain are right as far as there are any
abbrev pub IsGrain : List (List ℕ) → Grain → Type 0
IsGrain right grain =
    (k : ℕ) → k < length grain.digests → grain.at + k < length right → get_or grain.digests k [] ≡ get_or right (grain.at + k) []

-- and so are those of each grain that was made
abbrev pub AreGrains : List (List ℕ) → List (Option Grain) → Type 0
AreGrains right slots = (i : ℕ) → i < length slots → IfSome (get_or slots i None) (IsGrain right)

-- each digest that was made is the right one of its place
abbrev pub AreRight : List (List ℕ) → List (Option (List ℕ)) → Type 0
AreRight right digests = (i : ℕ) → i < length digests → IfSome (get_or digests i None) (λ digest. digest ≡ get_or right i [])
