-- What a hasher of eight messages has taken in.
use Rattle.std.specs.Prelude.{◌≡◌, ℕ, ◌/◌, ◌%◌, ◌^◌, ◌<◌, List, [], ◌∷◌, length}
use Rattle.sha2.specs.Sha256.{hash_after, initial_hash_256}
use Rattle.sha256_lanes.specs.declared.hasher.HasherOfEight.{HasherOfEight}
use Rattle.sha256_lanes.specs.Lanes.{lane}

-- the hash values
abbrev pub state_of : HasherOfEight → List (List ℕ)
state_of hasher =
    hasher.h0 ∷ hasher.h1 ∷ hasher.h2 ∷ hasher.h3 ∷ hasher.h4 ∷ hasher.h5 ∷ hasher.h6 ∷ hasher.h7 ∷ []

-- of message l the bytes m l, which are whole blocks, as many of each message
abbrev pub HasTaken : HasherOfEight → (ℕ → List ℕ) → Type 0
HasTaken hasher m = (l : ℕ) → l < 8
    → (length (m l) ≡ length (m 0))
    × (length (m l) % 64 ≡ 0)
    × (hasher.taken ≡ length (m l) % 2 ^ 64)
    × (lane l (state_of hasher) ≡ hash_after initial_hash_256 (m l) (length (m l) / 64))
