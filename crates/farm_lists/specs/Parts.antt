-- Survivors that were read, as a part of those that are listed.
use Rattle.std.specs.Prelude.{◌≡◌, ◌⊎◌, ℕ, List, [], ◌∷◌, length}
use Rattle.lrc_code.specs.declared.places.Place.{Place}
use Rattle.lrc_code.specs.Requests.{Survivor}

-- fragments of this length at some of these places, in their order
abbrev pub ArePart : ℕ → List Place → List Survivor → Type 0
ArePart len [] ss = ss ≡ []
ArePart len (p ∷ ps) ss = ArePart len ps ss ⊎ ((s : Survivor) × (rest : List Survivor) × (ss ≡ s ∷ rest) × (s.place ≡ p)
    × (length s.bytes ≡ len) × ArePart len ps rest)
