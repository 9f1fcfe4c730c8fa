-- The parts of a store's stripes.
use Rattle.std.specs.Prelude.{ℕ, ◌-◌, ◌%◌, Bool, ◌&&◌, ◌==◌, nat_lt, List}
use Rattle.std.specs.Int.{w64, from_be_bytes}
use Rattle.sha2.specs.Sha256.{sha256}

-- the first eight bytes of the SHA-256 of a stripe's name as a number, the first of them the highest
abbrev pub number_of : List ℕ → ℕ
number_of stripe = from_be_bytes w64 (sha256 stripe)

-- a stripe is of this part, counted from 1, of so many: its number has this remainder
abbrev pub is_of_part : ℕ → ℕ → List ℕ → Bool
is_of_part index of stripe = nat_lt 0 of && nat_lt 0 index && number_of stripe % of == index - 1
