-- What holds of the lines of sums.
use Rattle.std.specs.Prelude.{◌≡◌, ℕ, Bool, true, not, ◌&&◌, ◌==◌, nat_lt, List, length, codes, Some}
use Rattle.std.proofs.Math.Dec.{eqb}
use Rattle.std.specs.List.{list_all, starts_with}
use Rattle.hex.specs.Hex.{IsBytes}
use Rattle.store_records.specs.ReadLines.{said_in}
use Rattle.store_records.specs.SumLines.{sum_text}

-- a name that a line can say: not empty, and without `./` at its beginning, which is left out where a line is read
abbrev pub is_sayable : List ℕ → Bool
is_sayable name = nat_lt 0 (length name) && not (starts_with eqb name (codes "./"))

-- the line that is written of such a name and of a digest says this name and this digest
abbrev pub LinesReadBack : Type 0
LinesReadBack = (name digest : List ℕ) → is_sayable name ≡ true → length digest ≡ 32 → IsBytes digest
    → said_in (sum_text name digest) ≡ Some (name, digest)

-- the line that is written of a name and a digest has no line feed, so that a text of such lines, each with a line feed at its end, is read
-- as these lines
abbrev pub LinesAreWhole : Type 0
LinesAreWhole = (name digest : List ℕ) → IsBytes digest → list_all (λ byte. not (byte == 10)) (sum_text name digest) ≡ true
