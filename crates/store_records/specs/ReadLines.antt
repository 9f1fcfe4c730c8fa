-- What a line of sums says, and what sums say once it is taken.
use Rattle.std.specs.Prelude.{ℕ, ◌-◌, ◌==◌, Bool, true, false, not, ◌||◌, nat_le, if◌then◌else◌, List, [], ◌∷◌, length, take, drop, codes}
use Rattle.std.specs.Prelude.{Option, None, Some, option_and_then, option_map}
use Rattle.std.proofs.Math.Dec.{eqb}
use Rattle.std.specs.List.{ends_with, starts_with}
use Rattle.std.specs.Result.{result_ok}
use Rattle.std.specs.Str.{bytes_eq}
use Rattle.hex.specs.Hex.{decode_sized}
use Rattle.store_records.specs.declared.sums.LineFault.{LineFault}
use Rattle.store_records.specs.declared.sums.LineFault.TheVariants.{Contradicts, NotASum}
use Rattle.store_records.specs.declared.sums.Sums.{Sums}
use Rattle.store_records.specs.Sums.{digest_in}

-- the byte that a byte after a backslash stands for
abbrev pub stands_for : ℕ → Option ℕ
stands_for byte = if byte == 92 then Some 92 else if byte == 110 then Some 10 else if byte == 114 then Some 13 else None

-- the bytes that an escaped text stands for, after a backslash or not; none where something else is after a backslash
unfoldable pub unescaped_after : Bool → List ℕ → Option (List ℕ)
unescaped_after false [] = Some []
unescaped_after true [] = None
unescaped_after false (byte ∷ text) =
    if byte == 92 then unescaped_after true text else option_map (λ name. byte ∷ name) (unescaped_after false text)
unescaped_after true (byte ∷ text) =
    option_and_then (λ meant. option_map (λ name. meant ∷ name) (unescaped_after false text)) (stands_for byte)

-- the name that an escaped name stands for
abbrev pub unescaped : List ℕ → Option (List ℕ)
unescaped text = unescaped_after false text

-- a text without the `./` that may be before it
abbrev pub without_dot : List ℕ → List ℕ
without_dot text = if starts_with eqb text (codes "./") then drop 2 text else text

-- the digest that 64 hexadecimal digits are
abbrev pub digest_of : List ℕ → Option (List ℕ)
digest_of digits = result_ok (decode_sized digits 32)

-- what is between the digits and the name: two spaces or, before the name of a file that was read as binary, a space and a star
abbrev pub is_separator : List ℕ → Bool
is_separator bytes = bytes_eq bytes (codes "  ") || bytes_eq bytes (codes " *")

-- the name and the digest of a line without a backslash at its beginning, whose name is escaped or not: 64 digits, a separator and at least
-- one more byte; what is after the separator is the name, without `./`
abbrev pub said_after : Bool → List ℕ → Option (List ℕ × List ℕ)
said_after is_escaped line =
    if nat_le (length line) 66 || not (is_separator (drop 64 (take 66 line))) then None
    else option_and_then (λ digest. option_map (λ name. (name, digest))
    (if is_escaped then unescaped (without_dot (drop 66 line)) else Some (without_dot (drop 66 line)))) (digest_of (take 64 line))

-- the name and the digest of a line of a file: a backslash before the digits says that the name is escaped
abbrev pub said_by : List ℕ → Option (List ℕ × List ℕ)
said_by line = if starts_with eqb line (codes "\\") then said_after true (drop 1 line) else said_after false line

-- a line without the carriage return that may be at its end
abbrev pub without_return : List ℕ → List ℕ
without_return line = if ends_with eqb line (codes "\r") then take (length line - 1) line else line

-- a line says nothing: it is empty or begins with `#`
abbrev pub says_nothing : List ℕ → Bool
says_nothing line = length line == 0 || starts_with eqb line (codes "#")

-- what a line says of a file, with its carriage return where it has one
abbrev pub said_in : List ℕ → Option (List ℕ × List ℕ)
said_in line = if says_nothing (without_return line) then None else said_by (without_return line)

-- why what a line says isn't taken: it has another form, or the sums have another digest of its file
abbrev pub fault_by : Sums → ℕ → Option (List ℕ × List ℕ) → Option LineFault
fault_by sums number None = Some (NotASum number)
fault_by sums number (Some said) =
    option_and_then (λ earlier. if bytes_eq earlier said.1 then None else Some (Contradicts number)) (digest_in sums said.0)

-- why a line of this number isn't taken, if it isn't
abbrev pub fault_of : Sums → ℕ → List ℕ → Option LineFault
fault_of sums number line =
    if says_nothing (without_return line) then None else fault_by sums number (said_by (without_return line))

-- the digest of the file of a name by what a line says, or else by the sums
abbrev pub digest_with : Sums → Option (List ℕ × List ℕ) → List ℕ → Option (List ℕ)
digest_with sums None name = digest_in sums name
digest_with sums (Some said) name = if bytes_eq said.0 name then Some said.1 else digest_in sums name
