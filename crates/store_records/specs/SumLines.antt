-- The lines of sums, as `sha256sum` writes them.
use Rattle.std.specs.Prelude.{ℕ, ◌==◌, Bool, ◌||◌, if◌then◌else◌, List, [], ◌∷◌, ◌++◌, codes}
use Rattle.std.specs.List.{flat_map, list_any}
use Rattle.hex.specs.Hex.{encode_lower}
use Rattle.store_records.specs.declared.sums.Sums.{Sums}

-- a byte of a name that a line has in another form: a backslash, a line feed or a carriage return
abbrev pub is_escaped : ℕ → Bool
is_escaped byte = byte == 92 || byte == 10 || byte == 13

-- a byte of a name as an escaped name has it
abbrev pub escaped_byte : ℕ → List ℕ
escaped_byte byte =
    if byte == 92 then codes "\\\\" else if byte == 10 then codes "\\n" else if byte == 13 then codes "\\r" else byte ∷ []

-- a name with a backslash, `n` or `r` after a backslash in place of each such byte
abbrev pub escaped : List ℕ → List ℕ
escaped name = flat_map escaped_byte name

-- the line of a file, by its name and its digest, without its line feed: a backslash if something of the name is escaped, the digest in
-- hexadecimal digits, two spaces and the escaped name
abbrev pub sum_text : List ℕ → List ℕ → List ℕ
sum_text name digest = (if list_any is_escaped name then codes "\\" else []) ++ encode_lower digest ++ codes "  " ++ escaped name

-- the line of a file with its line feed
abbrev pub sum_line : List ℕ → List ℕ → List ℕ
sum_line name digest = sum_text name digest ++ codes "\n"

-- the lines of all files that the sums name, in the order of the names
abbrev pub sum_lines : Sums → List ℕ
sum_lines sums = flat_map (λ e. sum_line e.0.items e.1) sums.digests.entries
