-- The request that a line of line mode writes.
use Rattle.std.specs.Prelude.{◌==◌, ◌&&◌, ◌+◌, nat_le, ℕ, Bool, true, false, List, [], ◌∷◌, length, take, drop, map, Option, Some, None}
use Rattle.std.specs.Prelude.{if◌then◌else◌, position, codes}
use Rattle.std.specs.List.{filter, list_all, slice_split}
use Rattle.std.specs.Result.{result_ok}
use Rattle.hex.specs.Hex.{decode_of}
use Rattle.std.specs.Str.{bytes_eq}
use Rattle.lrc_code.specs.declared.codes.Code.{Code as CodeName}
use Rattle.lrc_code.specs.declared.codes.Code.TheVariants.{Narrow}
use Rattle.lrc_code.specs.Codes.{code_named, tables_of}
use Rattle.lrc_code.specs.Requests.{Asked, Survivor}
use Rattle.lrc_code.specs.Text.{every, is_space, number, place_named}

-- the second step, where the first gave a value
infixl 10 ◌>>=◌
abbrev pub ◌>>=◌ : {A B : Type 0} → Option A → (A → Option B) → Option B
None >>= f = None
Some x >>= f = f x

-- a byte from 20 to 7E
abbrev pub is_printable : ℕ → Bool
is_printable b = nat_le 0x20 b && nat_le b 0x7e

-- a part that holds a byte
abbrev pub is_word : List ℕ → Bool
is_word [] = false
is_word (b ∷ bs) = true

-- the words of a line, which are between spaces
abbrev pub words : List ℕ → List (List ℕ)
words line = filter is_word (slice_split is_space line)

-- the survivor that a word writes: a place's name in the code, the word's first `=`, and the bytes in hexadecimal
abbrev pub survivor : CodeName → List ℕ → Option Survivor
survivor code word = do
  at ← position (λ b. b == 0x3d) word
  place ← place_named (tables_of code) (take at word)
  bytes ← result_ok (decode_of (drop (at + 1) word))
  Some (record { place = place; bytes = bytes })

-- the request over a code that words write: the stripe's name, the target's, the length, and the survivors
abbrev pub request_in : CodeName → List (List ℕ) → Option Asked
request_in code [] = None
request_in code (stripe ∷ []) = None
request_in code (stripe ∷ target ∷ []) = None
request_in code (stripe ∷ target ∷ size ∷ rest) = do
  place ← place_named (tables_of code) target
  len ← number size
  survivors ← every (map (survivor code) rest)
  Some (record { code = code; stripe = stripe; target = place; len = len; survivors = survivors })

-- the code that a line's first word names after `code=`
abbrev pub line_code : List ℕ → Option CodeName
line_code word = if nat_le 5 (length word) && bytes_eq (take 5 word) (codes "code=") then code_named (drop 5 word) else None

-- after such a word the request is over that code, else it is over the (6,2,2) code and begins with the word
abbrev pub request_behind : Option CodeName → List ℕ → List (List ℕ) → Option Asked
request_behind None word rest = request_in Narrow (word ∷ rest)
request_behind (Some code) word rest = request_in code rest

abbrev pub request_of_words : List (List ℕ) → Option Asked
request_of_words [] = None
request_of_words (word ∷ rest) = request_behind (line_code word) word rest

-- the request that a line writes, where it has the form of one
abbrev pub request_of : List ℕ → Option Asked
request_of line = if list_all is_printable line then request_of_words (words line) else None
