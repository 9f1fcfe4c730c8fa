-- The names that runs give to files of their own, by the texts that they have, in their order.
use Rattle.std.specs.Prelude.{◌≡◌, ℕ, Bool, true, not, ◌&&◌, ◌||◌, ◌==◌, nat_lt, List, [], ◌∷◌, ◌++◌, length, slice_index, codes, take}
use Rattle.std.specs.Prelude.{map, ◌⊎◌, if◌then◌else◌}
use Rattle.std.specs.List.{list_all}
use Rattle.std.specs.Char.{is_ascii_alphanumeric, is_ascii_digit}
use Rattle.std.specs.Fmt.{decimal}
use Rattle.std.specs.Str.{chars}
use Rattle.store_names.specs.Temporary.{is_digit}
use Rattle.store_names.specs.Texts.{lacks}

-- ---- what such names are made of

-- a number from 1 on in decimal digits, without zeros before it
abbrev pub is_number : List ℕ → Bool
is_number text = nat_lt 0 (length text) && not (slice_index text 0 == 48) && list_all is_ascii_digit text

-- the sixteen digits at random of an unfinished file
abbrev pub is_random : List ℕ → Bool
is_random text = length text == 16 && list_all is_digit text

-- a letter of a host's name that is kept as it is: a letter or a digit of ASCII, `.`, `-` or `_`
abbrev pub is_of_host : ℕ → Bool
is_of_host letter = is_ascii_alphanumeric letter || letter == 46 || letter == 45 || letter == 95

-- a host's name as runs say it: 1 to 64 such letters
abbrev pub is_host : List ℕ → Bool
is_host text = nat_lt 0 (length text) && nat_lt (length text) 65 && list_all is_of_host text

-- two numbers, with `-` and a text between them: `I-N`, or `I-of-N`
pub record IsPart (between text : List ℕ) : Type 0 where
  pub index : List ℕ
  pub of : List ℕ
  pub is : text ≡ index ++ (45 ∷ (between ++ of))
  pub is_index : is_number index ≡ true
  pub is_of : is_number of ≡ true

-- `PROCESS@HOST`
pub record IsRun (text : List ℕ) : Type 0 where
  pub process : List ℕ
  pub host : List ℕ
  pub is : text ≡ process ++ (64 ∷ host)
  pub is_process : is_number process ≡ true
  pub is_host : is_host host ≡ true

-- a part, or nothing
abbrev pub IsBeforeRun : List ℕ → Type 0
IsBeforeRun text = (text ≡ []) ⊎ IsPart [] text

-- what is before the last `-` of an unfinished file's name that has more than digits: `I-N`, `PROCESS@HOST`, or `I-N-PROCESS@HOST`. What
-- is before the `-` of a run may be empty too, which is so in no name that a run gives.
pub data IsTag (text : List ℕ) : Type 0 where
  of_part : IsPart [] text → IsTag text
  of_run : IsRun text → IsTag text
  of_both : (part run : List ℕ) → text ≡ part ++ (45 ∷ run) → IsBeforeRun part → IsRun run → IsTag text

-- where a text has a `@`, the run that it says, as `PROCESS@HOST`: it begins after the last `-` before the first `@`, or where there is
-- none with the text
pub data IsRunIn (text before run : List ℕ) : Type 0 where
  alone : (process host : List ℕ) → text ≡ process ++ (64 ∷ host) → lacks 64 process ≡ true → lacks 45 process ≡ true → before ≡ []
      → run ≡ text → IsRunIn text before run
  later : (process host : List ℕ) → text ≡ before ++ (45 ∷ run) → run ≡ process ++ (64 ∷ host) → lacks 64 before ≡ true
      → lacks 64 process ≡ true → lacks 45 process ≡ true → IsRunIn text before run

-- what follows the part in an unfinished file's name: the digits, or `PROCESS@HOST-` and the digits
pub data IsOwn (text : List ℕ) : Type 0 where
  own_digits : is_random text ≡ true → IsOwn text
  own_of_run : (run digits : List ℕ) → text ≡ run ++ (45 ∷ digits) → IsRun run → is_random digits ≡ true → IsOwn text

-- ---- the names

-- an unfinished file's: `.rebuild-store-`, then what says the part and the run, with `-` after it, or nothing, then the digits
pub data IsOfUnfinished (name : List ℕ) : Type 0 where
  bare : (digits : List ℕ) → name ≡ codes ".rebuild-store-" ++ digits → is_random digits ≡ true → IsOfUnfinished name
  tagged : (tag digits : List ℕ) → name ≡ codes ".rebuild-store-" ++ (tag ++ (45 ∷ digits)) → IsTag tag → is_random digits ≡ true
      → IsOfUnfinished name

-- the lock of a part's: `.rebuild-store-part-I-of-N`
pub record IsLock (name : List ℕ) : Type 0 where
  pub part : List ℕ
  pub is : name ≡ codes ".rebuild-store-part-" ++ part
  pub is_part : IsPart (codes "of-") part

-- a file's that a run gives to it
abbrev pub IsOfRuns : List ℕ → Type 0
IsOfRuns name = IsOfUnfinished name ⊎ IsLock name

-- an unfinished file's of the runs with this tag, as `I-N-`
pub record IsOfTag (tag name : List ℕ) : Type 0 where
  pub own : List ℕ
  pub is : name ≡ codes ".rebuild-store-" ++ (tag ++ own)
  pub is_own : IsOwn own

-- a file's that a run with this tag may have left: any that runs give, if the run has no tag, since it works on all of the store then;
-- otherwise an unfinished file's of that tag
abbrev pub IsLeftBy : List ℕ → List ℕ → Type 0
IsLeftBy [] name = IsOfRuns name
IsLeftBy (letter ∷ tag) name = IsOfTag (letter ∷ tag) name

-- the name of an unfinished file says this run: `PROCESS@HOST-` is before its digits
pub record SaysRun (name run : List ℕ) : Type 0 where
  pub before : List ℕ
  pub text : List ℕ
  pub digits : List ℕ
  pub is : name ≡ codes ".rebuild-store-" ++ (text ++ (45 ∷ digits))
  pub is_in : IsRunIn text before run
  pub is_run : IsRun run
  pub is_digits : is_random digits ≡ true

-- ---- what the file of a lock has

abbrev pub is_zero : ℕ → Bool
is_zero byte = byte == 0

-- the run that holds it, as a line, or no bytes, or zeros alone
pub data IsLockText (text : List ℕ) : Type 0 where
  said : (run : List ℕ) → text ≡ run ++ (10 ∷ []) → IsRun run → IsLockText text
  lost : list_all is_zero text ≡ true → IsLockText text

-- ---- names that are made

-- what a letter of a host's name is in the name of a run: itself, or `_`
abbrev pub kept : ℕ → ℕ
kept letter = if is_of_host letter then letter else 95

-- a run as the names of its files say it: its process, `@`, and the first 64 letters of its host's name as they are kept
abbrev pub run_named : List ℕ → List ℕ → List ℕ
run_named process host = process ++ (64 ∷ map kept (take 64 (chars host)))

-- the name of the lock of part I of N
abbrev pub lock_of : ℕ → ℕ → List ℕ
lock_of index of = codes ".rebuild-store-part-" ++ (decimal index ++ (codes "-of-" ++ decimal of))

-- the tag of part I of N: `I-N-`
abbrev pub tag_of : ℕ → ℕ → List ℕ
tag_of index of = decimal index ++ (45 ∷ (decimal of ++ (45 ∷ [])))
