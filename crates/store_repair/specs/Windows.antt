-- Windows: the bytes of all fragments from a position on, and what is made of them.
use Rattle.std.specs.Prelude.{◌≡◌, ◌≢◌, ◌<◌, ◌++◌, ℕ, List, map, take, drop, length, All, Option, Some, None, option_map}
use Rattle.std.specs.Prelude.{slice_index_or, Bool, true, false, [], ◌∷◌, ◌==◌, if◌then◌else◌}
use Rattle.lrc_field.specs.Sums.{combination, column}
use Rattle.lrc_code.specs.Encoding.{IsParity}
use Rattle.lrc_plan.specs.Stripes.{AreZeroRows}

-- so many bytes of each list from a position on
abbrev pub window : ℕ → ℕ → List (List ℕ) → List (List ℕ)
window from n at = map (λ xs. take n (drop from xs)) at

-- each list has so many bytes or none
abbrev pub HaveOrNone : ℕ → List (List ℕ) → Type 0
HaveOrNone n xss = All (λ xs. length xs ≢ 0 → length xs ≡ n) xss

-- each row's combination is 0 at the positions before an index
abbrev pub AreZeroBefore : List (List ℕ) → List (List ℕ) → ℕ → Type 0
AreZeroBefore rows at n = All (λ row. (k : ℕ) → k < n → combination row (column at k) ≡ 0) rows

-- a file, where it is shown, holds a row's combination at the positions before an index, and nothing after them
abbrev pub IsWritten : List (List ℕ) → ℕ → List ℕ → Option (List ℕ) → Type 0
IsWritten at n row None = Unit
IsWritten at n row (Some bytes) = IsParity row at n bytes

-- each file is, by the row at its index
abbrev pub AreWritten : {N : Type 0} → (N → Option (List ℕ)) → List (List ℕ) → ℕ → List (List ℕ) → List N → Type 0
AreWritten shown at n rows files =
    (k : ℕ) (d : List ℕ) (e : _) → k < length files → IsWritten at n (slice_index_or rows k d) (shown (slice_index_or files k e))

-- a row's combination of a window was added at the end of what is shown
abbrev pub IsAppended : List (List ℕ) → ℕ → List ℕ → Option (List ℕ) → Option (List ℕ) → Type 0
IsAppended xss n row old new = (bytes : List ℕ) × IsParity row xss n bytes × (new ≡ option_map (λ written. written ++ bytes) old)

-- each file got the combination by the row at its index
abbrev pub AreAppended : {N : Type 0} → (N → Option (List ℕ)) → List (List ℕ) → ℕ → List (List ℕ) → List N → List N → Type 0
AreAppended shown xss n rows old new =
    (k : ℕ) (d : List ℕ) (e f : _) → k < length old
    → IsAppended xss n (slice_index_or rows k d) (shown (slice_index_or old k e)) (shown (slice_index_or new k f))

-- what is said of a window: the checks are 0 in it, and its combinations were appended; or some check isn't 0
abbrev pub IsMendedWindow : {N : Type 0} → (N → Option (List ℕ)) → List (List ℕ) → List (List ℕ) → List (List ℕ) → ℕ → List N → List N
    → Bool → Type 0
IsMendedWindow shown checks rows xss n old new true = AreZeroRows checks xss n × AreAppended shown xss n rows old new
IsMendedWindow shown checks rows xss n old new false = ¬ AreZeroRows checks xss n

-- the lists whose coefficients aren't 00, and no bytes in place of the others
abbrev pub used_in : List ℕ → List (List ℕ) → List (List ℕ)
used_in [] at = []
used_in (c ∷ cs) [] = []
used_in (c ∷ cs) (xs ∷ at) = (if c == 0 then [] else xs) ∷ used_in cs at
