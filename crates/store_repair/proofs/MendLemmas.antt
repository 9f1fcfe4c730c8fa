-- One window after the other.
use Rattle.std.proofs.Common.{◌≡◌, ℕ, ◌<◌, ◌≤◌, ◌+◌, ◌-◌, List, [], ◌∷◌, ◌++◌, length, get_or, drop, Option, Some, None}
use Rattle.std.proofs.Common.{refl, ap, ap₂, sym, ◌∙◌}
use Rattle.std.proofs.Common.{subst, arith, inl, inr, Bool, true, All}
use Rattle.std.proofs.lemmas.Bool.{cases_lt}
use Rattle.std.proofs.lemmas.List.{get_or-append_right, get_or-drop, get_or-take, get_or_append_left, length-append}
use Rattle.lrc_field.specs.Sums.{column, combination}
use Rattle.lrc_code.specs.declared.places.Place.{Place}
use Rattle.lrc_code.specs.declared.codes.Code.{Code as CodeName}
use Rattle.lrc_code.specs.Code.{AreBytes, has_place}
use Rattle.lrc_code.specs.Codes.{tables_of}
use Rattle.lrc_code.specs.Encoding.{IsParity}
use Rattle.lrc_plan.specs.RowPlans.{AreCheckRows, IsValueRow}
use Rattle.lrc_plan.specs.Stripes.{AreWhole, AreZeroRows}
use Rattle.lrc_plan.proofs.Stripes.{rebuilt}
use Rattle.store_repair.specs.Mended.{IsMended}
use Rattle.store_repair.specs.Windows.{AreZeroBefore, IsAppended, IsWritten, window}

-- the bytes at a position of a window
pub column_window : (from n : ℕ) (at : List (List ℕ)) (i : ℕ) → i < n → column (window from n at) i ≡ column at (from + i)
column_window from n [] i lt = refl
column_window from n (xs ∷ at) i lt =
    ap₂ (λ z zs. z ∷ zs) (get_or-take n (drop from xs) i 0 lt ∙ get_or-drop from xs i 0) (column_window from n at i lt)

-- combinations that are 0 everywhere are so in a window
pub zero_window : (rows at : List (List ℕ)) (len from n : ℕ) → from + n ≤ len → AreZeroRows rows at len
    → AreZeroRows rows (window from n at) n
zero_window rows at len from n le zero k d lt i less =
    ap (combination (get_or rows k d)) (column_window from n at i less) ∙ zero k d lt (from + i) (omega (arith, le, less))

-- and are so in front of the next one where they are in this one
pub zero_more : (rows at : List (List ℕ)) (from n : ℕ) → AreZeroBefore rows at from → AreZeroRows rows (window from n at) n
    → AreZeroBefore rows at (from + n)
zero_more rows at from n before zero k d lt i more = elim (cases_lt i from) as (λ _. combination (get_or rows k d) (column at i) ≡ 0) [
  | inl less ↦ before k d lt i less
  | inr le ↦ (let inside : i - from < n = omega (arith, le, more) in
      subst (λ j. combination (get_or rows k d) (column at j) ≡ 0) (omega (arith, le))
      (sym (ap (combination (get_or rows k d)) (column_window from n at (i - from) inside)) ∙ zero k d lt (i - from) inside))
]

-- a combination is written up to the end of a window that is appended
pub parity_more : (at : List (List ℕ)) (from n : ℕ) (row old bytes : List ℕ) → IsParity row at from old
    → IsParity row (window from n at) n bytes
    → IsParity row at (from + n) (old ++ bytes)
parity_more at from n row old bytes before new = record {
  long = length-append old bytes ∙ ap₂ (λ a b. a + b) before.long new.long;
  each = λ k more. elim (cases_lt k from) as (λ _. get_or (old ++ bytes) k 0 ≡ combination row (column at k)) [
    | inl less ↦ get_or_append_left old bytes 0 k (subst (λ m. k < m) (sym before.long) less) ∙ before.each k less
    | inr le ↦ (let inside : k - from < n = omega (arith, le, more) in
        get_or-append_right old bytes from k 0 before.long le ∙ new.each (k - from) inside
        ∙ ap (combination row) (column_window from n at (k - from) inside)
        ∙ ap (λ j. combination row (column at j)) (let e : from + (k - from) ≡ k = omega (arith, le) in e))
  ];
}

pub written_more : (at : List (List ℕ)) (from n : ℕ) (row : List ℕ) (old new : Option (List ℕ)) → IsWritten at from row old
    → IsAppended (window from n at) n row old new → IsWritten at (from + n) row new
written_more at from n row None new before (bytes, parity, e) = subst (IsWritten at (from + n) row) (sym e) tt
written_more at from n row (Some old) new before (bytes, parity, e) =
    subst (IsWritten at (from + n) row) (sym e) (parity_more at from n row old bytes before parity)

-- a file that holds the combination of a lost place at all positions is mended
pub mended_file : (code : CodeName) (survives : Place → Bool) (at : List (List ℕ)) (len : ℕ) → AreWhole code survives at len
    → All AreBytes at → length at ≡ 16 → (checks : List (List ℕ)) → AreCheckRows (tables_of code) survives checks
    → AreZeroRows checks at len → (place : Place) → has_place (tables_of code) place ≡ true → (row : List ℕ)
    → IsValueRow (tables_of code) survives place row → (file : Option (List ℕ)) → IsWritten at len row file
    → IsMended code survives at len place file
mended_file code survives at len whole small sixteen checks are zero place of_code row value None written = tt
mended_file code survives at len whole small sixteen checks are zero place of_code row value (Some bytes) written =
    rebuilt code survives at len whole small sixteen checks are zero place of_code row bytes value written
