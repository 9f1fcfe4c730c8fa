-- Combinations that are appended window by window.
use Rattle.std.proofs.Common.{◌≡◌, ℕ, zero, suc, ◌<◌, ◌+◌, ◌++◌, List, [], ◌∷◌, Option, Some, None, refl, ap, ap₂, sym, ◌∙◌, arith}
use Rattle.std.proofs.Common.{length, get_or, All, Bool, true, false}
use Rattle.std.specs.Prelude.{◌==◌, if◌then◌else◌}
use Rattle.std.specs.Int.Bits.{bit_xor}
use Rattle.std.proofs.lemmas.Bool.{eqb-true}
use Rattle.std.proofs.lemmas.List.Elements.{All-cons}
use Rattle.lrc_field.specs.Field.{times}
use Rattle.lrc_field.specs.Sums.{column, combination}
use Rattle.lrc_field.proofs.FieldLaws.{times-zero}
use Rattle.lrc_code.specs.Code.{AreBytes}
use Rattle.std.proofs.lemmas.List.{append-nil, append_assoc}
use Rattle.std.specs.Prelude.{option_map}
use Rattle.lrc_code.specs.Encoding.{IsParity}
use Rattle.store_repair.specs.Windows.{IsAppended, used_in, window}
use Rattle.store_repair.proofs.MendLemmas.{parity_more}

-- before the first window nothing is appended
pub appended_none : (at : List (List ℕ)) (row : List ℕ) (old : Option (List ℕ)) → IsAppended at 0 row old old
appended_none at row None = ([], record { long = refl; each = λ k lt. absurd (omega (arith, lt)) }, refl)
appended_none at row (Some bytes) = (
  [],
  record { long = refl; each = λ k lt. absurd (omega (arith, lt)) },
  ap Some (sym (append-nil bytes)),
)

-- what was appended, and then the combination of the next window
pub appended_more : (at : List (List ℕ)) (from n : ℕ) (row : List ℕ) (old mid new : Option (List ℕ)) → IsAppended at from row old mid
    → IsAppended (window from n at) n row mid new → IsAppended at (from + n) row old new
appended_more at from n row None mid new (xs, before, e) (ys, after, f) =
    (xs ++ ys, parity_more at from n row xs ys before after, f ∙ ap (option_map (λ written. written ++ ys)) e)
appended_more at from n row (Some old) mid new (xs, before, e) (ys, after, f) = (
  xs ++ ys,
  parity_more at from n row xs ys before after,
  f ∙ ap (option_map (λ written. written ++ ys)) e ∙ ap Some (append_assoc old xs ys),
)

-- a list that a coefficient of 00 leaves out adds nothing
first_used : (c : ℕ) (b : Bool) → (c == 0) ≡ b → (xs : List ℕ) (k : ℕ)
    → times c (get_or (if b then [] else xs) k 0) ≡ times c (get_or xs k 0)
first_used c true e xs k = ap (λ x. times x 0) (eqb-true c 0 e) ∙ times-zero 0 ∙ sym (ap (λ x. times x (get_or xs k 0)) (eqb-true c 0 e)
    ∙ times-zero (get_or xs k 0))
first_used c false e xs k = refl

pub combination_used : (row : List ℕ) (at : List (List ℕ)) (k : ℕ)
    → combination row (column (used_in row at) k) ≡ combination row (column at k)
combination_used [] at k = refl
combination_used (c ∷ row) [] k = refl
combination_used (c ∷ row) (xs ∷ at) k = ap₂ bit_xor (first_used c (c == 0) refl xs k) (combination_used row at k)

pub parity_used : (row : List ℕ) (at : List (List ℕ)) (n : ℕ) (bytes : List ℕ) → IsParity row (used_in row at) n bytes
    → IsParity row at n bytes
parity_used row at n bytes h = record { long = h.long; each = λ k lt. h.each k lt ∙ combination_used row at k }

-- what is left in of lists, at an index
pub used_at : (row : List ℕ) (at : List (List ℕ)) (k : ℕ) (d e : List ℕ) → k < length row → k < length at
    → get_or (used_in row at) k d ≡ (if get_or row k 0 == 0 then [] else get_or at k e)
used_at [] at k d e lt less = absurd (omega (arith, lt))
used_at (c ∷ row) [] k d e lt less = absurd (omega (arith, less))
used_at (c ∷ row) (xs ∷ at) zero d e lt less = refl
used_at (c ∷ row) (xs ∷ at) (suc k) d e lt less = used_at row at k d e (omega (arith, lt)) (omega (arith, less))

pub length-used : (row : List ℕ) (at : List (List ℕ)) → length row ≡ length at → length (used_in row at) ≡ length at
length-used [] [] h = refl
length-used [] (xs ∷ at) h = absurd (omega (arith, h))
length-used (c ∷ row) [] h = refl
length-used (c ∷ row) (xs ∷ at) h = ap suc (length-used row at (omega (arith, h)))

kept_bytes : (b : Bool) (xs : List ℕ) → AreBytes xs → AreBytes (if b then [] else xs)
kept_bytes true xs h = λ k d lt. absurd (omega (arith, lt))
kept_bytes false xs h = h

pub bytes_used : (row : List ℕ) (at : List (List ℕ)) → All AreBytes at → All AreBytes (used_in row at)
bytes_used [] at h = λ k d lt. absurd (omega (arith, lt))
bytes_used (c ∷ row) [] h = h
bytes_used (c ∷ row) (xs ∷ at) h = All-cons AreBytes (if c == 0 then [] else xs) (used_in row at)
    (kept_bytes (c == 0) xs (h 0 xs (omega arith))) (bytes_used row at (λ k d lt. h (suc k) d (omega (arith, lt))))
