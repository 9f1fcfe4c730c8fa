-- Searches and tests of bytes.
use Rattle.std.proofs.Common.{◌≡◌, ◌∙◌, ℕ, ◌+◌, ◌%◌, ◌<◌, max, Bool, true, false, cond, List, length, drop, Option, Some, None, refl, sym}
use Rattle.std.proofs.Common.{ap, arith, position}
use Rattle.std.specs.Prelude.{◌&&◌, nat_le, nat_lt}
use Rattle.std.specs.List.{list_all, position_or_len}
use Rattle.std.proofs.lemmas.List.Sums.{position_or_len_is}
use Rattle.memchr.specs.Find.{IsFirstByte}
use Rattle.line_mode.specs.Line.{is_printable}

-- the first index of a byte that passes
pub position-first : (test : ℕ → Bool) (bytes : List ℕ) (r : Option ℕ) → IsFirstByte test bytes r → r ≡ position test bytes
position-first test bytes r h = by r h
  where
    not_true : (b : Bool) → ¬ (b ≡ true) → b ≡ false
    not_true true never = absurd (never refl)
    not_true false never = refl

    by : (r : Option ℕ) → IsFirstByte test bytes r → r ≡ position test bytes
    by None h =
        let end : position_or_len test bytes ≡ length bytes =
        position_or_len_is test bytes (length bytes) 0 (omega arith) (λ k l. not_true _ (h k (omega arith) l))
        (λ l. absurd (omega (arith, l))) in
        let outside : nat_lt (position_or_len test bytes) (length bytes) ≡ false = grind (arith, end) in
        ap (λ b. cond b (Some (position_or_len test bytes)) None) (sym outside)
    by (Some k) h =
        let first = h.0 in
        let place : position_or_len test bytes ≡ k =
        position_or_len_is test bytes k 0 (omega (arith, first.high)) (λ j l. not_true _ (first.before j (omega arith) l)) (λ l. h.1) in
        let within : nat_lt (position_or_len test bytes) (length bytes) ≡ true = grind (arith, place, first.high) in
        ap Some (sym place) ∙ ap (λ b. cond b (Some (position_or_len test bytes)) None) (sym within)

-- whether all bytes are printable, by the greatest distance of the first i from a space
abbrev pub ArePrintable : List ℕ → ℕ → ℕ → Type 0
ArePrintable bytes i greatest = list_all is_printable bytes ≡ (nat_le greatest 94 && list_all is_printable (drop i bytes))

distance : (b w greatest : ℕ) → b < 256 → w ≡ (b + 224) % 256 → nat_le (max greatest w) 94 ≡ (nat_le greatest 94 && is_printable b)
distance b w greatest byte is = grind (arith)
