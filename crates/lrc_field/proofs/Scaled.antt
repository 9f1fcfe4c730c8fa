-- Sums with a list scaled by 0 or by 1.
use Rattle.std.proofs.Common.{◌≡◌, ℕ, zero, suc, ◌<◌, ◌^◌, List, [], ◌∷◌, length, get_or, map, replicate, refl, ap, ap₂, ◌∙◌, arith}
use Rattle.std.specs.Int.Bits.{bit_xor, xor_zero_l, xor_zero_r}
use Rattle.lrc_field.specs.Field.{times}
use Rattle.lrc_field.specs.Sums.{sums}
use Rattle.lrc_field.proofs.FieldLaws.{times-zero, times-one}

-- a list scaled by 0 adds nothing
pub sums-scaled_zero : (xs ys : List ℕ) → length xs ≡ length ys → sums xs (map (times 0) ys) ≡ xs
sums-scaled_zero [] ys l = refl
sums-scaled_zero (x ∷ xs) [] l = absurd (omega arith)
sums-scaled_zero (x ∷ xs) (y ∷ ys) l =
    let rest : length xs ≡ length ys = omega arith in
    ap₂ (λ b bs. b ∷ bs) (ap (bit_xor x) (times-zero y) ∙ xor_zero_r x) (sums-scaled_zero xs ys rest)

-- bytes scaled by 1 are themselves
pub scaled_one : (ys : List ℕ) → ((k : ℕ) → k < length ys → get_or ys k 0 < 2 ^ 8) → map (times 1) ys ≡ ys
scaled_one [] bytes = refl
scaled_one (y ∷ ys) bytes = ap₂ (λ b bs. b ∷ bs) (times-one y (bytes 0 (omega arith))) (scaled_one ys (λ k lt. bytes (suc k) (omega arith)))

-- sums with 0 are the other list
pub zero_sums : (n : ℕ) (ys : List ℕ) → length ys ≡ n → sums (replicate n 0) ys ≡ ys
zero_sums zero [] l = refl
zero_sums zero (y ∷ ys) l = absurd (omega arith)
zero_sums (suc n) [] l = absurd (omega arith)
zero_sums (suc n) (y ∷ ys) l = ap₂ (λ b bs. b ∷ bs) (xor_zero_l y) (zero_sums n ys (omega arith))
