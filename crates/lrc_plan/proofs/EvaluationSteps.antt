-- Steps of an evaluation: what a factor and a scalar make of a byte, and what is after a write.
use Rattle.std.proofs.Math.Seq.{take-append_seam}
use Rattle.std.proofs.Common.{◌≡◌, ◌<◌, List, length, take, map, get_or, ◌++◌, subst, ◌∙◌, ap, sym, ℕ, arith}
use Rattle.std.specs.Int.Bits.{bit_xor}
use Rattle.lrc_field.specs.Field.{times}
use Rattle.std.specs.Int.Bits.{xor_zero_l, xor_assoc}
use Rattle.lrc_field.specs.Sums.{sums}
use Rattle.lrc_field.proofs.FieldLaws.{times-one, times-xor, times-assoc}
use Rattle.lrc_code.proofs.RowOps.{length-map_times}
use Rattle.lrc_code.proofs.Clearing.{get_or-sums, get_or-map_below}

-- a scalar goes into the factor
pub scaled_step : (o f s m x : ℕ) → x ≡ times f s → bit_xor o (times x m) ≡ bit_xor o (times f (times s m))
scaled_step o f s m x e = ap (λ y. bit_xor o y) (ap (λ y. times y m) e ∙ times-assoc f s m)

-- the two branches, one after the other
pub summed_step : (o f m n x : ℕ) → x ≡ bit_xor o (times f m)
    → bit_xor x (times f n) ≡ bit_xor o (times f (bit_xor m n))
summed_step o f m n x e =
    ap (λ y. bit_xor y (times f n)) e ∙ xor_assoc o (times f m) (times f n)
    ∙ ap (λ y. bit_xor o y) (sym (times-xor f m n))

-- what a `Vec` holds after a write through its slice
pub written : (n : ℕ) (xs ys : List ℕ) → length xs ≡ n → take n (xs ++ ys) ≡ xs
written n xs ys e = subst (λ m. take m (xs ++ ys) ≡ xs) e (take-append_seam xs ys)

-- added to nothing
pub zero_plus : (x y z o : ℕ) → x ≡ bit_xor z y → z ≡ o → o ≡ 0 → x ≡ y
zero_plus x y z o e p q = e ∙ rw (p, q) (xor_zero_l y)

-- a factor times some bytes was added to others
pub product_added : (factor : ℕ) (before bytes after : List ℕ) → length before ≡ length bytes
    → after ≡ sums before (map (times factor) bytes) → (i : ℕ) → i < length before
    → get_or after i 0 ≡ bit_xor (get_or before i 0) (times factor (get_or bytes i 0))
product_added factor before bytes after e is i h =
    ap (λ xs. get_or xs i 0) is
    ∙ get_or-sums before (map (times factor) bytes) i h (e ∙ sym (length-map_times factor bytes))
    ∙ ap (bit_xor (get_or before i 0)) (get_or-map_below (times factor) bytes i (omega (arith, e, h)))

-- one time a byte
pub once : (s r x : ℕ) → r ≡ s → r ≡ 1 → x < 256 → x ≡ times s x
once s r x e k h = sym (ap (λ y. times y x) (sym e ∙ k) ∙ times-one x h)
