-- A block of sums, from its tables.
use Rattle.std.proofs.Common.{◌≡◌, ℕ, suc, zero, ◌+◌, ◌-◌, ◌*◌, ◌/◌, ◌%◌, ◌<◌, ◌^◌, List, [], ◌∷◌, length, get_or, map, refl, ap, ap₂, sym}
use Rattle.std.proofs.Common.{◌∙◌, subst, arith, inl, inr, lit<}
use Rattle.std.specs.Int.Bits.{bit_xor, xor_zero_r}
use Rattle.std.proofs.lemmas.Nat.{xor_block}
use Rattle.std.proofs.lemmas.Bool.{cases_lt}
use Rattle.lrc_field.specs.Field.{times}
use Rattle.lrc_field.specs.Blocks.{AreTables, IsBlockAdded}
use Rattle.lrc_field.proofs.FieldLaws.{times-xor}
use Rattle.lrc_field.proofs.Sums.{IsSummed}

-- a byte is its halves
halves : (b : ℕ) → b < 2 ^ 8 → bit_xor (b % 16) (16 * (b / 16)) ≡ b
halves b h =
    let e : bit_xor (0 * 2 ^ 4 + b % 16) (b / 16 * 2 ^ 4 + 0) ≡ bit_xor 0 (b / 16) * 2 ^ 4 + bit_xor (b % 16) 0 =
    xor_block 4 0 (b / 16) (b % 16) 0 (omega arith) (lit< tt) in
    let l : b % 16 ≡ 0 * 2 ^ 4 + b % 16 = omega arith in
    let r : 16 * (b / 16) ≡ b / 16 * 2 ^ 4 + 0 = omega arith in
    let z : b / 16 * 2 ^ 4 + bit_xor (b % 16) 0 ≡ b = ap (λ x. b / 16 * 2 ^ 4 + x) (xor_zero_r (b % 16)) ∙ omega arith in
    ap₂ bit_xor l r ∙ e ∙ z

-- what the tables of a scalar give for the halves of a byte, read in lane k
pub by_tables : (c : ℕ) (low high : List ℕ) (k b : ℕ) → k < 32 → b < 2 ^ 8 → AreTables c low high
    → bit_xor (get_or low (16 * (k / 16) + b % 16) 0) (get_or high (16 * (k / 16) + b / 16) 0) ≡ times c b
by_tables c low high k b hk hb t =
    let p : (16 * (k / 16) + b % 16) % 16 ≡ b % 16 = omega arith in
    let q : (16 * (k / 16) + b / 16) % 16 ≡ b / 16 = omega arith in
    ap₂ bit_xor (t.low_is (16 * (k / 16) + b % 16) (omega arith) ∙ ap (times c) p)
    (t.high_is (16 * (k / 16) + b / 16) (omega arith) ∙ ap (λ h. times c (16 * h)) q)
    ∙ sym (times-xor c (b % 16) (16 * (b / 16))) ∙ ap (times c) (halves b hb)

-- the scaled list at a place
pub scaled_at : (c : ℕ) (xs : List ℕ) (k : ℕ) → k < length xs → get_or (map (times c) xs) k 0 ≡ times c (get_or xs k 0)
scaled_at c [] k h = absurd (omega arith)
scaled_at c (x ∷ xs) zero h = refl
scaled_at c (x ∷ xs) (suc k) h = scaled_at c xs k (omega arith)

-- one more block
pub summed_block : (f : ℕ → ℕ) (xs ys zs after : List ℕ) (i n : ℕ) → ((k : ℕ) → k < i + n → f k ≡ get_or ys k 0)
    → IsSummed xs ys zs i → IsBlockAdded f zs after i n → IsSummed xs ys after (i + n)
summed_block f xs ys zs after i n is s b = record {
  len = b.len ∙ s.len;
  done = λ k lt. elim (cases_lt k i) as (λ _. get_or after k 0 ≡ bit_xor (get_or xs k 0) (get_or ys k 0)) [
    | inl low_part ↦ b.below k low_part ∙ s.done k low_part
    | inr from ↦
        let z : i + (k - i) ≡ k = omega arith in
        let in_block : get_or after (i + (k - i)) 0 ≡ bit_xor (get_or zs (i + (k - i)) 0) (f (i + (k - i))) =
        b.inside (k - i) (omega arith) in
        let at_k : get_or after k 0 ≡ bit_xor (get_or zs k 0) (f k) =
        subst (λ m. get_or after m 0 ≡ bit_xor (get_or zs m 0) (f m)) z in_block in
        at_k ∙ ap₂ bit_xor (s.rest k from) (is k lt)
  ];
  rest = λ k above. b.above k above ∙ s.rest k (omega arith);
}
