-- Steps of the loop over pairs of hexadecimal digits.
use Rattle.std.proofs.Common.{◌^◌, Bool, eqb, get_or, subst, suc, zero, ◌≡◌, ◌∙◌, ℕ, ◌+◌, ◌*◌, ◌<◌, ◌≤◌, max, true, false, cond, List}
use Rattle.std.proofs.Common.{length, take, drop, slice_index, slice_set, Option, Some, None, unwrap_or, Ok, Err, refl, sym, ap, arith, inl}
use Rattle.std.proofs.Common.{inr}
use Rattle.std.specs.Prelude.{◌&&◌, nat_lt}
use Rattle.std.specs.Result.{result_ok}
use Rattle.std.proofs.lemmas.Nat.{le_or_l, le_or_r, or_lt}
use Rattle.std.specs.Int.Bits.{bit_or}
use Rattle.std.proofs.lemmas.Bool.{cases_lt, eqb-true}
use Rattle.hex.specs.Hex.{decode_of, decode_pairs, digit_or_error, hex_digit_value, pair_value}
use Rattle.hex.specs.declared.error.FromHexError.{FromHexError}
use Rattle.hex.specs.declared.error.FromHexError.TheVariants.{InvalidHexCharacter}
use Rattle.hex.proofs.Pairs.{decode_done, decode_err, decode_step, prepend}
use Rattle.hex.proofs.HexLemmas.{decode_of-even}
use Rattle.line_mode.specs.declared.hexadecimal.TheConstants.{DIGIT_VALUES}

-- the first i pairs are decoded, where the greatest value of their characters is a digit's; else the text doesn't decode
pub record IsDecoded (text bytes : List ℕ) (i greatest : ℕ) : Type 0 where
  pub good : greatest < 16 → decode_pairs 0 text ≡ prepend (take i bytes) (decode_pairs (2 * i) (drop (2 * i) text))
  pub bad : 16 ≤ greatest → result_ok (decode_pairs 0 text) ≡ None

-- the value of a character, or one that is no digit's
abbrev value_or : Option ℕ → ℕ
value_or o = unwrap_or o 255

digit-small : (c v : ℕ) → hex_digit_value c ≡ Some v → v < 16
digit-small c v h = grind (arith)

digit-read : (c h : ℕ) → h ≡ value_or (hex_digit_value c) → h < 16 → hex_digit_value c ≡ Some h
digit-read c h e small = by (hex_digit_value c) refl
  where
    by : (o : Option ℕ) → hex_digit_value c ≡ o → hex_digit_value c ≡ Some h
    by None q = let same : h ≡ 255 = e ∙ ap value_or q in absurd (omega (arith, same, small))
    by (Some v) q = q ∙ ap Some (sym (e ∙ ap value_or q))

digit-bad : (c h : ℕ) → h ≡ value_or (hex_digit_value c) → 16 ≤ h → hex_digit_value c ≡ None
digit-bad c h e large = by (hex_digit_value c) refl
  where
    by : (o : Option ℕ) → hex_digit_value c ≡ o → hex_digit_value c ≡ None
    by None q = q
    by (Some v) q = let same : h ≡ v = e ∙ ap value_or q in absurd (omega (arith, same, large, digit-small c v q))

pair-read : (a b h l i : ℕ) → hex_digit_value a ≡ Some h → hex_digit_value b ≡ Some l → pair_value a b i ≡ Ok (h * 16 + l)
pair-read a b h l i ea eb = rw (ap (digit_or_error a i) ea, ap (digit_or_error b (i + 1)) eb) refl

pair-high : (a b i : ℕ) → hex_digit_value a ≡ None → pair_value a b i ≡ Err (InvalidHexCharacter a i)
pair-high a b i ea = rw (ap (digit_or_error a i) ea) refl

pair-low : (a b h i : ℕ) → hex_digit_value a ≡ Some h → hex_digit_value b ≡ None → pair_value a b i ≡ Err (InvalidHexCharacter b (i + 1))
pair-low a b h i ea eb = rw (ap (digit_or_error a i) ea, ap (digit_or_error b (i + 1)) eb) refl

-- one pair more
pub decoded-step : (text bytes : List ℕ) (i greatest high low v most : ℕ) → 2 * i + 1 < length text → i < length bytes
    → high ≡ unwrap_or (hex_digit_value (slice_index text (2 * i))) 255
    → low ≡ unwrap_or (hex_digit_value (slice_index text (2 * i + 1))) 255
    → (high < 16 → low < 16 → v ≡ high * 16 + low) → most ≡ max (max greatest high) low
    → IsDecoded text bytes i greatest → IsDecoded text (slice_set bytes i v) (i + 1) most
decoded-step text bytes i greatest high low v most fits room eh el value is h = record { good = good; bad = bad }
  where
    good : most < 16 → decode_pairs 0 text ≡ prepend (take (i + 1) (slice_set bytes i v))
        (decode_pairs (2 * (i + 1)) (drop (2 * (i + 1)) text))
    good small =
        let small_high : high < 16 = omega (arith, is, small) in
        let small_low : low < 16 = omega (arith, is, small) in
        let read = pair-read (slice_index text (2 * i)) (slice_index text (2 * i + 1)) high low (2 * i)
        (digit-read (slice_index text (2 * i)) high eh small_high) (digit-read (slice_index text (2 * i + 1)) low el small_low) in
        decode_step text bytes i v fits room (read ∙ ap Ok (sym (value small_high small_low))) (h.good (omega (arith, is, small)))

    stopped : (e : FromHexError) → greatest < 16 → pair_value (slice_index text (2 * i)) (slice_index text (2 * i + 1)) (2 * i) ≡ Err e
        → result_ok (decode_pairs 0 text) ≡ None
    stopped e small p = ap result_ok (decode_err text bytes i e fits p (h.good small))

    bad : 16 ≤ most → result_ok (decode_pairs 0 text) ≡ None
    bad large =
        elim (cases_lt greatest 16) [
          | inr already ↦ h.bad already
          | inl small ↦
              elim (cases_lt high 16) [
                | inr no_high ↦ stopped _ small (pair-high (slice_index text (2 * i)) (slice_index text (2 * i + 1)) (2 * i)
                    (digit-bad (slice_index text (2 * i)) high eh no_high))
                | inl a_high ↦ stopped _ small (pair-low (slice_index text (2 * i)) (slice_index text (2 * i + 1)) high (2 * i)
                    (digit-read (slice_index text (2 * i)) high eh a_high)
                    (digit-bad (slice_index text (2 * i + 1)) low el (omega (arith, is, large, small, a_high))))
              ]
        ]

-- one pair more, where the bits of the values are gathered in place of the greatest of them
pub decoded-seen : (text bytes : List ℕ) (i seen high low v : ℕ) → 2 * i + 1 < length text → i < length bytes
    → high ≡ unwrap_or (hex_digit_value (slice_index text (2 * i))) 255
    → low ≡ unwrap_or (hex_digit_value (slice_index text (2 * i + 1))) 255
    → (high < 16 → low < 16 → v ≡ high * 16 + low)
    → IsDecoded text bytes i seen → IsDecoded text (slice_set bytes i v) (i + 1) (bit_or seen (bit_or high low))
decoded-seen text bytes i seen high low v fits room eh el value h = record { good = good; bad = bad }
  where
    next : IsDecoded text (slice_set bytes i v) (i + 1) (max (max seen high) low)
    next = decoded-step text bytes i seen high low v (max (max seen high) low) fits room eh el value refl h

    good : bit_or seen (bit_or high low) < 16 → decode_pairs 0 text ≡ prepend (take (i + 1) (slice_set bytes i v))
        (decode_pairs (2 * (i + 1)) (drop (2 * (i + 1)) text))
    good small = next.good (omega (
      arith,
      small,
      le_or_l seen (bit_or high low),
      le_or_r seen (bit_or high low),
      le_or_l high low,
      le_or_r high low,
    ))

    small_or : max (max seen high) low < 16 → bit_or seen (bit_or high low) < 16
    small_or small = or_lt 4 seen (bit_or high low) (omega (arith, small)) (or_lt 4 high low (omega (arith, small)) (omega (arith, small)))

    bad : 16 ≤ bit_or seen (bit_or high low) → result_ok (decode_pairs 0 text) ≡ None
    bad large =
        elim (cases_lt (max (max seen high) low) 16) [
          | inr above ↦ next.bad above
          | inl small ↦ absurd (omega (arith, large, small_or small))
        ]

-- all pairs
pub decoded-done : (text bytes : List ℕ) (i greatest : ℕ) → length bytes ≤ i → length text ≡ 2 * length bytes
    → IsDecoded text bytes i greatest
    → result_ok (decode_of text) ≡ cond (nat_lt greatest 16) (Some bytes) None
decoded-done text bytes i greatest end len h = ap result_ok (decode_of-even text (omega (arith, len))) ∙ elim (cases_lt greatest 16) [
  | inl small ↦
      let below : nat_lt greatest 16 ≡ true = grind (arith, small) in
      ap result_ok (decode_done text bytes i end (omega (arith, end, len)) (h.good small)) ∙ ap (λ b. cond b (Some bytes) None) (sym below)
  | inr large ↦
      let above : nat_lt greatest 16 ≡ false = grind (arith, large) in
      h.bad large ∙ ap (λ b. cond b (Some bytes) None) (sym above)
]

-- a test of all numbers below n, computed
abbrev all_below : (ℕ → Bool) → ℕ → Bool
all_below p zero = true
all_below p (suc n) = p n && all_below p n

both : (a b : Bool) → a && b ≡ true → (a ≡ true) × (b ≡ true)
both true b h = (refl, h)
both false b h = (h, absurd (cc))

below_at : (p : ℕ → Bool) (n k : ℕ) → all_below p n ≡ true → k < n → p k ≡ true
below_at p zero k h lt = absurd (omega arith)
below_at p (suc n) k h lt =
    let parts = both (p n) (all_below p n) h in
    elim (cases_lt k n) as (λ _. p k ≡ true) [
      | inl low ↦ below_at p n k parts.1 low
      | inr high ↦ (let same : k ≡ n = omega arith in subst (λ x. p x ≡ true) (sym same) parts.0)
    ]

-- what the table says of each byte
table_tells : all_below (λ a. eqb (get_or DIGIT_VALUES a 0) (unwrap_or (hex_digit_value a) 255)) 256 ≡ true
table_tells = refl

pub table_is : (a : ℕ) → a < 2 ^ 8 → slice_index DIGIT_VALUES a ≡ unwrap_or (hex_digit_value a) 255
table_is a h = eqb-true _ _ (below_at (λ a. eqb (get_or DIGIT_VALUES a 0) (unwrap_or (hex_digit_value a) 255)) 256 a table_tells h)
