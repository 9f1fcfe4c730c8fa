-- The number that a few digits write, digit by digit.
use Rattle.std.proofs.Common.{◌≡◌, ◌<◌, ◌≤◌, ◌+◌, ◌-◌, ◌*◌, ◌^◌, ◌∙◌, ℕ, zero, suc, Bool, true, false, List, length, take, get_or, refl}
use Rattle.std.proofs.Common.{sym, arith}
use Rattle.std.specs.List.{list_all}
use Rattle.std.specs.Str.Parse.{digits_value}
use Rattle.std.proofs.lemmas.Bool.{false≢true}
use Rattle.std.proofs.lemmas.Int.Digits.{digits_value_more}
use Rattle.std.proofs.lemmas.List.Folds.{list_all_at}
use Rattle.std.proofs.lemmas.Str.{digit_value_digit}
use Rattle.std.specs.Char.{digit_value}
use Rattle.std.proofs.Math.Nat.{pow-suc}
use Rattle.lrc_code.specs.Text.{is_digit}

pub record IsIn (b : ℕ) : Type 0 where
  pub low : 48 ≤ b
  pub high : b ≤ 57

in_range : (b : ℕ) → is_digit b ≡ true → IsIn b
in_range b h = record { low = grind arith; high = grind arith }

pub digit_at : (xs : List ℕ) (i : ℕ) → i < length xs → list_all is_digit xs ≡ true → IsIn (get_or xs i 0)
digit_at xs i within all = by (is_digit (get_or xs i 0)) refl
  where
    by : (b : Bool) → is_digit (get_or xs i 0) ≡ b → IsIn (get_or xs i 0)
    by true h = in_range (get_or xs i 0) h
    by false h = absurd (false≢true (sym (list_all_at is_digit xs i 0 within h) ∙ all))

-- fewer than seven digits write less than a million
pub below_million : (i v : ℕ) → i < 7 → v < 10 ^ i → v < 1000000
below_million zero v h l = omega arith
below_million (suc zero) v h l = omega arith
below_million (suc (suc zero)) v h l = omega arith
below_million (suc (suc (suc zero))) v h l = omega arith
below_million (suc (suc (suc (suc zero)))) v h l = omega arith
below_million (suc (suc (suc (suc (suc zero))))) v h l = omega arith
below_million (suc (suc (suc (suc (suc (suc zero)))))) v h l = omega arith
below_million (suc (suc (suc (suc (suc (suc (suc i))))))) v h l = absurd (omega arith)

pub next_value : (xs : List ℕ) (i v : ℕ) → i < length xs → list_all is_digit xs ≡ true → v ≡ digits_value 10 (take i xs)
    → v * 10 + (get_or xs i 0 - 48) ≡ digits_value 10 (take (i + 1) xs)
next_value xs i v within all e =
    let d = digit_at xs i within all in
    let same : digit_value (get_or xs i 0) + 48 ≡ get_or xs i 0 = digit_value_digit (get_or xs i 0) (d.low, d.high) in
    let more = digits_value_more 10 xs i within in
    omega (arith, same, more, e, d.low)

pub next_small : (i v d : ℕ) → v < 10 ^ i → IsIn d → v * 10 + (d - 48) < 10 ^ (i + 1)
next_small i v d l r = let p : 10 ^ (i + 1) ≡ 10 ^ i * 10 =
    rw (let s : i + 1 ≡ suc i = omega arith in s) (pow-suc 10 i) in omega (arith, p, l, r.low, r.high)
