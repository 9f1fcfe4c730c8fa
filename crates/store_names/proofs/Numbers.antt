-- Numbers in decimal digits: those from 1 on are as the names of runs have them, and each has its own.
use Rattle.std.proofs.Common.{◌≡◌, ◌∙◌, refl, ℕ, ◌<◌, ◌+◌, ◌%◌, ◌^◌, arith, true, [], ◌∷◌, ◌++◌, codes}
use Rattle.std.specs.List.{list_all}
use Rattle.std.specs.Char.{is_ascii_digit}
use Rattle.std.specs.Fmt.{decimal}
use Rattle.std.proofs.lemmas.Bool.{and_from, lt-ltb, ne_eqb, not_from_false}
use Rattle.std.proofs.lemmas.Bool.Decides.{nat_tests}
use Rattle.std.proofs.lemmas.Fmt.{decimal_by_steps, decimal_nonempty, first_decimal}
use Rattle.std.proofs.lemmas.List.Folds.{list_all-append}
use Rattle.store_names.specs.RunFiles.{IsLock, is_number, lock_of}

digit : (n : ℕ) → n < 10 → is_ascii_digit (48 + n) ≡ true
digit n lt = grind (arith, nat_tests)

pub all_digits : (n : ℕ) → n < 2 ^ 64 → list_all is_ascii_digit (decimal n) ≡ true
all_digits n fits = decimal_by_steps (λ m ds. list_all is_ascii_digit ds ≡ true) (λ m lt. and_from _ _ (digit m lt) refl)
    (λ m ds le front. list_all-append is_ascii_digit ds ((48 + m % 10) ∷ [])
    ∙ and_from _ _ front (and_from _ _ (digit (m % 10) (omega arith)) refl))
    n fits

pub number_of : (n : ℕ) → 0 < n → n < 2 ^ 64 → is_number (decimal n) ≡ true
number_of n some fits =
    let first = first_decimal n some fits in
    let none = decimal_nonempty n fits in
    and_from _ _ (and_from _ _ (lt-ltb _ _ none) (not_from_false _ (ne_eqb _ _ (λ same. omega (arith, first, same))))) (all_digits n fits)

-- ---- a lock's name

pub lock_is : (index of : ℕ) → 0 < index → 0 < of → index < 2 ^ 64 → of < 2 ^ 64 → IsLock (lock_of index of)
lock_is index of some more fits fit = record {
  part = decimal index ++ (codes "-of-" ++ decimal of);
  is = refl;
  is_part = record {
    index = decimal index;
    of = decimal of;
    is = refl;
    is_index = number_of index some fits;
    is_of = number_of of more fit;
  };
}
