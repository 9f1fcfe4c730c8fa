-- How often a number is in a list.
use Rattle.std.proofs.Common.{◌≡◌, ◌≢◌, ℕ, zero, suc, ◌+◌, ◌<◌, ◌≤◌, List, [], ◌∷◌, ◌++◌, length, get_or, true, false, refl, arith, nat_eq}
use Rattle.std.proofs.Common.{cond}
use Rattle.std.specs.Prelude.{All}
use Rattle.std.proofs.lemmas.List.Sums.{sum_by-cons, sum_by-append}
use Rattle.std.proofs.lemmas.Bool.Decides.{nat_tests}
use Rattle.farm_lanes.specs.Counting.{once_below, times}

pub once_le : (x n : ℕ) → once_below x n ≤ 1
once_le x n = grind (arith, nat_tests)

pub once_more : (x n : ℕ) → once_below x n + cond (nat_eq n x) 1 0 ≡ once_below x (n + 1)
once_more x n = grind (arith, nat_tests)

pub once_lt : (x n : ℕ) → 0 < once_below x n → x < n
once_lt x n h = grind (arith, nat_tests)

pub same_test : (x y : ℕ) → y ≡ x → nat_eq y x ≡ true
same_test x y e = grind (arith, nat_tests)

pub other_test : (x y : ℕ) → y ≢ x → nat_eq y x ≡ false
other_test x y e = grind (arith, nat_tests)

pub test_one : (x y : ℕ) → y ≡ x → 0 < cond (nat_eq y x) 1 0
test_one x y e = grind (arith, nat_tests)

pub test_le : (x y : ℕ) → cond (nat_eq y x) 1 0 ≤ 1
test_le x y = grind (arith, nat_tests)

pub test_none : (x y : ℕ) → y ≢ x → cond (nat_eq y x) 1 0 < 1
test_none x y e = grind (arith, nat_tests)

pub times-append : (x : ℕ) (xs ys : List ℕ) → times x (xs ++ ys) ≡ times x xs + times x ys
times-append x xs ys = sum_by-append (λ y. cond (nat_eq y x) 1 0) xs ys

pub times-cons : (x y : ℕ) (ys : List ℕ) → times x (y ∷ ys) ≡ cond (nat_eq y x) 1 0 + times x ys
times-cons x y ys = sum_by-cons (λ y. cond (nat_eq y x) 1 0) y ys

pub times-snoc : (x n : ℕ) (xs : List ℕ) → times x (xs ++ n ∷ []) ≡ times x xs + cond (nat_eq n x) 1 0
times-snoc x n xs = omega (arith, times-append x xs (n ∷ []), times-cons x n [])

pub times_at : (xs : List ℕ) (k d : ℕ) → k < length xs → 0 < times (get_or xs k d) xs
times_at [] k d h = absurd (omega arith)
times_at (x ∷ xs) zero d h = omega (arith, times-cons x x xs, test_one x x refl)
times_at (x ∷ xs) (suc k) d h = omega (arith, times-cons (get_or xs k d) x xs, times_at xs k d (omega arith))

pub all_below : (n : ℕ) (xs : List ℕ) → ((x : ℕ) → times x xs ≤ once_below x n) → All (λ x. x < n) xs
all_below n xs h k d lt = once_lt (get_or xs k d) n (omega (arith, h (get_or xs k d), times_at xs k d lt))
