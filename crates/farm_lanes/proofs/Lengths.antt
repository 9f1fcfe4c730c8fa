-- The length of a list that has the numbers below n, each once.
use Rattle.std.proofs.Common.{◌≡◌, ℕ, zero, suc, ◌+◌, ◌<◌, ◌≤◌, List, [], ◌∷◌, length, refl, arith, nat_eq, nat_lt, cond}
use Rattle.std.specs.List.{count_by}
use Rattle.std.specs.Prelude.{All}
use Rattle.std.proofs.lemmas.List.Sums.{sum_by-cons}
use Rattle.std.proofs.lemmas.Bool.Decides.{nat_tests}
use Rattle.farm_lanes.specs.Counting.{once_below, times, AreBelow}
use Rattle.farm_lanes.proofs.Numbers.{times-cons, all_below}

-- how many of these are below m
abbrev less_than : ℕ → List ℕ → ℕ
less_than m xs = count_by (λ y. nat_lt y m) xs

less_than_more : (m : ℕ) (xs : List ℕ) → less_than (suc m) xs ≡ less_than m xs + times m xs
less_than_more m [] = omega arith
less_than_more m (x ∷ xs) = let a = sum_by-cons (λ y. cond (nat_lt y (suc m)) 1 0) x xs in
    let b = sum_by-cons (λ y. cond (nat_lt y m) 1 0) x xs in let c = times-cons m x xs in let d = less_than_more m xs in
    let e = one_more m x in omega arith
  where
    one_more : (m x : ℕ) → cond (nat_lt x (suc m)) 1 0 ≡ cond (nat_lt x m) 1 0 + cond (nat_eq x m) 1 0
    one_more m x = grind (arith, nat_tests)

less_than_none : (xs : List ℕ) → less_than 0 xs ≡ 0
less_than_none [] = refl
less_than_none (x ∷ xs) = let a = sum_by-cons (λ y. cond (nat_lt y 0) 1 0) x xs in let b = less_than_none xs in
    let c = never x in omega arith
  where
    never : (x : ℕ) → cond (nat_lt x 0) 1 0 < 1
    never x = grind (arith, nat_tests)

less_than_all : (n : ℕ) (xs : List ℕ) → All (λ x. x < n) xs → less_than n xs ≡ length xs
less_than_all n [] all = refl
less_than_all n (x ∷ xs) all = let a = sum_by-cons (λ y. cond (nat_lt y n) 1 0) x xs in
    let b = less_than_all n xs (λ k d low. all (suc k) d (omega arith)) in let c = always x n (all 0 0 (omega arith)) in let c0 = c.0 in
    let c1 = c.1 in omega arith
  where
    always : (x n : ℕ) → x < n → (0 < cond (nat_lt x n) 1 0) × (cond (nat_lt x n) 1 0 < 2)
    always x n low = (grind (arith, nat_tests), grind (arith, nat_tests))

once_here : (x n : ℕ) → x < n → once_below x n ≡ 1
once_here x n low = grind (arith, nat_tests)

less_than_is : (n m : ℕ) (xs : List ℕ) → AreBelow n xs → m ≤ n → less_than m xs ≡ m
less_than_is n zero xs below le = less_than_none xs
less_than_is n (suc m) xs below le = let a = less_than_more m xs in let b = less_than_is n m xs below (omega arith) in let c = below m in
    let d = once_here m n (omega arith) in omega arith

pub below_length : (n : ℕ) (xs : List ℕ) → AreBelow n xs → length xs ≡ n
below_length n xs below =
    let a = less_than_all n xs (all_below n xs (λ x. let b = below x in omega arith)) in
    let c = less_than_is n n xs below (omega arith) in
    omega arith
