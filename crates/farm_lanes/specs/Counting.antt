-- How often numbers are in lists.
use Rattle.std.specs.Prelude.{◌≡◌, ℕ, ◌==◌, List, if◌then◌else◌, nat_lt}
use Rattle.std.specs.List.{count_by}

-- how often x is in the list
abbrev pub times : ℕ → List ℕ → ℕ
times x xs = count_by (λ y. y == x) xs

-- how often x is among the numbers below n: once where it is one of them, else never
abbrev pub once_below : ℕ → ℕ → ℕ
once_below x n = if nat_lt x n then 1 else 0

-- the list has the numbers below n, each once, and no others
abbrev pub AreBelow : ℕ → List ℕ → Type 0
AreBelow n xs = (x : ℕ) → times x xs ≡ once_below x n
