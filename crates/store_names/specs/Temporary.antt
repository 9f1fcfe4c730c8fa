-- The names of files that aren't whole yet.
use Rattle.std.specs.Prelude.{ℕ, ◌-◌, Bool, not, ◌&&◌, ◌||◌, ◌==◌, nat_lt, List, length, drop, codes}
use Rattle.std.specs.List.{list_all, slice_split, starts_with}
use Rattle.std.proofs.Math.Dec.{eqb}

-- what is between the '/' of a path
abbrev pub parts : List ℕ → List (List ℕ)
parts path = slice_split (λ byte. byte == 47) path

-- a digit of such a name: 0 to 9 or a to f
abbrev pub is_digit : ℕ → Bool
is_digit byte = (nat_lt 47 byte && nat_lt byte 58) || (nat_lt 96 byte && nat_lt byte 103)

abbrev pub ends_in_digits : List ℕ → Bool
ends_in_digits name = nat_lt 15 (length name) && list_all is_digit (drop (length name - 16) name)

-- a name as unfinished files have it: `.rebuild-store-`, and sixteen digits at its end
abbrev pub is_unfinished : List ℕ → Bool
is_unfinished name = starts_with eqb name (codes ".rebuild-store-") && ends_in_digits name

-- no part of a path is such a name
abbrev pub is_free : List ℕ → Bool
is_free path = list_all (λ part. not (is_unfinished part)) (parts path)
