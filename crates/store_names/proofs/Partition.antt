-- Each stripe is of one part.
use Rattle.std.proofs.Common.{◌≡◌, ℕ, ◌+◌, ◌-◌, ◌%◌, ◌<◌, arith, true, ◌&&◌, nat_lt, ◌==◌}
use Rattle.std.proofs.lemmas.Bool.{and_parts, and_from, eqb-true, eq-eqb, ltb-true, lt-ltb}
use Rattle.store_names.specs.Parts.{number_of}
use Rattle.store_names.specs.Laws.{PartsArePartition}

one_of : (number of : ℕ) → 0 < of → (nat_lt 0 of && nat_lt 0 (number % of + 1) && number % of == number % of + 1 - 1) ≡ true
one_of number of some =
    and_from _ _ (and_from _ _ (lt-ltb 0 of some) (lt-ltb 0 (number % of + 1) (omega arith))) (eq-eqb _ _ (omega arith))

only_one : (number of other : ℕ) → (nat_lt 0 of && nat_lt 0 other && number % of == other - 1) ≡ true → other ≡ number % of + 1
only_one number of other is =
    let parts = and_parts _ _ is in
    let some : 0 < other = ltb-true _ _ (and_parts _ _ parts.0).1 in
    let same : number % of ≡ other - 1 = eqb-true _ _ parts.1 in
    omega arith

pub partition : PartsArePartition
partition stripe of some = record {
  index = number_of stripe % of + 1;
  from = omega arith;
  to = omega arith;
  is = one_of (number_of stripe) of some;
  only = only_one (number_of stripe) of;
}
