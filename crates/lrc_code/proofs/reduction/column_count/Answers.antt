use Rattle.std.proofs.Common.{arith, ◌∙◌, ◌≤◌, ◌≡◌, nat_lt, ℕ, List, length, false, sym, subst}
use Rattle.lrc_code.specs.declared.codes.Code.{Code as CodeName}
use Rattle.lrc_code.specs.declared.codes.Code.TheVariants.{Narrow, Wide}
use Rattle.lrc_code.specs.declared.places.Place.{Place}
use Rattle.lrc_code.specs.Places.{index_of}
use Rattle.lrc_code.specs.Code.{has_place}
use Rattle.lrc_code.specs.Codes.{tables_of}
use Rattle.lrc_code.proofs.CodeTables.{narrow_has}
use Rattle.lrc_code.proofs.PlaceSums.{index_of-lt}
use Rattle.lrc_code.proofs.reduction.column_count.Goals as goal

few : (code : CodeName) → length (tables_of code).places ≤ 16
few Narrow = omega arith
few Wide = omega arith

not_below : (n : ℕ) → 10 ≤ n → nat_lt n 10 ≡ false
not_below n h = grind arith

outside : (code : CodeName) (p : Place) → length (tables_of code).places ≤ index_of p → has_place (tables_of code) p ≡ false
outside Narrow p h = narrow_has p ∙ not_below (index_of p) h
outside Wide p h = let lt = index_of-lt p in absurd (omega (arith, lt, h))

pub returns-clause-few : goal.returns-clause-few
returns-clause-few c = subst (λ (ps : List Place). length ps ≤ 16) (sym c.places.ensures) (few c.args.code)

pub returns-clause-outside : goal.returns-clause-outside
returns-clause-outside c = λ p h. outside c.args.code p (subst (λ (ps : List Place). length ps ≤ index_of p) c.places.ensures h)
