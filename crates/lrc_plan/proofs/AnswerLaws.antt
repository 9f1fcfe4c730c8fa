-- That a request has one answer.
use Rattle.std.proofs.Common.{◌≡◌, ℕ, List, map, Bool, true, false, Option, Some, None, refl, All, arith}
use Rattle.std.specs.List.{range_with_len}
use Rattle.std.proofs.lemmas.List.FromFn.{get_or-map-range_with_len, length-map-range_with_len}
use Rattle.lrc_code.specs.declared.places.Place.{Place}
use Rattle.lrc_code.specs.declared.outcomes.Outcome.{Outcome}
use Rattle.lrc_code.specs.declared.outcomes.Outcome.TheVariants.{Rebuilt, Contradiction, Several}
use Rattle.lrc_code.specs.Code.{AreBytes}
use Rattle.lrc_code.specs.Codes.{tables_of}
use Rattle.lrc_code.specs.Requests.{Asked, is_among, refusal}
use Rattle.lrc_code.specs.Answers.{IsAnswer}
use Rattle.lrc_code.proofs.CodeLaws.{answer-unique}
use Rattle.lrc_plan.specs.AnswerLaws.{HasOneAnswer}
use Rattle.lrc_plan.specs.RowPlans.{IsRowPlan}
use Rattle.lrc_plan.specs.Terms.{AreRowSums, IsZeroRow, row_at}
use Rattle.lrc_plan.proofs.FittingStripes.{ZeroRows, contradiction, rebuilt, rows_along, rows_at, several}

-- the sums of a row at all positions
row_sums : Asked → List ℕ → List ℕ
row_sums r row = map (row_at r row) (range_with_len 0 r.len)

are_sums : (r : Asked) (row : List ℕ) → AreRowSums r row (row_sums r row)
unfolding row_sums
are_sums r row = record {
  len = length-map-range_with_len (row_at r row) 0 r.len;
  at = λ i lt. get_or-map-range_with_len (row_at r row) 0 r.len i i 0 lt (omega arith);
}

-- an answer that is, and by the law of the code no other
alone : (r : Asked) (o : Outcome) → IsAnswer r o → HasOneAnswer r
alone r o is = (o, is, λ other also. answer-unique r other o also is)

pub one_answer : (r : Asked) → refusal r ≡ None → All (λ s. AreBytes s.bytes) r.survivors
    → (survives : Place → Bool) → ((p : Place) → survives p ≡ is_among p r.survivors)
    → (value : Option (List ℕ)) (checks : List (List ℕ)) → IsRowPlan (tables_of r.code) survives r.target value checks
    → (possible : Bool) → (possible ≡ true → All (IsZeroRow r) checks) → (possible ≡ false → ¬ All (IsZeroRow r) checks) → HasOneAnswer r
one_answer r accepted bytes survives same value checks plan false zero other =
    alone r Contradiction (contradiction r accepted bytes survives same (ZeroRows checks) plan.of_survivors.possible
    (λ all. other refl (rows_along r checks all)))
one_answer r accepted bytes survives same (Some row) checks plan true zero other =
    alone r (Rebuilt (row_sums r row)) (rebuilt r accepted bytes survives same (ZeroRows checks) plan.of_survivors.possible
    (rows_at r checks (zero refl)) row (row_sums r row) plan.of_target.right (are_sums r row))
one_answer r accepted bytes survives same None checks plan true zero other =
    alone r Several (several r accepted bytes survives same (ZeroRows checks) plan.of_survivors.possible
    (rows_at r checks (zero refl)) plan.of_target)
