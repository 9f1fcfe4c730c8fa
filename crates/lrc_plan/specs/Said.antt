-- What a plan's trees say of a request.
use Rattle.std.specs.Prelude.{◌≡◌, List, Option, Some, None, All}
use Rattle.lrc_code.specs.declared.outcomes.Outcome.{Outcome}
use Rattle.lrc_code.specs.declared.outcomes.Outcome.TheVariants.{Rebuilt, Contradiction, Several}
use Rattle.lrc_code.specs.Requests.{Asked}
use Rattle.lrc_plan.specs.Form.{Form}
use Rattle.lrc_plan.specs.Evaluation.{IsValue}
use Rattle.lrc_plan.specs.EvaluationParts.{IsZeroTree}

-- that some check isn't 0 at every position; or that all are, and the bytes that the value's tree gives, or that there is no such tree
abbrev pub IsSaid : Asked → Option Form → List Form → Outcome → Type 0
IsSaid r value checks Contradiction = ¬ All (IsZeroTree r) checks
IsSaid r value checks (Rebuilt f) = All (IsZeroTree r) checks × (t : Form) × (value ≡ Some t) × IsValue r t f
IsSaid r value checks Several = All (IsZeroTree r) checks × (value ≡ None)
