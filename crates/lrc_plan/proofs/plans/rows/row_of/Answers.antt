use Rattle.std.proofs.Common.{ℕ, List, ap, slice_index}
use Rattle.lrc_code.specs.Places.{index_of}
use Rattle.lrc_plan.proofs.plans.rows.row_of.Goals as goal

pub returns : goal.returns
returns c = λ p. ap (λ (xs : List ℕ). slice_index xs (index_of p)) c.row.ensures
