use Rattle.farm_core.proofs.Pieces.{close_ends_all}
use Rattle.farm_core.proofs.merge_laws.close_ends_all.Goals as goal

pub returns : goal.returns
returns c = close_ends_all
