use Rattle.farm_core.proofs.Pieces.{pieces_join}
use Rattle.farm_core.proofs.merge_laws.pieces_join.Goals as goal

pub returns : goal.returns
returns c = pieces_join
