use Rattle.store_records.proofs.ReadBack.{read_back}
use Rattle.store_records.proofs.sum_laws.lines_read_back.Goals as goal

pub returns : goal.returns
returns c = read_back
