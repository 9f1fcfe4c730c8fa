use Rattle.store_records.proofs.ReadBack.{whole}
use Rattle.store_records.proofs.sum_laws.lines_are_whole.Goals as goal

pub returns : goal.returns
returns c = whole
