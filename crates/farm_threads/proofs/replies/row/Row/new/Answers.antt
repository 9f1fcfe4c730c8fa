use Rattle.std.proofs.Common.{rules}
use Rattle.farm_threads.proofs.Rows.{entries-replicate}
use Rattle.farm_threads.proofs.replies.row.Row.new.Goals as goal

pub returns : goal.returns
returns c = search (rules, entries-replicate)
