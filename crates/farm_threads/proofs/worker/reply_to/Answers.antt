use Rattle.std.proofs.Common.{rules}
use Rattle.farm_threads.proofs.worker.reply_to.Goals as goal

pub done-reply-requires : goal.done-reply-requires
done-reply-requires g c = search rules
