use Rattle.store_names.proofs.LockTexts.{line_is_lock_text}
use Rattle.store_names.proofs.temporary.is_lock_text.Goals as goal

pub returns-in-Some : goal.returns-in-Some
returns-in-Some c = line_is_lock_text c.args.text.now c.in-Some.run'.now c.in-Some.ensures c.is_run.result c.is_run.ensures
