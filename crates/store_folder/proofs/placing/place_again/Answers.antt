use Rattle.folders.specs.Given.{IsNewAt}
use Rattle.store_folder.specs.Placed.{content_of}
use Rattle.store_folder.proofs.Written.{puts_kept}
use Rattle.store_folder.proofs.placing.place_again.Goals as goal

pub returns-in_err-discard_new-in-Err-clause-whenever :
    goal.returns-in_err-discard_new-in-Err-clause-whenever
returns-in_err-discard_new-in-Err-clause-whenever g c =
    puts_kept (IsNewAt c.args.path.now (content_of c.args.new)) _ _ c.discard_new.ensures.whenever

pub returns-in_ok-discard_new-in-Err-clause-whenever :
    goal.returns-in_ok-discard_new-in-Err-clause-whenever
returns-in_ok-discard_new-in-Err-clause-whenever g c =
    puts_kept (IsNewAt c.args.path.now (content_of c.args.new)) _ _ c.discard_new.ensures.whenever
