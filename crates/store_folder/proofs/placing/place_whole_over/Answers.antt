use Rattle.std.proofs.Common.{◌∙◌, ap}
use Rattle.folders.specs.Calls.{remove}
use Rattle.folders.specs.Given.{IsNewAt}
use Rattle.store_folder.specs.Temporary.{is_temporary}
use Rattle.store_folder.proofs.Written.{puts_after, puts_quiet}
use Rattle.store_folder.proofs.placing.place_whole_over.Goals as goal

pub returns-in-Ok-clause-whenever : goal.returns-in-Ok-clause-whenever
returns-in-Ok-clause-whenever g c = c.place_over.ensures.whenever is_temporary c.args.new.made

pub returns-in_err-remove-in-Err-clause-whenever : goal.returns-in_err-remove-in-Err-clause-whenever
returns-in_err-remove-in-Err-clause-whenever g c =
    let puts = IsNewAt c.args.path.now (g.F.New.NewFile.written c.args.new.file) in
    puts_after puts _ _ _ (c.place_over.ensures.whenever is_temporary c.args.new.made)
    (puts_quiet puts c.remove.result (remove c.as_str.result.now) _ _ c.remove.ensures.ok c.remove.ensures.err
    (λ w. ap is_temporary c.as_str.ensures.value ∙ c.args.new.temporary))

pub returns-clause-whenever : goal.returns-clause-whenever
returns-clause-whenever g c =
    let puts = IsNewAt c.args.path.now (g.F.New.NewFile.written c.args.new.file) in
    puts_after puts _ _ _ (c.place_over.ensures.whenever is_temporary c.args.new.made)
    (puts_quiet puts c.remove.result (remove c.as_str.result.now) _ _ c.remove.ensures.ok c.remove.ensures.err
    (λ w. ap is_temporary c.as_str.ensures.value ∙ c.args.new.temporary))
