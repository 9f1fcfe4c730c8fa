use Rattle.std.proofs.Common.{true, false, ap, ◌∙◌, List, ◌∷◌}
use Rattle.folders.specs.Calls.{sync_folder}
use Rattle.folders.proofs.Runs.{keeps_quiet}
use Rattle.store_folder.proofs.syncing.sync_names_of.Goals as goal

pub returns-in-Ok : goal.returns-in-Ok
returns-in-Ok g c = record {
  whenever = keeps_quiet _ _ (sync_folder c.as_str.result.now) true _ _ c.in-Ok.ensures.ok (λ w. tt);
  done = c.in-Ok.ensures.ok ∙ ap (λ (name : List _). (sync_folder name, true) ∷ g.F.Folder.calls c.args.files.now) c.as_str.ensures.value;
}

pub returns-in-Err : goal.returns-in-Err
returns-in-Err g c = record {
  whenever = keeps_quiet _ _ (sync_folder c.as_str.result.now) false _ _ c.in-Err.ensures.err (λ w. tt);
  done = tt;
}
