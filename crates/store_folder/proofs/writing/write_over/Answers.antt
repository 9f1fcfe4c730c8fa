use Rattle.std.proofs.Common.{◌≡◌, ◌∙◌, ap, refl, sym, subst, ℕ, List, ◌∷◌, true, Option, Some, IsSome}
use Rattle.folders.specs.Calls.{remove, sync_folder}
use Rattle.folders.specs.Disk.{IsOnDisk}
use Rattle.folders.specs.Given.{IsNewAt}
use Rattle.folders.proofs.Answers.{on_ok}
use Rattle.store_folder.specs.Temporary.{is_temporary}
use Rattle.store_folder.proofs.Written.{filled, puts_after, puts_kept, puts_quiet, text_on_disk, text_put}
use Rattle.store_folder.proofs.writing.write_over.Goals as goal

pub returns-in_err-new-clause-whenever : goal.returns-in_err-new-clause-whenever
returns-in_err-new-clause-whenever g c = puts_kept (IsNewAt c.args.path.now (Some c.args.text.now)) _ _ c.create_unfinished.ensures.whenever

pub returns-in_err-remove-clause-whenever : goal.returns-in_err-remove-clause-whenever
returns-in_err-remove-clause-whenever g c =
    let puts = IsNewAt c.args.path.now (Some c.args.text.now) in
    puts_after puts _ _ _ (puts_kept puts _ _ c.create_unfinished.ensures.whenever)
    (puts_quiet puts c.remove.result (remove c.as_str.result.now) _ _ c.remove.ensures.ok c.remove.ensures.err
    (λ w. ap is_temporary c.as_str.ensures.value ∙ c.fill.new.file.temporary))

pub returns-in-Err-clause-whenever : goal.returns-in-Err-clause-whenever
returns-in-Err-clause-whenever g c =
    let puts = IsNewAt c.args.path.now (Some c.args.text.now) in
    puts_after puts _ _ _ (puts_kept puts _ _ c.create_unfinished.ensures.whenever)
    (puts_quiet puts c.remove.result (remove c.as_str.result.now) _ _ c.remove.ensures.ok c.remove.ensures.err
    (λ w. ap is_temporary c.as_str.ensures.value ∙ c.fill.new.file.temporary))

pub place_whole_over-requires : goal.place_whole_over-requires
place_whole_over-requires g c = subst (λ (o : Option (List ℕ)). IsSome o)
    (sym (filled _ _ c.args.text.now c.in_default.ensures c.in_ok-new.ensures.empty)) refl

pub returns-in_err-place_whole_over-clause-whenever : goal.returns-in_err-place_whole_over-clause-whenever
returns-in_err-place_whole_over-clause-whenever g c =
    let puts = IsNewAt c.args.path.now (Some c.args.text.now) in
    puts_after puts _ _ _ (puts_kept puts _ _ c.create_unfinished.ensures.whenever)
    (text_put c.args.path.now c.args.text.now _ _ _ (filled _ _ c.args.text.now c.in_default.ensures c.in_ok-new.ensures.empty)
    c.place_whole_over.ensures.whenever)

pub returns-clause-whenever : goal.returns-clause-whenever
returns-clause-whenever g c =
    let puts = IsNewAt c.args.path.now (Some c.args.text.now) in
    puts_after puts _ _ _ (puts_after puts _ _ _ (puts_kept puts _ _ c.create_unfinished.ensures.whenever)
    (text_put c.args.path.now c.args.text.now _ _ _ (filled _ _ c.args.text.now c.in_default.ensures c.in_ok-new.ensures.empty)
    c.place_whole_over.ensures.whenever))
    (puts_quiet puts c.sync_folder.result (sync_folder c.folder_of-folder.result.now) _ _ c.sync_folder.ensures.ok
    c.sync_folder.ensures.err (λ w. tt))

pub returns-clause-done : goal.returns-clause-done
returns-clause-done g c = on_ok c.sync_folder.result
    (g.F.Folder.calls c.sync_folder.new.self ≡ (sync_folder c.folder_of-folder.result.now, true)
    ∷ g.F.Folder.calls c.place_whole_over.new.files)
    (IsOnDisk c.args.path.now c.args.text.now (g.F.Folder.calls c.sync_folder.new.self))
    (λ is. text_on_disk c.folder_of-folder.result.now c.args.path.now c.args.text.now _ (g.F.Folder.calls c.place_whole_over.new.files)
    (g.F.Folder.calls c.sync_folder.new.self) (filled _ _ c.args.text.now c.in_default.ensures c.in_ok-new.ensures.empty)
    c.in_ok-place_whole_over.ensures.given c.folder_of-folder.ensures is) c.sync_folder.ensures.ok
