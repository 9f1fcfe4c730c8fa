use Rattle.std.proofs.Common.{Some, subst}
use Rattle.store_folder.proofs.Kept.{given_then}
use Rattle.store_encoding.specs.Encoded.{IsDueAt}
use Rattle.store_encoding.proofs.Encoded.{after_quiet, given_none, on_ok_then, there_at}
use Rattle.store_encoding.proofs.encoding.descriptions.place_description.Goals as goal

pub returns-in_err-made-clause-whenever : goal.returns-in_err-made-clause-whenever
returns-in_err-made-clause-whenever g c = given_none _ _ _ _ c.make_description.ensures.whenever

pub returns-in_err-place_one-clause-whenever : goal.returns-in_err-place_one-clause-whenever
returns-in_err-place_one-clause-whenever g c =
    after_quiet _ _ _ _ _ _ c.in_ok-made.ensures.content c.make_description.ensures.whenever c.place_one.ensures.whenever

pub returns-clause-whenever : goal.returns-clause-whenever
returns-clause-whenever g c = given_then _ _ _ _ _
    (after_quiet _ _ _ _ _ _ c.in_ok-made.ensures.content c.make_description.ensures.whenever c.place_one.ensures.whenever)
    c.sync_names.ensures.whenever

pub returns-clause-done : goal.returns-clause-done
returns-clause-done g c = on_ok_then c.sync_names.result _ _ c.sync_names.ensures.done (λ done lasting.
    there_at _ (Some c.args.text.now) _ _ _ lasting c.sync_names.ensures.whenever done
    (subst (IsDueAt c.place_one.new.touched.folders.items (g.F.Folder.calls c.place_one.new.files) _) c.in_ok-made.ensures.content
    (c.in_ok-place_one.ensures.due lasting)))
