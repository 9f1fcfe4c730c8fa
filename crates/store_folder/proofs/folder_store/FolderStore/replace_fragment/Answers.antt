use Rattle.std.proofs.Common.{◌≡◌, false, IfOk, IsSome, ap, inr, string_bytes, subst, sym, ◌∙◌}
use Rattle.store_folder.specs.Digests.{IsAsListed}
use Rattle.store_folder.specs.Done.{HasFolderOf, IsNamed}
use Rattle.store_folder.specs.Kept.{IsPathOf}
use Rattle.store_folder.specs.Replaced.{ReplacesIn}
use Rattle.store_folder.specs.Temporary.{is_temporary}
use Rattle.stores.specs.declared.store.Placed.TheVariants as outcome
use Rattle.store_folder.proofs.Done.{if_ok, some_due}
use Rattle.store_folder.proofs.Replaced.{replaces_here, replaces_none}
use Rattle.store_folder.proofs.folder_store.FolderStore.replace_fragment.Goals as goal

pub returns-in-Ok-clause-whenever : goal.returns-in-Ok-clause-whenever
returns-in-Ok-clause-whenever g c =
    let site = c.args.self.now.site in
    let stripe = c.args.stripe.now in
    let place = c.args.place in
    let written = g.F.New.NewFile.written in
    let old = g.F.Folder.calls c.args.self.now.files in
    let new = g.F.Folder.calls c.exchange.new.self.files in
    let path = subst (λ r. IfOk r (λ path. IsPathOf site stripe place (string_bytes path))) c.in-Ok.is
    c.finish_over-finished.ensures.path in
    let here = subst (IsPathOf site stripe place) (sym c.as_str.ensures.value) path in
    let free = subst (λ r. IfOk r (λ path. is_temporary (string_bytes path) ≡ false)) c.in-Ok.is c.finish_over-finished.ensures.lasting in
    let lasting = ap is_temporary c.as_str.ensures.value ∙ free in
    subst (λ w. ReplacesIn site stripe place w old new) (ap (λ u. written u.file) c.finish_over-finished.ensures.same)
    (replaces_here site stripe place (written c.finish_over-finished.new.file.unfinished.file) c.as_str.result.now old new here lasting
    c.exchange.ensures.whenever)

pub returns-in-Ok-clause-touched : goal.returns-in-Ok-clause-touched
returns-in-Ok-clause-touched g c = c.exchange.ensures.touched

pub returns-in-Ok-clause-named : goal.returns-in-Ok-clause-named
returns-in-Ok-clause-named g c =
    let site = c.args.self.now.site in
    let stripe = c.args.stripe.now in
    let place = c.args.place in
    let written = g.F.New.NewFile.written in
    let new = c.exchange.new.self in
    let path = subst (λ r. IfOk r (λ path. IsPathOf site stripe place (string_bytes path))) c.in-Ok.is
    c.finish_over-finished.ensures.path in
    let here = subst (IsPathOf site stripe place) (sym c.as_str.ensures.value) path in
    let free = subst (λ r. IfOk r (λ path. is_temporary (string_bytes path) ≡ false)) c.in-Ok.is c.finish_over-finished.ensures.lasting in
    let lasting = ap is_temporary c.as_str.ensures.value ∙ free in
    let some = subst (λ r. IfOk r (λ _. IsSome (written c.finish_over-finished.new.file.unfinished.file))) c.in-Ok.is
    c.finish_over-finished.ensures.whole in
    let listed = subst (λ r. IfOk r (λ _. IsAsListed site stripe place (written c.finish_over-finished.new.file.unfinished.file)))
    c.in-Ok.is
    c.finish_over-finished.ensures.listed in
    subst (λ w. IfOk c.exchange.result (λ placed. placed ≡ outcome.Placed → IsNamed site stripe place w new.touched.folders.items
    (g.F.Folder.calls new.files))) (ap (λ u. written u.file) c.finish_over-finished.ensures.same)
    (if_ok c.exchange.result _ _ c.exchange.ensures.due (λ placed due is. record {
      path = c.as_str.result.now;
      here = here;
      lasting = lasting;
      due = some_due _ (written c.finish_over-finished.new.file.unfinished.file) _ some (inr (due is));
      listed = listed;
    }))

pub returns-in-Err-clause-whenever : goal.returns-in-Err-clause-whenever
returns-in-Err-clause-whenever g c = replaces_none _ _ _ _ _ _ c.given_up.ensures.whenever

pub returns-in-Err-clause-touched : goal.returns-in-Err-clause-touched
returns-in-Err-clause-touched g c = λ path has. subst (λ t. HasFolderOf path t.folders.items) (sym c.given_up.ensures.touched) has
