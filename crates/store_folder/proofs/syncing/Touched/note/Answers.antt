use Rattle.std.proofs.Common.{◌∙◌, ap, sym, subst, string_bytes}
use Rattle.std.specs.List.{list_any}
use Rattle.std.specs.Str.{bytes_eq}
use Rattle.folders.specs.Files.{IsIn}
use Rattle.store_folder.specs.Done.{HasFolderOf}
use Rattle.store_folder.proofs.Done.{had, has_now, noted}
use Rattle.store_folder.proofs.syncing.Touched.note.Goals as goal

pub returns-in_ok-push-clause-had : goal.returns-in_ok-push-clause-had
returns-in_ok-push-clause-had c = λ path has. subst (HasFolderOf path) (sym c.in_ok-push.ensures.items)
    (had path c.args.self.now.folders.items c.in_ok-from_str.field-0 has)

pub returns-in_ok-push-clause-noted : goal.returns-in_ok-push-clause-noted
returns-in_ok-push-clause-noted c = λ path here. subst (HasFolderOf path) (sym c.in_ok-push.ensures.items)
    (has_now path c.args.self.now.folders.items c.in_ok-from_str.field-0
    (subst (λ f. IsIn f path) (sym c.in_ok-from_str.ensures.ok) here))

pub returns-else-not-has-clause-noted : goal.returns-else-not-has-clause-noted
returns-else-not-has-clause-noted c = λ path here. noted c.args.folder.now path c.args.self.now.folders.items
    (ap (list_any (λ other. bytes_eq (string_bytes other) c.args.folder.now)) (sym c.as_slice.ensures.value) ∙ sym c.has.ensures
    ∙ c.if-not-has.false) here
