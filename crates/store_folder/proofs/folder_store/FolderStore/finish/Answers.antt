use Rattle.std.proofs.lemmas.Result.{IfOk-weaker}
use Rattle.store_folder.proofs.Digests.{as_listed}
use Rattle.store_folder.proofs.folder_store.FolderStore.finish.Goals as goal

pub returns-clause-whole : goal.returns-clause-whole
returns-clause-whole g c =
    IfOk-weaker c.new_path.result _ _ (λ path is. c.in_ok-refuse_part.ensures.whole) c.new_path.ensures.path

pub returns-clause-listed : goal.returns-clause-listed
returns-clause-listed g c = IfOk-weaker c.new_path.result _ _ (λ path is. as_listed c.args.self.now.site c.args.stripe.now c.args.place _ _
    c.in_ok-sum.ensures c.in_ok-refuse_part.ensures.digest) c.new_path.ensures.path
