use Rattle.std.proofs.Common.{subst, sym}
use Rattle.std.proofs.lemmas.Result.{IfOk-weaker}
use Rattle.std.proofs.Math.Logic.{∥∥₁_elim}
use Rattle.store_folder.specs.Digests.{IsDigested}
use Rattle.store_folder.proofs.Digests.{HasDigest-prop, has_digest}
use Rattle.store_folder.proofs.unfinished_file.UnfinishedFile.refuse_part.Goals as goal

pub returns-clause-digest : goal.returns-clause-digest
returns-clause-digest g c =
    let written = g.N.NewFile.written c.args.self.now.unfinished.file in
    IfOk-weaker c.refuse_part.result _ _ (λ _ some. ∥∥₁_elim c.args.self.now.digested (HasDigest-prop c.args.sum written) (λ held.
    has_digest c.take-digest.result c.args.sum written (c.is_as_wanted.ensures c.if-not-is_as_wanted.false)
    (subst (λ d. IsDigested d written) (sym c.take-digest.ensures.value) held))) c.refuse_part.ensures
