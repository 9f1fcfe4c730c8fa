use Rattle.std.proofs.Common.{subst, sym}
use Rattle.std.proofs.Math.Logic.{∥∥₁_elim}
use Rattle.store_folder.specs.Digests.{IsDigested}
use Rattle.store_folder.proofs.Digests.{HasDigest-prop, has_digest}
use Rattle.store_folder.proofs.unfinished_file.UnfinishedFile.has_digest.Goals as goal

pub returns : goal.returns
returns g c = λ on.
    let written = g.N.NewFile.written c.args.self.now.unfinished.file in
    ∥∥₁_elim c.args.self.now.digested (HasDigest-prop c.args.sum written) (λ held.
    has_digest c.in_ok-digest.digest c.args.sum written (c.is_as_wanted.ensures on)
    (subst (λ d. IsDigested d written) (sym c.in_ok-digest.ensures) held))
