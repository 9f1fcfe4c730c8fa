use Rattle.std.proofs.Math.Logic.{∥∥₁_elim}
use Rattle.store_files.proofs.Digests.{HasDigest-prop, has_digest}
use Rattle.store_files.proofs.digesting.Digested.finish.Goals as goal

pub returns : goal.returns
returns g c = λ on.
    let written = g.N.NewFragment.shown c.args.self.file in
    ∥∥₁_elim c.args.self.digested (HasDigest-prop c.args.wanted.now written)
    (λ held. has_digest c.args.self.digest c.args.wanted.now written (c.is_as_wanted.ensures on) held)
