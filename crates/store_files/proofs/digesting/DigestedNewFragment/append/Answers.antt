use Rattle.std.proofs.Common.{subst, sym}
use Rattle.std.proofs.Math.Logic.{∥∥₁_map}
use Rattle.store_files.specs.Digests.{IsDigestOf}
use Rattle.store_files.proofs.Digests.{digested_after}
use Rattle.store_files.proofs.digesting.DigestedNewFragment.append.Goals as goal

pub invariant_of-self-2 : goal.invariant_of-self-2
invariant_of-self-2 g c =
    let old = g.N.NewFragment.shown c.args.self.now.file in
    record {
      digested = ∥∥₁_map c.args.self.now.digested (λ held. digested_after c.take-digest.result c.with_more-self.result old
          (g.N.NewFragment.shown c.append.new.self) c.args.bytes.now c.in_ok-append.ensures c.with_more-self.ensures
          (subst (λ d. IsDigestOf d old) (sym c.take-digest.ensures.value) held));
    }
