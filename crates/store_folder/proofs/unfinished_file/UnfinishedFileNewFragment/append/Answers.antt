use Rattle.std.proofs.Common.{subst, sym}
use Rattle.std.proofs.Math.Logic.{∥∥₁_map}
use Rattle.store_folder.specs.Digests.{IsDigested}
use Rattle.store_folder.proofs.Digests.{digested_after}
use Rattle.store_folder.proofs.unfinished_file.UnfinishedFileNewFragment.append.Goals as goal

pub invariant_of-self : goal.invariant_of-self
invariant_of-self g c =
    let old = g.N.NewFile.written c.args.self.now.unfinished.file in
    let new = g.N.NewFile.written c.append-appended.new.self.file in
    record {
      digested = ∥∥₁_map c.args.self.now.digested (λ held. digested_after c.append-appended.result c.take-digest.result
          c.with_more-self.result old new c.args.bytes.now c.append-appended.ensures.ok c.append-appended.ensures.err
          c.with_more-self.ensures (subst (λ d. IsDigested d old) (sym c.take-digest.ensures.value) held));
    }
