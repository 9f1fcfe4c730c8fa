use Rattle.std.proofs.Common.{arith, refl}
use Rattle.std.specs.Prelude.{slice_index}
use Rattle.lrc_field.proofs.Sums.{summed_all}
use Rattle.lrc_field.proofs.BlockSums.{summed_block}
use Rattle.lrc_field.proofs.kernels.add_into.Goals as goal

pub lanes-preserved : goal.lanes-preserved
lanes-preserved c = record {
  within = omega arith;
  summed = summed_block (λ k. slice_index c.args.src.now k) c.args.dst.now c.args.src.now c.lanes.dst c.add_block.new.dst c.lanes.at 32
      (λ k lt. refl) c.lanes.invariant.summed c.add_block.ensures;
}

pub returns : goal.returns
returns c = summed_all _ _ _ c.loop-i.i c.requires (omega (arith, c.loop-i.invariant.len)) c.loop-i.invariant
