use Rattle.std.proofs.Common.{arith, map, sym, ◌∙◌}
use Rattle.std.specs.Prelude.{slice_index}
use Rattle.std.proofs.lemmas.List.{length-map}
use Rattle.lrc_field.specs.Field.{times}
use Rattle.lrc_field.proofs.Sums.{summed_all}
use Rattle.lrc_field.proofs.BlockSums.{summed_block, scaled_at}
use Rattle.lrc_field.proofs.kernels.add_products.Goals as goal

pub lanes-preserved : goal.lanes-preserved
lanes-preserved c = record {
  within = omega arith;
  summed = summed_block (λ k. times c.args.c (slice_index c.args.src.now k)) c.args.dst.now
      (map (times c.args.c) c.args.src.now) c.lanes.dst c.scale_add_block.new.dst c.lanes.at 32
      (λ k lt. sym (scaled_at c.args.c c.args.src.now k (omega (arith, c.requires, c.lanes.invariant.summed.len))))
      c.lanes.invariant.summed (c.scale_add_block.ensures c.args.c c.new-tables.ensures);
}

pub halves-preserved : goal.halves-preserved
halves-preserved c = record {
  within = omega arith;
  summed = summed_block (λ k. times c.args.c (slice_index c.args.src.now k)) c.args.dst.now
      (map (times c.args.c) c.args.src.now) c.halves.dst c.scale_add_half.new.dst c.halves.at 16
      (λ k lt. sym (scaled_at c.args.c c.args.src.now k (omega (arith, c.requires, c.halves.invariant.summed.len))))
      c.halves.invariant.summed (c.scale_add_half.ensures c.args.c c.new-tables.ensures);
}

pub returns : goal.returns
returns c = summed_all _ _ _ c.loop-i.i (c.requires ∙ sym (length-map c.args.src.now (times c.args.c)))
    (omega (arith, c.loop-i.invariant.len)) c.loop-i.invariant
