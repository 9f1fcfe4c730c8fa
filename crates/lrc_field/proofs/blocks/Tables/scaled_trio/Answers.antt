use Rattle.std.proofs.Common.{◌+◌, ap}
use Rattle.lrc_field.specs.Field.{times}
use Rattle.lrc_field.proofs.TermSums.{lanes_same}
use Rattle.lrc_field.proofs.blocks.Tables.scaled_trio.Goals as goal

pub returns : goal.returns
returns c = λ s f t h. record {
  in_first = lanes_same _ _ (λ k. times s (f k)) (λ k lt. ap (times s) (h.in_first.each k lt)) (c.scaled.ensures s t);
  in_second = lanes_same _ _ (λ k. times s (f (32 + k))) (λ k lt. ap (times s) (h.in_second.each k lt)) (c.scaled-2.ensures s t);
  in_third = lanes_same _ _ (λ k. times s (f (64 + k))) (λ k lt. ap (times s) (h.in_third.each k lt)) (c.scaled-3.ensures s t);
}
