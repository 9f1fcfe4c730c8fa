use Rattle.std.proofs.Common.{◌∙◌, bit_and}
use Rattle.std.proofs.lemmas.Nat.{and_mask}
use Rattle.std.specs.Prelude.{slice_index}
use Rattle.lrc_field.proofs.LaneLemmas.{zipped_all}
use Rattle.lrc_field.proofs.blocks.low_halves.Goals as goal

pub returns : goal.returns
returns c = let h = zipped_all bit_and c.args.bytes 15 c.fits-bytes.0 in record {
  long = h.long;
  each = λ k lt. h.each k lt ∙ and_mask (slice_index c.args.bytes k) 4;
}
