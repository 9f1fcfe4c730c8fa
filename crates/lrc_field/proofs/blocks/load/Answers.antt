use Rattle.std.proofs.lemmas.Simd.{length-chunk, get_or-chunk}
use Rattle.lrc_field.proofs.blocks.load.Goals as goal

pub returns : goal.returns
returns c = record {
  long = length-chunk c.args.i 32 c.args.bytes.now c.requires;
  each = λ k lt. get_or-chunk c.args.i 32 c.args.bytes.now k 0 lt;
}
