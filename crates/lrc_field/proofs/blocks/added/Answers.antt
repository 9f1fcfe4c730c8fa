use Rattle.std.proofs.Common.{bit_xor}
use Rattle.lrc_field.proofs.LaneLemmas.{zipped}
use Rattle.lrc_field.proofs.blocks.added.Goals as goal

pub returns : goal.returns
returns c = zipped bit_xor c.args.a c.args.b c.fits-a.0 c.fits-b.0
