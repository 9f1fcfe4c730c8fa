use Rattle.std.proofs.Common.{◌/◌, ◌^◌}
use Rattle.lrc_field.proofs.LaneLemmas.{zipped_all}
use Rattle.lrc_field.proofs.blocks.high_halves.Goals as goal

pub returns : goal.returns
returns c = zipped_all (λ b n. b / 2 ^ n) c.args.bytes 4 c.fits-bytes.0
