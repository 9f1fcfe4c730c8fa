use Rattle.lrc_field.proofs.LaneLemmas.{lanes_twice}
use Rattle.lrc_field.proofs.blocks.twice.Goals as goal

pub returns : goal.returns
returns c = lanes_twice c.args.lanes c.requires
