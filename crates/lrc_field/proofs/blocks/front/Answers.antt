use Rattle.lrc_field.proofs.LaneLemmas.{lanes_front}
use Rattle.lrc_field.proofs.blocks.front.Goals as goal

pub returns-clause-each : goal.returns-clause-each
returns-clause-each c = λ k lt. lanes_front c.args.v k c.requires lt
