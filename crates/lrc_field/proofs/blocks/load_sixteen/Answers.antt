use Rattle.std.proofs.lemmas.Simd.{length-chunk, get_or-chunk}
use Rattle.lrc_field.proofs.blocks.load_sixteen.Goals as goal

pub returns-clause-long : goal.returns-clause-long
returns-clause-long c = length-chunk c.args.i 16 c.args.bytes.now c.requires

pub returns-clause-each : goal.returns-clause-each
returns-clause-each c = λ k lt. get_or-chunk c.args.i 16 c.args.bytes.now k 0 lt
