use Rattle.std.proofs.Common.{arith}
use Rattle.std.proofs.lemmas.List.Elements.{All-map}
use Rattle.lrc_code.specs.Code.{AreBytes}
use Rattle.lrc_c.proofs.checking.learn_lent_bytes.Goals as goal

pub returns : goal.returns
returns c = All-map AreBytes (λ l. l.bytes.now) c.args.at.now (λ k d lt. c.loop-one.invariant k d (omega arith))
