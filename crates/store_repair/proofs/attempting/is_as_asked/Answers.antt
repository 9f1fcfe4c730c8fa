use Rattle.std.proofs.Common.{subst}
use Rattle.lrc_code.specs.Sets.{is_in}
use Rattle.store_repair.specs.Losses.{AreHeld}
use Rattle.store_repair.proofs.attempting.is_as_asked.Goals as goal

pub returns-then-are : goal.returns-then-are
returns-then-are g c = λ reads on.
    subst (AreHeld c.args.repair.now.code (is_in c.args.made.now.set) (is_in c.args.listed)) c.as_slice-places.ensures.value
    (c.is_shown.ensures on)
