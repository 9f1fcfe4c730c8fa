use Rattle.std.proofs.Common.{arith}
use Rattle.lrc_plan.specs.Tree.{form_of}
use Rattle.lrc_plan.proofs.Grafts.{place_total-none, grafted-none}
use Rattle.lrc_plan.proofs.tree.Tree.graft.Goals as goal

pub returns-then-count-eq0-clause-grafted : goal.returns-then-count-eq0-clause-grafted
returns-then-count-eq0-clause-grafted g c = grafted-none (form_of c.args.self) c.args.place
    (form_of c.args.scion) (omega (arith, c.count_of-count.ensures, c.if-count-eq0.true))

pub returns-in-Ok-clause-untouched : goal.returns-in-Ok-clause-untouched
returns-in-Ok-clause-untouched g c = λ h.
    let none = place_total-none (form_of c.args.self) c.args.place h in
    absurd (omega (arith, none, c.count_of-count.ensures, c.if-count-eq0.false))

pub returns-in-Err-clause-untouched : goal.returns-in-Err-clause-untouched
returns-in-Err-clause-untouched g c = λ h.
    let none = place_total-none (form_of c.args.self) c.args.place h in
    absurd (omega (arith, none, c.count_of-count.ensures, c.if-count-eq0.false))
