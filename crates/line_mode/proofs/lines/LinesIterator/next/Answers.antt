use Rattle.std.proofs.Common.{◌≡◌, ◌∙◌, sym, length}
use Rattle.std.proofs.lemmas.Bool.{eqb-false}
use Rattle.line_mode.proofs.Cuts.{lines_at, lines_last}
use Rattle.line_mode.proofs.lines.LinesIterator.next.Goals as goal

pub returns-in-Some-clause-steps : goal.returns-in-Some-clause-steps
returns-in-Some-clause-steps c = rw c.without_return.ensures
    (lines_at c.args.self.now.rest.now c.in-Some.end (sym c.find_byte.ensures ∙ c.in-Some.is))

pub returns-in-None-2-clause-steps : goal.returns-in-None-2-clause-steps
returns-in-None-2-clause-steps c =
    let some : length c.args.self.now.rest.now ≡ 0 → ⊥ = eqb-false (length c.args.self.now.rest.now) 0 (sym c.if-is_empty.ensures) in
    lines_last c.args.self.now.rest.now (sym c.find_byte.ensures ∙ c.in-None.is) some
