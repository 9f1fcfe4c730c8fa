use Rattle.std.proofs.Common.{◌<◌, arith, length, sym, true≢false}
use Rattle.lrc_code.specs.Sets.{is_in}
use Rattle.store_repair.proofs.CheckLemmas.{contradicts, fits_any}
use Rattle.store_repair.proofs.losses.have_checks.Goals as goal

pub returns-then-has_term-clause-yes : goal.returns-then-has_term-clause-yes
returns-then-has_term-clause-yes c = λ _.
    let rows = c.check_rows-rows.result in
    let within : c.loop-index.index < length rows = omega arith in
    contradicts c.args.code (is_in c.args.survivors) rows c.check_rows-rows.ensures c.loop-index.index _ within
    (c.has_term.ensures.yes c.if-has_term.true)

pub returns-clause-no : goal.returns-clause-no
returns-clause-no c = λ _.
    let rows = c.check_rows-rows.result in
    fits_any c.args.code (is_in c.args.survivors) rows c.check_rows-rows.ensures
    (λ r d lt. c.loop-index.invariant r d (let end = c.loop-index-test.false in omega (arith, lt, end)))

pub returns-then-has_term-clause-no : goal.returns-then-has_term-clause-no
returns-then-has_term-clause-no c = λ is. absurd (true≢false is)

pub returns-clause-yes : goal.returns-clause-yes
returns-clause-yes c = λ is. absurd (true≢false (sym is))
