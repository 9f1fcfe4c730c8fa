use Rattle.std.proofs.Common.{rules, ◌∙◌, get_or, subst, arith}
use Rattle.std.proofs.lemmas.List.{get_or_default}
use Rattle.store_repair.specs.Windows.{AreAppended, IsAppended}
use Rattle.store_repair.proofs.CombiningLemmas.{appended_more, appended_none}
use Rattle.store_repair.proofs.combining.append_combined.Goals as goal

pub windows-init : goal.windows-init
windows-init g c = record {
  within = omega arith;
  rooms = search rules;
  sums = search rules;
  files = search rules;
  written = λ at are k d e f lt.
      let shown = g.N.NewFragment.shown in
      let files = c.args.files.now in
      let row = get_or c.args.rows.now k d in
      subst (λ z. IsAppended at 0 row (shown (get_or files k e)) (shown z)) (get_or_default files k e f lt)
      (appended_none at row (shown (get_or files k e)));
}

pub windows-preserved : goal.windows-preserved
windows-preserved g c =
    let shown = g.N.NewFragment.shown in
    let rows = c.args.rows.now in
    let old = c.args.files.now in
    let mid = c.windows.files in
    let new = c.append_window.new.files in
    record {
      within = omega arith;
      rooms = c.in_ok-append_window.ensures.rooms ∙ c.windows.invariant.rooms;
      sums = c.in_ok-append_window.ensures.sums ∙ c.windows.invariant.sums;
      files = omega arith;
      written = λ at are k d e f lt. appended_more at c.windows.from c.min-size.result (get_or rows k d) (shown (get_or old k e))
          (shown (get_or mid k f)) (shown (get_or new k f)) (c.windows.invariant.written at are k d e f lt)
          (c.in_ok-append_window.ensures.window at are k d f f (let many = c.windows.invariant.files in omega (arith, lt, many)));
    }

pub returns-clause-appended : goal.returns-clause-appended
returns-clause-appended g c = λ at are. subst (λ n. AreAppended g.N.NewFragment.shown at n c.args.rows.now c.args.files.now c.windows.files)
    (omega arith) (c.windows.invariant.written at are)
