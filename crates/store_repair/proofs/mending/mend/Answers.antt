use Rattle.std.proofs.Common.{◌≡◌, ◌∙◌, ℕ, List, [], true, get_or, subst, sym, arith}
use Rattle.lrc_code.specs.Sets.{is_in}
use Rattle.lrc_plan.specs.Stripes.{AreZeroRows}
use Rattle.lrc_plan.proofs.Stripes.{contradiction, possible}
use Rattle.stores.specs.Shown.{AreShown}
use Rattle.store_repair.specs.Windows.{IsMendedWindow, IsWritten, window}
use Rattle.store_repair.proofs.MendLemmas.{mended_file, written_more, zero_more, zero_window}
use Rattle.store_repair.proofs.WindowLemmas.{shown_length}
use Rattle.std.proofs.lemmas.Result.{IfOk-from_err}
use Rattle.store_repair.proofs.mending.mend.Goals as goal

pub returns-then-not-branch-clause-mended : goal.returns-then-not-branch-clause-mended
returns-then-not-branch-clause-mended g c = λ at are whole.
    let s = c.args.survivors.now in
    let plan = c.in_ok-plan.plan in
    let from = c.windows.from in
    let size = c.min-size.result in
    let sixteen = sym (shown_length g.F.Fragment.shown s.fragments.now at are) ∙ c.requires.sixteen in
    let done = subst (IsMendedWindow g.N.NewFragment.shown plan.checks plan.rows.items (window from size at) size c.windows.files
    c.mend_window.new.files) c.if-not-branch.true (c.in_ok-mend_window.ensures.window at are) in
    contradiction s.code (is_in s.set) at s.length whole are.bytes sixteen plan.checks c.in_ok-plan.ensures.checks
    (λ zero. done (zero_window plan.checks at s.length from size (omega arith) zero))

pub windows-preserved : goal.windows-preserved
windows-preserved g c =
    let shown = g.N.NewFragment.shown in
    let plan = c.in_ok-plan.plan in
    let from = c.windows.from in
    let size = c.min-size.result in
    let old = c.windows.files in
    let new = c.mend_window.new.files in
    let done : (at : List (List ℕ)) → AreShown g.F.Fragment.shown c.args.survivors.now.fragments.now at
    → IsMendedWindow shown plan.checks plan.rows.items (window from size at) size old new true = λ at are.
    subst (IsMendedWindow shown plan.checks plan.rows.items (window from size at) size old new) c.if-not-branch.false
    (c.in_ok-mend_window.ensures.window at are) in
    record {
      within = omega arith;
      rooms = c.in_ok-mend_window.ensures.rooms ∙ c.windows.invariant.rooms;
      sums = c.in_ok-mend_window.ensures.sums ∙ c.windows.invariant.sums;
      zero = λ at are. zero_more plan.checks at from size (c.windows.invariant.zero at are) (done at are).0;
      written = λ at are k d e lt. written_more at from size (get_or plan.rows.items k d) (shown (get_or old k e)) (shown (get_or new k e))
          (c.windows.invariant.written at are k d e (omega (arith, lt))) ((done at are).1 k d e e (omega (arith, lt)));
    }

pub returns-clause-mended : goal.returns-clause-mended
returns-clause-mended g c = λ at are whole.
    let s = c.args.survivors.now in
    let plan = c.in_ok-plan.plan in
    let sixteen = sym (shown_length g.F.Fragment.shown s.fragments.now at are) ∙ c.requires.sixteen in
    let zero : AreZeroRows plan.checks at s.length = λ k d lt i less. c.windows.invariant.zero at are k d lt i (omega (arith, less)) in
    let end : c.windows.from ≡ s.length = omega arith in (
      possible s.code (is_in s.set) at s.length whole are.bytes sixteen plan.checks c.in_ok-plan.ensures.checks zero,
      λ k d e lt. mended_file s.code (is_in s.set) at s.length whole are.bytes sixteen plan.checks c.in_ok-plan.ensures.checks zero
          (get_or c.args.places.now k d) (c.requires.lost k d (omega (arith, lt))).0 (get_or plan.rows.items k [])
          (c.in_ok-plan.ensures.rows k d [] (omega (arith, lt))) (g.N.NewFragment.shown (get_or c.windows.files k e))
          (subst (λ n. IsWritten at n (get_or plan.rows.items k []) (g.N.NewFragment.shown (get_or c.windows.files k e))) end
          (c.windows.invariant.written at are k [] e lt)),
    )

pub returns-in_err-plan-clause-mended : goal.returns-in_err-plan-clause-mended
returns-in_err-plan-clause-mended g c = λ _ _ _. IfOk-from_err _ _ c.from_residual.ensures.0

pub returns-in_err-rooms_for-clause-mended : goal.returns-in_err-rooms_for-clause-mended
returns-in_err-rooms_for-clause-mended g c = λ _ _ _. IfOk-from_err _ _ c.from_residual-in_err-rooms_for.ensures.0

pub returns-in_err-from_elem-clause-mended : goal.returns-in_err-from_elem-clause-mended
returns-in_err-from_elem-clause-mended g c = λ _ _ _. IfOk-from_err _ _ c.from_residual-in_err-from_elem.ensures.0

pub returns-in_err-mend_window-clause-mended : goal.returns-in_err-mend_window-clause-mended
returns-in_err-mend_window-clause-mended g c = λ _ _ _. IfOk-from_err _ _ c.from_residual-in_err-mend_window.ensures.0
