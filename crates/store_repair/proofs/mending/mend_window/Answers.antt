use Rattle.std.proofs.Common.{◌≡◌, ◌∙◌, ap, length, map, subst, sym, arith}
use Rattle.std.proofs.lemmas.Bool.{both_ways}
use Rattle.std.proofs.lemmas.List.{take_at}
use Rattle.lrc_plan.specs.Stripes.{AreZeroRows}
use Rattle.store_repair.specs.Windows.{AreAppended, HaveOrNone}
use Rattle.store_repair.proofs.NotedLemmas.{as_long}
use Rattle.std.proofs.lemmas.Result.{IfOk-from_err}
use Rattle.store_repair.proofs.mending.mend_window.Goals as goal

pub returns-then-not-are_zero-clause-window : goal.returns-then-not-are_zero-clause-window
returns-then-not-are_zero-clause-window g c = λ at are zero.
    let same = ap (map (λ s. s.now)) c.as_slice-2.ensures.value ∙ c.in_ok-slices.ensures
    ∙ ap (map (λ room. room.items)) (c.as_slice.ensures.value ∙ take_at c.read_window.new.rooms _ _ (omega arith))
    ∙ c.in_default.ensures.window at are in
    both_ways _ c.if-not-are_zero.true (c.are_zero.ensures.1
    (subst (λ xss. AreZeroRows c.args.plan.now.checks xss c.args.window.size) (sym same) zero))

pub returns-clause-window : goal.returns-clause-window
returns-clause-window g c = λ at are.
    let same = c.in_ok-slices.ensures
    ∙ ap (map (λ room. room.items)) (c.as_slice.ensures.value ∙ take_at c.read_window.new.rooms _ _ (omega arith))
    ∙ c.in_default.ensures.window at are in
    let size : length c.slice_mut-sums.result.now ≡ c.args.window.size = omega arith in
    let appended = AreAppended g.N.NewFragment.shown in
    let fourth = map (λ s. s.now) c.as_slice-4.result.now in (
      subst (λ xss. AreZeroRows c.args.plan.now.checks xss c.args.window.size)
          (ap (map (λ s. s.now)) c.as_slice-2.ensures.value ∙ same) (c.are_zero.ensures.0 c.if-not-are_zero.false),
      subst (λ xss. appended xss c.args.window.size c.args.plan.now.rows.items c.args.files.now c.append_sums.new.files)
          (ap (map (λ s. s.now)) c.as_slice-4.ensures.value ∙ same)
          (subst (λ rows. appended fourth c.args.window.size rows c.args.files.now c.append_sums.new.files)
          c.as_slice-3.ensures.value
          (subst (λ n. appended fourth n c.as_slice-3.result.now c.args.files.now c.append_sums.new.files)
          size c.in_default-append_sums.ensures)),
    )

pub returns-in-Err-clause-rooms : goal.returns-in-Err-clause-rooms
returns-in-Err-clause-rooms g c = as_long _ _ _ (omega arith)

pub returns-in-Err-append_sums-clause-sums : goal.returns-in-Err-append_sums-clause-sums
returns-in-Err-append_sums-clause-sums g c = as_long _ _ _ (omega arith)

pub returns-clause-sums : goal.returns-clause-sums
returns-clause-sums g c = as_long _ _ _ (omega arith)

pub are_zero-requires : goal.are_zero-requires
are_zero-requires g c =
    let same = ap (map (λ s. s.now)) c.as_slice-2.ensures.value ∙ c.in_ok-slices.ensures
    ∙ ap (map (λ room. room.items)) (c.as_slice.ensures.value ∙ take_at c.read_window.new.rooms _ _ (omega arith)) in
    subst (HaveOrNone c.args.window.size) (sym same) c.in_default.ensures.sizes

pub append_sums-requires-clause-sizes : goal.append_sums-requires-clause-sizes
append_sums-requires-clause-sizes g c =
    let same = ap (map (λ s. s.now)) c.as_slice-4.ensures.value ∙ c.in_ok-slices.ensures
    ∙ ap (map (λ room. room.items)) (c.as_slice.ensures.value ∙ take_at c.read_window.new.rooms _ _ (omega arith)) in
    let size : c.args.window.size ≡ length c.slice_mut-sums.result.now = omega arith in
    subst (HaveOrNone (length c.slice_mut-sums.result.now)) (sym same)
    (subst (λ n. HaveOrNone n (map (λ room. room.items) c.read_window.new.rooms)) size c.in_default.ensures.sizes)

pub returns-in_err-slices-clause-window : goal.returns-in_err-slices-clause-window
returns-in_err-slices-clause-window g c = λ _ _. IfOk-from_err _ _ c.from_residual.ensures.0

pub returns-in-Err-clause-window : goal.returns-in-Err-clause-window
returns-in-Err-clause-window g c = λ _ _. tt

pub returns-in-Err-append_sums-clause-window : goal.returns-in-Err-append_sums-clause-window
returns-in-Err-append_sums-clause-window g c = λ _ _. tt
