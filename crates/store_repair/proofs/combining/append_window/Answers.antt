use Rattle.std.proofs.Common.{◌≡◌, ◌∙◌, ap, length, map, subst, sym, arith}
use Rattle.std.proofs.lemmas.List.{take_at}
use Rattle.store_repair.specs.Windows.{AreAppended, HaveOrNone}
use Rattle.store_repair.proofs.NotedLemmas.{as_long}
use Rattle.std.proofs.lemmas.Result.{IfOk-from_err}
use Rattle.store_repair.proofs.combining.append_window.Goals as goal

pub returns-clause-window : goal.returns-clause-window
returns-clause-window g c = λ at are.
    let same = c.in_ok-slices.ensures
    ∙ ap (map (λ room. room.items)) (c.as_slice.ensures.value ∙ take_at c.read_window.new.rooms _ _ (omega arith))
    ∙ c.in_default.ensures.window at are in
    let size : length c.slice_mut-sums.result.now ≡ c.args.window.size = omega arith in
    let appended = AreAppended g.N.NewFragment.shown in
    let second = map (λ s. s.now) c.as_slice-2.result.now in
    subst (λ xss. appended xss c.args.window.size c.args.rows.now c.args.files.now c.append_sums.new.files)
    (ap (map (λ s. s.now)) c.as_slice-2.ensures.value ∙ same)
    (subst (λ n. appended second n c.args.rows.now c.args.files.now c.append_sums.new.files) size c.in_default-append_sums.ensures)

pub returns-in-Err-clause-rooms : goal.returns-in-Err-clause-rooms
returns-in-Err-clause-rooms g c = as_long _ _ _ (omega arith)

pub returns-in-Err-append_sums-clause-sums : goal.returns-in-Err-append_sums-clause-sums
returns-in-Err-append_sums-clause-sums g c = as_long _ _ _ (omega arith)

pub returns-clause-sums : goal.returns-clause-sums
returns-clause-sums g c = as_long _ _ _ (omega arith)

pub append_sums-requires-clause-sizes : goal.append_sums-requires-clause-sizes
append_sums-requires-clause-sizes g c =
    let same = ap (map (λ s. s.now)) c.as_slice-2.ensures.value ∙ c.in_ok-slices.ensures
    ∙ ap (map (λ room. room.items)) (c.as_slice.ensures.value ∙ take_at c.read_window.new.rooms _ _ (omega arith)) in
    let size : c.args.window.size ≡ length c.slice_mut-sums.result.now = omega arith in
    subst (HaveOrNone (length c.slice_mut-sums.result.now)) (sym same)
    (subst (λ n. HaveOrNone n (map (λ room. room.items) c.read_window.new.rooms)) size c.in_default.ensures.sizes)

pub returns-in_err-slices-clause-window : goal.returns-in_err-slices-clause-window
returns-in_err-slices-clause-window g c = λ _ _. IfOk-from_err _ _ c.from_residual.ensures.0

pub returns-in-Err-clause-window : goal.returns-in-Err-clause-window
returns-in-Err-clause-window g c = λ _ _. tt

pub returns-in-Err-append_sums-clause-window : goal.returns-in-Err-append_sums-clause-window
returns-in-Err-append_sums-clause-window g c = λ _ _. tt
