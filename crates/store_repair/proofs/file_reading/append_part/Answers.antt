use Rattle.std.proofs.Common.{◌∙◌, ap, get_or, subst, sym, arith, ◌++◌}
use Rattle.std.specs.Prelude.{option_map}
use Rattle.std.proofs.lemmas.Result.{on_ok_weaker}
use Rattle.stores.specs.Shown.{AreShown}
use Rattle.store_repair.specs.Windows.{used_in}
use Rattle.store_repair.proofs.CombiningLemmas.{parity_used}
use Rattle.store_repair.proofs.file_reading.append_part.Goals as goal

pub returns-clause-appended : goal.returns-clause-appended
returns-clause-appended g c = λ at are.
    let row = c.args.row.now in
    let old = c.args.output.now in
    let used = subst (λ v. AreShown (λ f. g.F.Fragment.shown f.now) v (used_in row at)) (sym c.as_slice.ensures.value)
    (c.in_ok-used.ensures at are) in
    on_ok_weaker c.append_combined.result
    (λ e. let h = e 0 row old old (omega (arith, c.from_mut.ensures.len)) in (
      h.0,
      parity_used row at c.args.many h.0 h.1,
      h.2 ∙ ap (λ xs. option_map (λ written. written ++ h.0) (g.N.NewFragment.shown (get_or xs 0 old))) c.from_mut.ensures.value,
    ))
    (c.append_combined.ensures.appended (used_in row at) used)
