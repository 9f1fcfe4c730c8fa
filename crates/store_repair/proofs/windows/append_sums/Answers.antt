use Rattle.std.proofs.Common.{◌≡◌, ◌<◌, length, get_or, map, set, subst, sym, ◌∙◌, arith, inl, inr}
use Rattle.std.proofs.lemmas.Bool.{cases_lt}
use Rattle.std.proofs.lemmas.List.{get_or-set_other, get_or-set_same, get_or_default, get_or_read}
use Rattle.store_repair.specs.Windows.{IsAppended}
use Rattle.store_repair.proofs.windows.append_sums.Goals as goal

pub loop-index-preserved : goal.loop-index-preserved
loop-index-preserved g c =
    let shown = g.N.NewFragment.shown in
    let xss = map (λ s. s.now) c.args.slices.now in
    let rows = c.args.rows.now in
    let old = c.args.files.now in
    let files = c.loop-index.files in
    let i = c.loop-index.index in
    let file = c.append_sum.new.file in
    let before = get_or files i c.index-files-index.result in
    let row_lt : i < length rows = omega arith in
    let lt : i < length files = omega arith in
    let size : length c.loop-index.sums ≡ length c.args.sums.now = c.loop-index.auto.sums in
    record {
      done = λ k d e f more. elim (cases_lt k i) as (λ _.
          IsAppended xss (length c.args.sums.now) (get_or rows k d) (shown (get_or old k e)) (shown (get_or (set files i file) k f))) [
            | inl less ↦ subst
                (λ z. IsAppended xss (length c.args.sums.now) (get_or rows k d) (shown (get_or old k e)) (shown z))
                (sym (get_or-set_other files i k file f (omega (arith, less)))) (c.loop-index.invariant.done k d e f less)
            | inr le ↦ subst
                (λ j. IsAppended xss (length c.args.sums.now) (get_or rows j d) (shown (get_or old j e))
                (shown (get_or (set files i file) j f)))
                (omega (arith, le, more))
                (subst (λ z. IsAppended xss (length c.args.sums.now) (get_or rows i d) (shown (get_or old i e)) (shown z))
                (sym (get_or-set_same files i file f lt))
                (subst (λ z. IsAppended xss (length c.args.sums.now) (get_or rows i d) (shown z) (shown file))
                (get_or_default files i c.index-files-index.result e lt ∙ c.loop-index.invariant.left i e (omega arith))
                (subst (λ row. IsAppended xss (length c.args.sums.now) row (shown before) (shown file))
                (get_or_read rows i c.index-rows-index.result row_lt c.index-rows-index.is d)
                (subst (λ n. IsAppended xss n c.index-rows-index.result (shown before) (shown file)) size
                c.in_default.ensures))))
          ];
      left = λ k d more. get_or-set_other files i k file d (omega (arith, more)) ∙ c.loop-index.invariant.left k d (omega (arith, more));
    }

pub returns : goal.returns
returns g c = λ k d e f lt. c.loop-index.invariant.done k d e f (omega (arith, lt))
