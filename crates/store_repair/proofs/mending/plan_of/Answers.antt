use Rattle.std.proofs.Common.{◌+◌, ◌∷◌, [], ◌∙◌, ap, arith, get_or, inl, inr, length, subst, sym}
use Rattle.std.proofs.lemmas.Bool.{cases_lt}
use Rattle.std.proofs.lemmas.List.{get_or_append_left, get_or_default, get_or_push, length_push}
use Rattle.lrc_code.specs.Codes.{tables_of}
use Rattle.lrc_code.specs.Sets.{is_in}
use Rattle.lrc_plan.specs.Planned.{ExtensionsDiffer}
use Rattle.lrc_plan.specs.RowPlans.{IsValueRow}
use Rattle.store_repair.proofs.mending.plan_of.Goals as goal

pub loop-index-preserved : goal.loop-index-preserved
loop-index-preserved c =
    let rows = c.loop-index.rows.items in
    let row = c.in-Some.row in
    let i = c.loop-index.index in
    let places = c.args.places.now in
    let of = IsValueRow (tables_of c.args.code) (is_in c.args.survivors) in
    record {
      many = ap length c.in_ok-push.ensures.items ∙ length_push rows row ∙ ap (λ n. n + 1) c.loop-index.invariant.many;
      rows = λ k d e more. elim (cases_lt k i) as (λ _. of (get_or places k d) (get_or c.push.new.self.items k e)) [
        | inl less ↦ subst (of (get_or places k d))
            (sym (ap (λ xs. get_or xs k e) c.in_ok-push.ensures.items
            ∙ get_or_append_left rows (row ∷ []) e k (omega (arith, less, c.loop-index.invariant.many))))
            (c.loop-index.invariant.rows k d e less)
        | inr le ↦ subst (λ j. of (get_or places j d) (get_or c.push.new.self.items j e)) (omega (arith, le, more))
            (subst (of (get_or places i d))
            (sym (ap (λ xs. get_or xs i e) c.in_ok-push.ensures.items ∙ get_or_push rows row e i c.loop-index.invariant.many))
            (subst (λ p. of p row) (get_or_default places i _ d (omega arith)) c.in-Some.ensures.value))
      ];
    }

pub returns-clause-rows : goal.returns-clause-rows
returns-clause-rows c = λ k d e lt. c.loop-index.invariant.rows k d e (omega (arith, lt))

pub returns-in_default-clause-refused : goal.returns-in_default-clause-refused
returns-in_default-clause-refused c = (
  c.loop-index-test.true,
  λ d. subst (ExtensionsDiffer (tables_of c.args.code) (is_in c.args.survivors))
      (get_or_default c.args.places.now c.loop-index.index _ d c.loop-index-test.true) c.in_default.ensures.value,
)
