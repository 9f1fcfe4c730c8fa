use Rattle.std.proofs.Common.{◌≡◌, ◌≢◌, ◌≤◌, ◌+◌, ◌<◌, ◌∙◌, rules, true, false, length, get_or, slice_index, sym, ap, subst, arith, All}
use Rattle.std.proofs.Common.{refl}
use Rattle.std.proofs.lemmas.List.Elements.{All-cons, All-nil}
use Rattle.std.specs.Option.{option_map}
use Rattle.lrc_code.specs.declared.places.Place.TheVariants.{X0}
use Rattle.lrc_code.specs.Places.{index_of}
use Rattle.lrc_code.specs.Sums.{sum_over}
use Rattle.lrc_field.specs.Field.{times}
use Rattle.lrc_plan.specs.Sums.{some_leaf, some_depth, some_leaf_total, sum_meaning, terms}
use Rattle.lrc_plan.specs.Tree.{form_of}
use Rattle.lrc_plan.proofs.RowLemmas.{read, first_terms, first_nonzero, skip_value, skip_total, sum_value, sum_depth, sum_total, fewer}
use Rattle.lrc_plan.proofs.RowLemmas.{row_leaves, row_all, no_terms, rest_of}
use Rattle.lrc_plan.proofs.plans.products.+row_tree.Goals as goal

pub row_tree-requires : goal.row_tree-requires
row_tree-requires g t c κs within =
    let less : length (rest_of c.from_first_term.result.now) < length c.args.places.now =
    fewer c.args.row.now c.args.places.now c.from_first_term.result.now c.from_first_term.ensures (omega arith) in
    search (rules, less)

pub returns-in-empty-clause-value : goal.returns-in-empty-clause-value
returns-in-empty-clause-value g t c = λ b h.
    no_terms c.args.row.now (λ qs. 0 ≡ sum_over qs (λ q. times (slice_index c.args.row.now (index_of q)) (b q)))
    (skip_value c.args.row.now b 0) c.args.places.now c.from_first_term.result.now c.from_first_term.ensures (omega arith) refl

pub returns-in-empty-clause-none : goal.returns-in-empty-clause-none
returns-in-empty-clause-none g t c = λ n.
    no_terms c.args.row.now (All (λ p. slice_index c.args.row.now (index_of p) ≡ 0))
    (λ p qs z h. All-cons (λ p. slice_index c.args.row.now (index_of p) ≡ 0) p qs z h) c.args.places.now c.from_first_term.result.now
    c.from_first_term.ensures (omega arith) (All-nil (λ p. slice_index c.args.row.now (index_of p) ≡ 0))

pub returns-in-empty-clause-all : goal.returns-in-empty-clause-all
returns-in-empty-clause-all g t c =
    no_terms c.args.row.now (All (λ p. slice_index c.args.row.now (index_of p) ≢ 0 → false ≡ true))
    (λ p qs z h. All-cons (λ p. slice_index c.args.row.now (index_of p) ≢ 0 → false ≡ true) p qs (λ n. absurd (n z)) h) c.args.places.now
    c.from_first_term.result.now c.from_first_term.ensures (omega arith)
    (All-nil (λ p. slice_index c.args.row.now (index_of p) ≢ 0 → false ≡ true))

pub returns-in-empty-clause-total : goal.returns-in-empty-clause-total
returns-in-empty-clause-total g t c =
    no_terms c.args.row.now (λ qs. 0 ≡ terms c.args.row.now qs)
    (skip_total c.args.row.now 0) c.args.places.now c.from_first_term.result.now c.from_first_term.ensures (omega arith) refl

pub returns-in_ok-sum-in-len1-up-clause-value : goal.returns-in_ok-sum-in-len1-up-clause-value
returns-in_ok-sum-in-len1-up-clause-value g t c = λ b h.
    first_terms c.args.row.now (λ qs. sum_meaning b (option_map form_of c.in_ok-sum-in-len1-up.sum)
    ≡ sum_over qs (λ q. times (slice_index c.args.row.now (index_of q)) (b q)))
    (skip_value c.args.row.now b _) c.args.places.now
    (subst (λ qs. sum_meaning b (option_map form_of c.in_ok-sum-in-len1-up.sum)
    ≡ sum_over qs (λ q. times (slice_index c.args.row.now (index_of q)) (b q))) c.from_first_term.ensures
    (sum_value c.from_first_term.result.now c.args.row.now b c.index.result
    (get_or c.args.row.now c.index.result c.index-row-index.result) _ _ _ (omega arith) c.index.ensures.value
    (read c.args.row.now c.index.result c.index-row-index.result _ (omega arith) refl) (c.in_ok-own-in-len1-up.ensures.value b h)
    (c.in_ok-others-in-len1-up.ensures.value b h) (c.in_ok-sum-in-len1-up.ensures.value b)))

pub returns-in_ok-sum-in-len1-up-clause-depth : goal.returns-in_ok-sum-in-len1-up-clause-depth
returns-in_ok-sum-in-len1-up-clause-depth g t c =
    first_terms c.args.row.now (λ qs. some_depth (option_map form_of c.in_ok-sum-in-len1-up.sum) ≤ length qs + 2)
    (λ p qs z h. omega (arith, h)) c.args.places.now
    (subst (λ qs. some_depth (option_map form_of c.in_ok-sum-in-len1-up.sum) ≤ length qs + 2) c.from_first_term.ensures
    (sum_depth c.from_first_term.result.now _ _ _ (omega arith) c.in_ok-own-in-len1-up.ensures.depth c.in_ok-others-in-len1-up.ensures.depth
    c.in_ok-sum-in-len1-up.ensures.depth))

pub returns-in_ok-sum-in-len1-up-clause-leaves : goal.returns-in_ok-sum-in-len1-up-clause-leaves
returns-in_ok-sum-in-len1-up-clause-leaves g t c =
    let scalar = read c.args.row.now c.index.result c.index-row-index.result _ (omega arith) c.index-row-index.is in
    row_leaves form_of _ _ c.in_ok-own-in-len1-up.own (get_or c.from_first_term.result.now 0 X0) c.args.row.now
    c.index.result c.index-row-index.result
    c.in_ok-sum-in-len1-up.ensures.leaves c.in_ok-own-in-len1-up.ensures.leaf c.index.ensures.value
    scalar
    (λ z. subst (λ ts. slice_index c.args.row.now (index_of (get_or ts 0 X0)) ≢ 0) (sym c.from_first_term.ensures)
    (first_nonzero c.args.row.now c.args.places.now (subst (λ ts. 1 ≤ length ts) c.from_first_term.ensures (omega arith)))
    (sym (scalar ∙ ap (λ n. get_or c.args.row.now n 0) c.index.ensures.value) ∙ z)) c.in_ok-others-in-len1-up.ensures.leaves

pub returns-in_ok-sum-in-len1-up-clause-all : goal.returns-in_ok-sum-in-len1-up-clause-all
returns-in_ok-sum-in-len1-up-clause-all g t c =
    first_terms c.args.row.now (All (λ p. slice_index c.args.row.now (index_of p) ≢ 0
    → some_leaf (option_map form_of c.in_ok-sum-in-len1-up.sum) p ≡ true))
    (λ p qs z h. All-cons (λ p. slice_index c.args.row.now (index_of p) ≢ 0
    → some_leaf (option_map form_of c.in_ok-sum-in-len1-up.sum) p ≡ true) p qs (λ n. absurd (n z)) h) c.args.places.now
    (subst (All (λ p. slice_index c.args.row.now (index_of p) ≢ 0
    → some_leaf (option_map form_of c.in_ok-sum-in-len1-up.sum) p ≡ true)) c.from_first_term.ensures
    (row_all form_of c.in_ok-sum-in-len1-up.sum c.in_ok-others-in-len1-up.others c.in_ok-own-in-len1-up.own c.from_first_term.result.now
    c.args.row.now (omega arith)
    c.in_ok-sum-in-len1-up.ensures.some c.in_ok-sum-in-len1-up.ensures.leaves c.in_ok-own-in-len1-up.ensures.own
    c.in_ok-others-in-len1-up.ensures.all))

pub returns-in_ok-sum-in-len1-up-clause-total : goal.returns-in_ok-sum-in-len1-up-clause-total
returns-in_ok-sum-in-len1-up-clause-total g t c =
    first_terms c.args.row.now (λ qs. some_leaf_total (option_map form_of c.in_ok-sum-in-len1-up.sum) ≡ terms c.args.row.now qs)
    (skip_total c.args.row.now _) c.args.places.now
    (subst (λ qs. some_leaf_total (option_map form_of c.in_ok-sum-in-len1-up.sum) ≡ terms c.args.row.now qs) c.from_first_term.ensures
    (sum_total c.from_first_term.result.now c.args.row.now _ _ _ (omega arith)
    (subst (λ ts. slice_index c.args.row.now (index_of (get_or ts 0 X0)) ≢ 0) (sym c.from_first_term.ensures)
    (first_nonzero c.args.row.now c.args.places.now (subst (λ ts. 1 ≤ length ts) c.from_first_term.ensures (omega arith))))
    c.in_ok-own-in-len1-up.ensures.total c.in_ok-others-in-len1-up.ensures.total c.in_ok-sum-in-len1-up.ensures.total))
