use Rattle.std.proofs.Common.{◌++◌, ◌∷◌, [], map, sym, subst}
use Rattle.std.specs.Option.{option_map}
use Rattle.std.proofs.lemmas.List.{map-append}
use Rattle.lrc_plan.specs.RowTrees.{AreRowTrees, IsRowTree}
use Rattle.lrc_plan.specs.Tree.{form_of}
use Rattle.lrc_plan.proofs.RowTrees.{more_trees, same_trees}
use Rattle.lrc_plan.proofs.plans.planning.push_tree.Goals as goal

pub returns-in_ok-push : goal.returns-in_ok-push
returns-in_ok-push g c = λ rows all.
    let row = c.args.row.now in
    let one = subst (λ o. IsRowTree row (option_map form_of o)) c.in-Some.is c.in_ok-tree.ensures in
    subst (λ xs. AreRowTrees (rows ++ row ∷ []) (map form_of xs)) (sym c.in_ok-push.ensures.items)
    (subst (AreRowTrees (rows ++ row ∷ [])) (sym (map-append form_of c.args.checks.now.items (c.in-Some.tree ∷ [])))
    (more_trees rows (map form_of c.args.checks.now.items) row (form_of c.in-Some.tree) all one))

pub returns-in_default : goal.returns-in_default
returns-in_default g c = λ rows all.
    let row = c.args.row.now in
    let none = subst (λ o. IsRowTree row (option_map form_of o)) c.in_default.is c.in_ok-tree.ensures in
    same_trees rows (map form_of c.args.checks.now.items) row all none
