use Rattle.std.proofs.Common.{◌≡◌, ◌≢◌, true, arith, slice_index}
use Rattle.std.specs.Option.{option_map}
use Rattle.lrc_code.specs.Places.{index_of}
use Rattle.lrc_code.proofs.PlaceSums.{at_places}
use Rattle.lrc_plan.specs.Sums.{some_leaf}
use Rattle.lrc_plan.specs.Tree.{form_of}
use Rattle.lrc_plan.proofs.RowLemmas.{some_leaves}
use Rattle.lrc_plan.proofs.plans.planning.tree_of.Goals as goal

pub returns : goal.returns
returns g c = record {
  means = c.in_ok-tree.ensures.value;
  leaves = λ p l. some_leaves form_of c.in_ok-tree.tree (λ q. slice_index c.args.row.now (index_of q) ≢ 0) c.in_ok-tree.ensures.leaves p l;
  all = λ p n. at_places (λ q. slice_index c.args.row.now (index_of q) ≢ 0 → some_leaf (option_map form_of c.in_ok-tree.tree) q ≡ true)
      c.in_ok-tree.ensures.all p n;
  total = c.in_ok-tree.ensures.total;
  shallow = omega (arith, c.in_ok-tree.ensures.depth);
}
