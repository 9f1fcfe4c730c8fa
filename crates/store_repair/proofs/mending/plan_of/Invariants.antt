use Rattle.std.proofs.Common.{◌≡◌, ◌<◌, ℕ, List, get_or, length}
use Rattle.lrc_code.specs.declared.places.Place.{Place}
use Rattle.lrc_code.specs.Codes.{tables_of}
use Rattle.lrc_code.specs.Sets.{is_in}
use Rattle.lrc_plan.specs.RowPlans.{IsValueRow}
use Rattle.store_repair.proofs.mending.plan_of.Given as goal

abbrev pub invariant-loop-index : goal.invariant-loop-index
invariant-loop-index l = record {
  many : length l.rows.items ≡ l.index;
  rows : (k : ℕ) (d : Place) (e : List ℕ) → k < l.index
      → IsValueRow (tables_of l.code) (is_in l.survivors) (get_or l.places k d) (get_or l.rows.items k e);
}
