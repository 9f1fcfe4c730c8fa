-- What the records of a lane add up to.
use Rattle.std.proofs.Common.{◌≡◌, ◌≢◌, ℕ, List, length, set, subst, ⊎_elim}
use Rattle.std.specs.List.{sum_by}
use mathlib.Core.Option.{some}
use lib.ListN.{get_elem?}
use Rattle.atomic_table.proofs.Lists.{at_set}
use Rattle.farm_lanes.specs.declared.lane.item.Item.{Item}
use Rattle.farm_lanes.specs.declared.lane.rule.EndRecord.{EndRecord}
use Rattle.farm_lanes.specs.LaneRecord.{times_of}
use Rattle.farm_lanes.specs.LaneRule.{lists_of, put_length, put_weight}

module _ {T : Type 0} where
  abbrev pub lists_in : ℕ → EndRecord T → ℕ
  lists_in s v = lists_of s v.puts

  abbrev pub times_in : ℕ → ℕ → EndRecord T → ℕ
  times_in s i v = times_of s i v.taken

  abbrev pub parts_in : EndRecord T → ℕ
  parts_in v = v.parts

  abbrev pub put_in : EndRecord T → ℕ
  put_in v = put_length v.puts

  abbrev pub taken_in : EndRecord T → ℕ
  taken_in v = length v.taken

  abbrev pub put_weight_in : (Item T → ℕ) → EndRecord T → ℕ
  put_weight_in g v = put_weight g v.puts

  abbrev pub taken_weight_in : (Item T → ℕ) → EndRecord T → ℕ
  taken_weight_in g v = sum_by g v.taken

  -- one view changes
  pub each_set : (P : EndRecord T → Type 0) (views : List (EndRecord T)) (id : ℕ) (w : EndRecord T)
      → ((j : ℕ) (u : EndRecord T) → j ≢ id → get_elem? views j ≡ some u → P u) → P w → (j : ℕ) (u : EndRecord T)
      → get_elem? (set views id w) j ≡ some u → P u
  each_set P views id w others mine j u e = ⊎_elim (λ (x : (j ≡ id) × (w ≡ u)). subst P x.1 mine)
      (λ (x : (j ≢ id) × (get_elem? views j ≡ some u)). others j u x.0 x.1) (at_set views id j w u e)
