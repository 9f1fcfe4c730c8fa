-- The values among items.
use Rattle.std.proofs.Common.{◌≡◌, List, [], ◌∷◌, ◌++◌, refl, ap}
use Rattle.farm_lanes.specs.declared.lane.item.Item.{Item}
use Rattle.farm_lanes.specs.declared.lane.item.Item.TheVariants.{Value, End}
use Rattle.farm_lanes.specs.LaneRecord.{values}

module _ {T : Type 0} where
  pub values-append : (xs ys : List (Item T)) → values (xs ++ ys) ≡ values xs ++ values ys
  values-append [] ys = refl
  values-append (Value s i v ∷ xs) ys = ap (λ l. v ∷ l) (values-append xs ys)
  values-append (End s i ∷ xs) ys = values-append xs ys
