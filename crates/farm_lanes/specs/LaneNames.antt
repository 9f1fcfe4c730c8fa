-- The lane that a pass, or an end of a queue, belongs to.
use Rattle.std.specs.Prelude.{ℕ}
use Rattle.atomic_table.specs.declared.badge.Badge.{Badge}
use Rattle.crossbeam_channel.specs.Claims.{Pass, view}
use Rattle.crossbeam_channel.specs.declared.flavors.array.Doing.{Doing}
use Rattle.crossbeam_channel.specs.declared.flavors.array.Key.{Key}
use Rattle.crossbeam_channel.specs.declared.flavors.array.Rows.{Rows}
use Rattle.farm_lanes.specs.declared.lane.item.Item.{Item}
use Rattle.farm_lanes.specs.declared.lane.rule.EndRecord.{EndRecord}
use Rattle.farm_lanes.specs.LaneEnds.{LaneName}

module _ {T : Type 0} where
  -- the lane of a pass
  abbrev pub lane_of : Pass (Item T) (EndRecord T) → LaneName T
  lane_of p = record { queue = (p.table_id, p.me.0.of); ends = (view p).ends }

  module _ {Q M L A : Type 0} where
    -- the lane of a queue that has so many ends
    abbrev pub lane_on : Rows (Badge (Key (Item T))) (Doing (Item T) (EndRecord T)) Q M (Key (Item T)) L A → ℕ → LaneName T
    lane_on c ends = record { queue = (c.stamps.shared.table_id, c.stamps.shared.key); ends = ends }
