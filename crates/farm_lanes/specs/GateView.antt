-- What a contract sees of a gate and of a seat.
use Rattle.std.specs.Prelude.{ℕ, ◌<◌, ◌≤◌, List, [], ◌∷◌, Option, None, Some, false, max}
use Rattle.atomic_table.specs.Seated.{TableId}
use Rattle.farm_lanes.specs.declared.gate.record.SeatRecord.{SeatRecord}
use Rattle.farm_lanes.specs.declared.gate.record.GateSize.{GateSize}
use Rattle.farm_lanes.specs.SeatChanges.{fresh}

-- what tells a gate from others: its word's name
abbrev pub GateId : Type 0
GateId = TableId

-- a gate: its id, and its size
pub record GateName : Type 0 where
  pub id : GateId
  pub size : GateSize

-- a seat: the gate that it belongs to, and its record
pub record SeatView : Type 0 where
  pub gate : GateId
  pub has : SeatRecord

-- a seat of a new gate
abbrev pub opened : GateId → ℕ → SeatView
opened id share = record { gate = id; has = fresh share 0 false }

-- the greater of two numbers that may be there
abbrev pub greater_of : Option ℕ → Option ℕ → Option ℕ
greater_of None b = b
greater_of (Some x) None = Some x
greater_of (Some x) (Some y) = Some (max x y)

-- the greatest number of a list
abbrev pub greatest : List ℕ → Option ℕ
greatest [] = None
greatest (x ∷ xs) = greater_of (Some x) (greatest xs)

-- how many seats, and how many rights, a gate may be opened with
abbrev pub IsSeatCount : ℕ → Type 0
IsSeatCount k = (0 < k) × (k ≤ 16)

abbrev pub IsRightCount : ℕ → Type 0
IsRightCount k = (0 < k) × (k ≤ 16)
