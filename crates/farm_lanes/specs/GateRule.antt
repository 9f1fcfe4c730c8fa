-- The rule of a gate's word, and what its seat learns from each step.
use Rattle.std.specs.Prelude.{◌≡◌, ℕ, ◌+◌, ◌-◌, ◌<◌, ◌≤◌, [], ◌∷◌, ◌++◌, length, Bool, true, false, All, if◌then◌else◌}
use Rattle.std.specs.List.{sum_by}
use Rattle.atomic_table.specs.Table.{State, Me, Step}
use Rattle.farm_lanes.specs.declared.gate.record.SeatRecord.{SeatRecord}
use Rattle.farm_lanes.specs.declared.gate.record.GateSize.{GateSize}
use Rattle.farm_lanes.specs.GateRecord.{IsLawful, IsSound}
use Rattle.farm_lanes.specs.SeatChanges.{accepted, refused}

-- the word: the number of all draws, and bit 63 once closed
abbrev pub word_of : Bool → ℕ → ℕ
word_of closed draws = if closed then draws + 9223372036854775808 else draws

-- between any two steps the record is lawful, and the word agrees with it
pub record KeepsGate (size : GateSize) (t : State ℕ SeatRecord) : Type 0 where
  pub closed : Bool
  pub n : ℕ
  pub lawful : IsLawful size closed n t.views
  pub word : t.words ≡ word_of closed (sum_by (λ (s : SeatRecord). s.draws) t.views) ∷ []
  pub small : size.total ≤ 4294967296
  pub some_right : 0 < size.rights

-- a close that used up a right which the seat held: it was answered n, or it found the gate closed
abbrev pub closing : SeatRecord → ℕ → SeatRecord
closing s n = record s { held = s.held - 1; used = s.used + 1; knows = true; made = s.made ++ n ∷ [] }

abbrev pub late : SeatRecord → SeatRecord
late s = record s { held = s.held - 1; used = s.used + 1; knows = true }

-- the word that a draw found is its number, or the gate was closed
pub record IsDrawn (size : GateSize) (s : SeatRecord) (found : ℕ) (s' : SeatRecord) : Type 0 where
  pub given : found < 9223372036854775808 → (s' ≡ accepted s found) × (s.knows ≡ false) × All (λ x. x < found) s.numbers
      × (s.share ≡ size.total → found ≡ length s.numbers)
  pub shut : 9223372036854775808 ≤ found → s' ≡ refused s
  pub sound : IsSound size s'

-- the word that a close found is its answer, or the gate was closed
pub record IsClosed (size : GateSize) (s : SeatRecord) (found : ℕ) (s' : SeatRecord) : Type 0 where
  pub given : found < 9223372036854775808 → (s' ≡ closing s found) × (s.knows ≡ false)
  pub shut : 9223372036854775808 ≤ found → s' ≡ late s
  pub sound : IsSound size s'

abbrev pub Draws : GateSize → Step ℕ → Me ℕ SeatRecord → ℕ → Me ℕ SeatRecord → Type 0
Draws size st m found m' = (m'.1 ≡ m.1) × IsDrawn size m.0 found m'.0

abbrev pub Closes : GateSize → Step ℕ → Me ℕ SeatRecord → ℕ → Me ℕ SeatRecord → Type 0
Closes size st m found m' = (m'.1 ≡ m.1) × IsClosed size m.0 found m'.0

-- a step that changes nothing: the record is sound
abbrev pub Looks : GateSize → Step ℕ → Me ℕ SeatRecord → ℕ → Me ℕ SeatRecord → Type 0
Looks size st m found m' = (m' ≡ m) × IsSound size m.0
