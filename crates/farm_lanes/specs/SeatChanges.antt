-- What each call changes in a seat's record.
use Rattle.std.specs.Prelude.{ℕ, ◌+◌, ◌-◌, ◌||◌, [], ◌∷◌, ◌++◌, Bool, true}
use Rattle.farm_lanes.specs.declared.gate.record.SeatRecord.{SeatRecord}

-- a record of which nothing was done yet
abbrev pub fresh : ℕ → ℕ → Bool → SeatRecord
fresh share held knows = record { share = share; draws = 0; numbers = []; held = held; used = 0; knows = knows; made = [] }

-- a draw that was given n
abbrev pub accepted : SeatRecord → ℕ → SeatRecord
accepted s n = record s { draws = s.draws + 1; numbers = s.numbers ++ n ∷ [] }

-- a draw that found the gate closed
abbrev pub refused : SeatRecord → SeatRecord
refused s = record s { draws = s.draws + 1; knows = true }

-- a close with a right of its own, which was answered n
abbrev pub made_close : SeatRecord → ℕ → SeatRecord
made_close s n = record s { used = s.used + 1; knows = true; made = s.made ++ n ∷ [] }

-- a close with a right of its own, which found the gate closed
abbrev pub missed_close : SeatRecord → SeatRecord
missed_close s = record s { used = s.used + 1; knows = true }

-- a part of the share was given away
abbrev pub given_away : SeatRecord → ℕ → SeatRecord
given_away s share = record s { share = s.share - share }

-- the seat that was given this part
abbrev pub given : SeatRecord → ℕ → SeatRecord
given s share = fresh share 0 s.knows

-- a part of the share and of the rights moved over
abbrev pub without : SeatRecord → ℕ → ℕ → SeatRecord
without s share held = record s { share = s.share - share; held = s.held - held }

-- two seats became one
abbrev pub joined : SeatRecord → SeatRecord → SeatRecord
joined s t = record {
  share = s.share + t.share;
  draws = s.draws + t.draws;
  numbers = s.numbers ++ t.numbers;
  held = s.held + t.held;
  used = s.used + t.used;
  knows = s.knows || t.knows;
  made = s.made ++ t.made;
}
