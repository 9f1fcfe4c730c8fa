-- How many survivors lists name together, and how many answers there are, at most.
use Rattle.std.specs.Prelude.{ℕ}

-- so many survivors the lists of a rack name together, at most
abbrev pub rack_survivors : ℕ
rack_survivors = 245760

-- so many the lists of all racks
abbrev pub all_survivors : ℕ
all_survivors = 3932160

-- the answers to a rack
abbrev pub rack_answers : ℕ
rack_answers = 16384
