-- The parts of a request as they are written: place names and numbers.
use Rattle.std.specs.Prelude.{nat_le, nat_lt, ◌&&◌, ◌==◌, Bool, ℕ, List, [], ◌∷◌, length, find, Option, Some, None, option_map}
use Rattle.std.specs.Prelude.{option_and_then, if◌then◌else◌}
use Rattle.std.specs.List.{list_all}
use Rattle.std.specs.Str.{bytes_eq}
use Rattle.std.specs.Str.Parse.{digits_value}
use Rattle.lrc_code.specs.declared.places.Place.{Place}
use Rattle.lrc_code.specs.Places.{name_of}
use Rattle.lrc_code.specs.Code.{Code}

-- the place of the code that bears this name
abbrev pub place_named : Code → List ℕ → Option Place
place_named code text = find (λ p. bytes_eq (name_of p) text) code.places

-- a space
abbrev pub is_space : ℕ → Bool
is_space b = b == 32

-- 0 to 9
abbrev pub is_digit : ℕ → Bool
is_digit b = nat_le 48 b && nat_le b 57

-- one to seven decimal digits, as a number
abbrev pub number : List ℕ → Option ℕ
number text = if list_all is_digit text && (nat_lt 0 (length text) && nat_le (length text) 7) then Some (digits_value 10 text) else None

-- every member, where each one is there
abbrev pub every : {A : Type 0} → List (Option A) → Option (List A)
every [] = Some []
every (x ∷ xs) = option_and_then (λ a. option_map (λ rest. a ∷ rest) (every xs)) x
