-- A set's flags, one for each place.
use Rattle.std.proofs.Common.{◌≡◌, List, [], ◌∷◌, Bool, length, refl, arith}
use Rattle.std.specs.List.{count_by}
use Rattle.lrc_code.specs.Places.{all_places}
use Rattle.lrc_code.specs.Sets.{is_in}

-- as many flags are set as places are in the set
pub flags_counted : (flags : List Bool) → length flags ≡ 16 → count_by (λ b. b) flags ≡ count_by (is_in flags) all_places
flags_counted ([]) sixteen = absurd (omega arith)
flags_counted (x0 ∷ []) sixteen = absurd (omega arith)
flags_counted (x0 ∷ x1 ∷ []) sixteen = absurd (omega arith)
flags_counted (x0 ∷ x1 ∷ x2 ∷ []) sixteen = absurd (omega arith)
flags_counted (x0 ∷ x1 ∷ x2 ∷ x3 ∷ []) sixteen = absurd (omega arith)
flags_counted (x0 ∷ x1 ∷ x2 ∷ x3 ∷ x4 ∷ []) sixteen = absurd (omega arith)
flags_counted (x0 ∷ x1 ∷ x2 ∷ x3 ∷ x4 ∷ x5 ∷ []) sixteen = absurd (omega arith)
flags_counted (x0 ∷ x1 ∷ x2 ∷ x3 ∷ x4 ∷ x5 ∷ x6 ∷ []) sixteen = absurd (omega arith)
flags_counted (x0 ∷ x1 ∷ x2 ∷ x3 ∷ x4 ∷ x5 ∷ x6 ∷ x7 ∷ []) sixteen = absurd (omega arith)
flags_counted (x0 ∷ x1 ∷ x2 ∷ x3 ∷ x4 ∷ x5 ∷ x6 ∷ x7 ∷ x8 ∷ []) sixteen = absurd (omega arith)
flags_counted (x0 ∷ x1 ∷ x2 ∷ x3 ∷ x4 ∷ x5 ∷ x6 ∷ x7 ∷ x8 ∷ x9 ∷ []) sixteen = absurd (omega arith)
flags_counted (x0 ∷ x1 ∷ x2 ∷ x3 ∷ x4 ∷ x5 ∷ x6 ∷ x7 ∷ x8 ∷ x9 ∷ x10 ∷ []) sixteen = absurd (omega arith)
flags_counted (x0 ∷ x1 ∷ x2 ∷ x3 ∷ x4 ∷ x5 ∷ x6 ∷ x7 ∷ x8 ∷ x9 ∷ x10 ∷ x11 ∷ []) sixteen = absurd (omega arith)
flags_counted (x0 ∷ x1 ∷ x2 ∷ x3 ∷ x4 ∷ x5 ∷ x6 ∷ x7 ∷ x8 ∷ x9 ∷ x10 ∷ x11 ∷ x12 ∷ []) sixteen = absurd (omega arith)
flags_counted (x0 ∷ x1 ∷ x2 ∷ x3 ∷ x4 ∷ x5 ∷ x6 ∷ x7 ∷ x8 ∷ x9 ∷ x10 ∷ x11 ∷ x12 ∷ x13 ∷ []) sixteen = absurd (omega arith)
flags_counted (x0 ∷ x1 ∷ x2 ∷ x3 ∷ x4 ∷ x5 ∷ x6 ∷ x7 ∷ x8 ∷ x9 ∷ x10 ∷ x11 ∷ x12 ∷ x13 ∷ x14 ∷ []) sixteen = absurd (omega arith)
flags_counted (x0 ∷ x1 ∷ x2 ∷ x3 ∷ x4 ∷ x5 ∷ x6 ∷ x7 ∷ x8 ∷ x9 ∷ x10 ∷ x11 ∷ x12 ∷ x13 ∷ x14 ∷ x15 ∷ []) sixteen = refl
flags_counted (x0 ∷ x1 ∷ x2 ∷ x3 ∷ x4 ∷ x5 ∷ x6 ∷ x7 ∷ x8 ∷ x9 ∷ x10 ∷ x11 ∷ x12 ∷ x13 ∷ x14 ∷ x15 ∷ x16 ∷ xs) sixteen =
    absurd (omega arith)
