-- The equation of a group.
use Rattle.std.specs.Prelude.{ℕ, Bool, true, false, ◌&&◌, Option, Some, List, map, if◌then◌else◌}
use Rattle.lrc_code.specs.declared.places.Place.{Place}
use Rattle.lrc_code.specs.declared.places.Group.{Group}
use Rattle.lrc_code.specs.declared.places.Group.TheVariants as group
use Rattle.lrc_code.specs.Places.{group_of, all_places}
use Rattle.lrc_code.specs.Code.{Code, has_place}

-- the same group
abbrev pub same_group : Option Group → Option Group → Bool
same_group (Some group.X) (Some group.X) = true
same_group (Some group.Y) (Some group.Y) = true
same_group g h = false

-- 1 at the code's places of the group, 0 at the others
abbrev pub group_coefficient : Code → Option Group → Place → ℕ
group_coefficient code g p = if has_place code p && same_group (group_of p) g then 1 else 0

abbrev pub group_row : Code → Option Group → List ℕ
group_row code g = map (group_coefficient code g) all_places
