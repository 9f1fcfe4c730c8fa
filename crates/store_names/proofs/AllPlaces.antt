-- The places, in the order of their indexes.
use Rattle.std.proofs.Common.{◌≡◌, refl, ◌<◌, get_or, lit<}
use Rattle.lrc_code.specs.declared.places.Place.{Place}
use Rattle.lrc_code.specs.declared.places.Place.TheVariants.{X0}
use Rattle.lrc_code.specs.Places.{all_places, index_of}

pub at_index : (place other : Place) → get_or all_places (index_of place) other ≡ place
at_index X0 other = refl
at_index _ other = refl

pub index_below : (place : Place) → index_of place < 16
index_below X0 = lit< tt
index_below _ = lit< tt
