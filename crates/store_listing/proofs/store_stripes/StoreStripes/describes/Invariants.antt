use Rattle.std.proofs.Common.{◌≡◌, ◌<◌, true}
use Rattle.lrc_code.specs.declared.places.Place.{Place}
use Rattle.lrc_code.specs.Places.{index_of}
use Rattle.store_listing.specs.Stripes.{IsDescriptionOf, at_place}
use Rattle.store_listing.specs.Votes.{is_there}
use Rattle.store_listing.proofs.store_stripes.StoreStripes.describes.Given as goal

-- what is at the places before this one has names of descriptions
abbrev pub invariant-loop-index : goal.invariant-loop-index
invariant-loop-index l = (p : Place) → index_of p < l.index → is_there (at_place l.files.found p) ≡ true
    → IsDescriptionOf l.self.described l.pattern l.code l.name p
