use Rattle.std.proofs.Common.{◌≡◌, ◌++◌, filter, map, take}
use Rattle.lrc_code.specs.Places.{all_places}
use Rattle.store_listing.specs.Names.{at_places, named}
use Rattle.store_listing.specs.Stripes.{is_alone}
use Rattle.store_listing.proofs.store_stripes.StoreStripes.leave_alone.Given as goal

-- the files at the places before this one that are alone were added, and nothing else
abbrev pub invariant-loop-index : goal.invariant-loop-index
invariant-loop-index l = (map named l.self.alone.items ≡ map named l.fn.self.alone.items
    ++ at_places l.name (filter (is_alone l.is_stripe l.code l.files.found) (take l.index all_places)))
    × (l.self.files ≡ l.fn.self.files) × (l.self.described ≡ l.fn.self.described)
