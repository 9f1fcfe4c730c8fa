-- Of which code stripes are by what is at their places, and which code the votes of many say.
use Rattle.std.specs.Prelude.{◌+◌, ◌-◌, ◌^◌, ◌<◌, ◌≤◌, ◌/◌, ◌⊎◌, ◌&&◌, ◌==◌, ℕ, Bool, List, false, true}
use Rattle.std.specs.Prelude.{count_by, if◌then◌else◌, min, nat_le, nat_lt, slice_index_or}
use Rattle.lrc_code.specs.declared.codes.Code.{Code as CodeName}
use Rattle.lrc_code.specs.declared.codes.Code.TheVariants.{Narrow, Wide}
use Rattle.lrc_code.specs.declared.places.Place.{Place}
use Rattle.lrc_code.specs.Code.{has_place}
use Rattle.lrc_code.specs.Codes.{tables_of}
use Rattle.lrc_code.specs.Places.{index_of}
use Rattle.stores.specs.declared.stripes.Found.{Found as FoundName}
use Rattle.stores.specs.declared.stripes.Found.TheVariants as found
use Rattle.stores.specs.declared.stripes.StripeFiles.{StripeFiles as StripeFilesName}
use Rattle.store_listing.specs.declared.votes.Votes.{Votes}

-- whether something was found
abbrev pub is_there : FoundName → Bool
is_there found.Absent = false
is_there (found.File length) = true
is_there found.Dangling = true
is_there found.Other = true
is_there (found.Unknown code) = true

-- at how many places of a code something was found; what was found is listed by the places' indexes
abbrev pub there_count : CodeName → List FoundName → ℕ
there_count code files = count_by (λ p. is_there (slice_index_or files (index_of p) found.Absent)) (tables_of code).places

-- the code that is not this one
abbrev pub other_code : CodeName → CodeName
other_code Narrow = Wide
other_code Wide = Narrow

-- how many votes a code has
abbrev pub votes_of : Votes → CodeName → ℕ
votes_of votes Narrow = votes.narrow
votes_of votes Wide = votes.wide

-- with one more vote for a code, of as many as can be counted
abbrev pub voted : CodeName → Votes → Votes
voted Narrow votes = record votes { narrow = min (votes.narrow + 1) (2 ^ 64 - 1) }
voted Wide votes = record votes { wide = min (votes.wide + 1) (2 ^ 64 - 1) }

-- the code for which a fragment at a place is, that sums name
abbrev pub code_of_place : Place → CodeName
code_of_place place = if has_place (tables_of Narrow) place then Narrow else Wide

-- The places of 6-2-2 are places of 12-2-2 too.
-- the code that files at places say: 12-2-2 if one is at a place that 6-2-2 hasn't, 6-2-2 if all ten of it have one, and else this code
abbrev pub code_said : CodeName → List FoundName → CodeName
code_said doubtful files = if nat_lt (there_count Narrow files) (there_count Wide files) then Wide
    else (if there_count Narrow files == 10 then Narrow else doubtful)

-- whether a code is this one
abbrev pub is_code : CodeName → CodeName → Bool
is_code Narrow Narrow = true
is_code Narrow Wide = false
is_code Wide Narrow = false
is_code Wide Wide = true

-- whether files are a stripe, and say a code
abbrev pub says : CodeName → CodeName → StripeFilesName → Bool
says code doubtful files = nat_le 2 (there_count Wide files.found) && is_code code (code_said doubtful files.found)

-- how many stripes say each code
abbrev pub placed_votes : CodeName → List StripeFilesName → Votes
placed_votes doubtful stripes = record { narrow = count_by (says Narrow doubtful) stripes; wide = count_by (says Wide doubtful) stripes }

-- Without descriptions a store is one of 12-2-2 if at least half of its stripes have a place of that code alone, or a fifth of the
-- fragments that sums name.
abbrev pub SayWide : Votes → Votes → Type 0
SayWide by_places by_sums = ((0 < by_places.wide) × (by_places.narrow ≤ by_places.wide)) ⊎ (by_sums.narrow / 4 < by_sums.wide)
