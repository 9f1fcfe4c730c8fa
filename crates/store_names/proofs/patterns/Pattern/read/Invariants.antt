use Rattle.std.proofs.Common.{ℕ, ◌<◌, List}
use Rattle.lrc_code.specs.declared.places.Place.{Place}
use Rattle.lrc_code.specs.Places.{index_of}
use Rattle.store_names.specs.Names.{IsMade}
use Rattle.store_names.proofs.patterns.Pattern.read.Given as goal

-- of no place before this one is the name
abbrev pub invariant-loop-place : goal.invariant-loop-place
invariant-loop-place l = (place : Place) (stripe : List ℕ) → index_of place < l.place-index → ¬ IsMade l.self l.code stripe place l.name
