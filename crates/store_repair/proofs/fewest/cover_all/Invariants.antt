use Rattle.std.proofs.Common.{◌<◌, ℕ, get_or}
use Rattle.lrc_code.specs.declared.places.Place.{Place}
use Rattle.lrc_code.specs.Sets.{is_in}
use Rattle.store_repair.specs.Losses.{IsCovered}
use Rattle.store_repair.proofs.fewest.cover_all.Given as goal

abbrev pub invariant-loop-place : goal.invariant-loop-place
invariant-loop-place l = (k : ℕ) (d : Place) → k < l.place-index → IsCovered l.code (is_in l.survivors) (get_or l.places k d)
