use Rattle.std.proofs.Common.{◌<◌, All, length}
use Rattle.farm_reports.proofs.grains.places_by_length.Given as goal

abbrev pub invariant-loop-place : goal.invariant-loop-place
invariant-loop-place l = All (λ place. place < length l.fragments) l.places.items
