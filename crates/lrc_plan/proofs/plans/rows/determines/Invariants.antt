use Rattle.std.proofs.Common.{◌≡◌, ◌<◌, ℕ, false, slice_index, slice_index_or}
use Rattle.lrc_code.specs.declared.places.Place.{Place}
use Rattle.lrc_code.specs.Sets.{is_in}
use Rattle.lrc_code.specs.Places.{index_of, same_place}
use Rattle.lrc_plan.proofs.plans.rows.determines.Given as goal

abbrev pub invariant-loop-place : goal.invariant-loop-place
invariant-loop-place l =
    (k : ℕ) (d : Place) → k < l.place-index → is_in l.survivors (slice_index_or l.places k d) ≡ false
    → same_place l.target (slice_index_or l.places k d) ≡ false
    → slice_index l.row (index_of (slice_index_or l.places k d)) ≡ 0
