use Rattle.std.proofs.Common.{◌≡◌, ℕ, true}
use Rattle.lrc_code.specs.declared.places.Place.{Place}
use Rattle.stores.specs.Stripes.{has_file}
use Rattle.store_repair.proofs.fewest.only.Given as goal

abbrev pub invariant-loop-place : goal.invariant-loop-place
invariant-loop-place l = (len : ℕ) (p : Place) → has_file l.own.found len p ≡ true → has_file l.files.found len p ≡ true
