use Rattle.std.proofs.Common.{◌≡◌, subst, true}
use Rattle.stores.specs.Stripes.{has_file}
use Rattle.store_repair.proofs.AccountedLemmas.{still_file}
use Rattle.store_repair.proofs.fewest.only.Goals as goal
use Rattle.store_repair.proofs.fewest.only.Goals.{then-not-has, else-not-has}

pub loop-place-preserved : goal.loop-place-preserved
loop-place-preserved c = λ len p is. elim c.if-not-has.branch as (λ _. has_file c.args.files.now.found len p ≡ true) [
  | then-not-has w ↦ c.loop-place.invariant len p
      (still_file c.loop-place.own.found _ len p (subst (λ own. has_file own.found len p ≡ true) w.own-is is))
  | else-not-has w ↦ c.loop-place.invariant len p (subst (λ own. has_file own.found len p ≡ true) w.own-is is)
]
