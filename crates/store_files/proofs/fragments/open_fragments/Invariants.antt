use Rattle.std.proofs.Common.{◌≤◌, ◌-◌, vec_len}
use Rattle.store_files.proofs.fragments.open_fragments.Given as goal

abbrev pub invariant-places : goal.invariant-places
invariant-places l = vec_len l.opened ≤ 16

abbrev pub decreases-places : goal.decreases-places
decreases-places l = 16 - vec_len l.opened
