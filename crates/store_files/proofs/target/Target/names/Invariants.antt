use Rattle.std.proofs.Common.{◌≤◌, ◌-◌, length, vec_len}
use Rattle.store_files.proofs.target.Target.names.Given as goal

abbrev pub invariant-names : goal.invariant-names
invariant-names l = vec_len l.names ≤ length l.places

abbrev pub decreases-names : goal.decreases-names
decreases-names l = length l.places - vec_len l.names
