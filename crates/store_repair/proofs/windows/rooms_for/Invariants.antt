use Rattle.std.proofs.Common.{◌≤◌, ◌-◌, vec_len}
use Rattle.store_repair.proofs.windows.rooms_for.Given as goal

abbrev pub invariant-rooms : goal.invariant-rooms
invariant-rooms l = vec_len l.rooms ≤ l.many

abbrev pub decreases-rooms : goal.decreases-rooms
decreases-rooms l = l.many - vec_len l.rooms
