use Rattle.std.proofs.Common.{◌≡◌, length}
use Rattle.farm_threads.specs.Jobs.{HasPutStops}
use Rattle.farm_core.proofs.threads.all.put_stops.Given as goal

-- nothing was put so far that asks for a reply
abbrev pub invariant-loop : goal.invariant-loop
invariant-loop g l = HasPutStops l.fn.stops l.stops × (length l.stops.put ≡ l.counter)
