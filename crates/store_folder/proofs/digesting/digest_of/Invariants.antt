use Rattle.std.proofs.Common.{◌≡◌, ◌≤◌, ◌-◌, length}
use Rattle.store_folder.proofs.digesting.digest_of.Given as goal

abbrev pub invariant-reads : goal.invariant-reads
invariant-reads g l =
    record { within : l.from ≤ l.length; block : length l.block.items ≡ length l.initial.block.items }

abbrev pub decreases-reads : goal.decreases-reads
decreases-reads g l = l.length - l.from
