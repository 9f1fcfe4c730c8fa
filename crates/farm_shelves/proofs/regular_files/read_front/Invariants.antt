use Rattle.std.proofs.Common.{◌≤◌, length, take}
use Rattle.std.specs.Io.KnownBytes.{Consumes}
use Rattle.farm_shelves.proofs.regular_files.read_front.Given as goal

abbrev pub invariant-loop-turn : goal.invariant-loop-turn
invariant-loop-turn g l =
    record {
      got : l.got ≤ length l.bytes.items;
      within : length l.bytes.items ≤ l.limit;
      read : Consumes (g.F.Read.remaining l.fn.file) (g.F.Read.remaining l.file) (take l.got l.bytes.items);
    }
