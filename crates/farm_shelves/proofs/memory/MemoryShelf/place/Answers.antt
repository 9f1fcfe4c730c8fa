use Rattle.std.proofs.Common.{string_bytes}
use Rattle.farm_shelves.proofs.Put.{put_by_updates}
use Rattle.farm_shelves.proofs.memory.MemoryShelf.place.Goals as goal

pub returns-in-Ok-clause-ok : goal.returns-in-Ok-clause-ok
returns-in-Ok-clause-ok c =
    rw (c.in_ok-key.ensures.ok, c.in_ok-extend_from_slice.ensures.items, c.new-copy.ensures.items) at
    (put_by_updates (string_bytes c.in_ok-key.key) c.args.self.now.stored c.insert.new.self c.extend_from_slice.new.self
    c.in-Ok.ensures.updates)
