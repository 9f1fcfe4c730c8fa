use Rattle.std.proofs.Common.{◌∙◌, ap}
use Rattle.farm_shelves.proofs.Put.{put_or_not}
use Rattle.farm_shelves.specs.Files.{Files}
use Rattle.farm_shelves.specs.Memory.{files_of}
use Rattle.farm_shelves.proofs.memory.MemoryShelfShelf.write.Goals as goal

pub returns-then-fails_now-clause-written : goal.returns-then-fails_now-clause-written
returns-then-fails_now-clause-written c = λ other apart.
    ap (λ (f : Files). f other) c.fails_now.ensures.files
    ∙ put_or_not _ (files_of c.args.self.now) (files_of c.place.new.self) c.args.name.now _ other c.place.ensures.ok c.place.ensures.err
    apart
