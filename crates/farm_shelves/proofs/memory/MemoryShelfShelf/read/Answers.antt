use Rattle.std.proofs.Common.{◌∙◌, ap, take, option_map}
use Rattle.farm_shelves.proofs.Put.{take_least}
use Rattle.farm_shelves.specs.Files.{Files}
use Rattle.farm_shelves.proofs.memory.MemoryShelfShelf.read.Goals as goal

pub returns-in_default-clause-bytes : goal.returns-in_default-clause-bytes
returns-in_default-clause-bytes c =
    ap (option_map (take c.args.limit)) (c.in_default.ensures ∙ ap (λ (f : Files). f c.args.name.now) c.fails_now.ensures.files)

pub returns-in-Ok-clause-bytes : goal.returns-in-Ok-clause-bytes
returns-in-Ok-clause-bytes c =
    rw (c.in-Ok.ensures.items, c.new-copy.ensures.items, c.min-size.ensures, take_least c.args.limit c.in-Some.bytes.now)
    (ap (option_map (take c.args.limit)) (c.in-Some.ensures ∙ ap (λ (f : Files). f c.args.name.now) c.fails_now.ensures.files))
