use Rattle.std.proofs.Common.{arith, length}
use Rattle.store_folder.proofs.Parts.{part_fits}
use Rattle.store_folder.proofs.digesting.read_eight.Goals as goal

pub overflow_mul-start : goal.overflow_mul-start
overflow_mul-start g c =
    let fits = part_fits c.loop-index.index c.args.size (length c.args.room.now) (omega arith) c.requires.room in omega (arith, fits)

pub overflow_add-start : goal.overflow_add-start
overflow_add-start g c =
    let fits = part_fits c.loop-index.index c.args.size (length c.args.room.now) (omega arith) c.requires.room in omega (arith, fits)

pub slice_bounds-read_one-end : goal.slice_bounds-read_one-end
slice_bounds-read_one-end g c =
    let fits = part_fits c.loop-index.index c.args.size (length c.args.room.now) (omega arith) c.requires.room in omega (arith, fits)
