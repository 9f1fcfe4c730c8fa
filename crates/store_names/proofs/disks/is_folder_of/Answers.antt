use Rattle.std.proofs.Common.{sym, subst, map, string_bytes}
use Rattle.std.specs.List.{Contains}
use Rattle.store_names.proofs.disks.is_folder_of.Goals as goal

pub returns : goal.returns
returns c =
    let at = λ (t : _). Contains (map string_bytes t) c.args.folder.now in (
      λ is. c.in_ok-folders.ensures.each c.args.folder.now (subst at c.as_slice.ensures.value (c.has.ensures.0 is)),
      λ has. c.has.ensures.1 (subst at (sym c.as_slice.ensures.value) (c.in_ok-folders.ensures.all c.args.folder.now has)),
    )
