use Rattle.std.proofs.Common.{◌∙◌, sym}
use Rattle.store_names.proofs.Folders.{texts_same}
use Rattle.store_names.proofs.disks.are_same.Goals as goal

pub returns : goal.returns
returns c =
    let same = texts_same c.args.folders.now c.args.others.now in
    (λ so. same.0 (sym c.eq.ensures ∙ so), λ is. c.eq.ensures ∙ same.1 is)
