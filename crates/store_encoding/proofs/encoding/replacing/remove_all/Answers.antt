use Rattle.std.proofs.Common.{ap, refl, ℕ, List, Bor}
use Rattle.store_folder.proofs.Written.{puts_after}
use Rattle.store_encoding.specs.Replaced.{Goes}
use Rattle.store_encoding.proofs.Taken.{descriptions_go, fragments_go}
use Rattle.store_encoding.proofs.encoding.replacing.remove_all.Goals as goal

pub returns-in_err-remove_names : goal.returns-in_err-remove_names
returns-in_err-remove_names g c = descriptions_go c.args.target.now.folder.now c.args.begun.now c.args.target.now.folder.now
    c.as_slice.result.now refl c.as_slice.ensures.value _ _
    c.remove_names.ensures.gone

pub returns : goal.returns
returns g c = puts_after (Goes c.args.target.now.folder.now c.args.begun.now) _ _ _
    (descriptions_go c.args.target.now.folder.now c.args.begun.now c.args.target.now.folder.now
    c.as_slice.result.now refl c.as_slice.ensures.value _ _ c.remove_names.ensures.gone)
    (fragments_go c.args.target.now.folder.now c.args.begun.now c.remove_names.new.target.folder.now c.as_slice-2.result.now
    (ap (λ (f : Bor (List ℕ)). f.now) c.remove_names.ensures.folder) c.as_slice-2.ensures.value _ _ c.remove_names-2.ensures.gone)
