use Rattle.std.proofs.Common.{◌∙◌, sym, string_bytes, rules}
use Rattle.std.specs.Str.{bytes_eq}
use Rattle.std.proofs.lemmas.Iterator.{YieldsList-from_slice}
use Rattle.std.proofs.lemmas.Iterator.Search.{any_from_yields_List}
use Rattle.store_names.proofs.Folders.{any_is, is_any}
use Rattle.store_names.proofs.disks.has.Goals as goal

pub returns : goal.returns
returns c =
    let is = any_from_yields_List (λ other. bytes_eq (string_bytes other) c.args.folder.now) _ _ c.any.result c.any.ensures.ran
    (YieldsList-from_slice c.args.folders.now cc) (λ x b q k. search rules) in
    (λ yes. any_is c.args.folders.now c.args.folder.now (sym is ∙ yes), λ at. is ∙ is_any c.args.folders.now c.args.folder.now at)
