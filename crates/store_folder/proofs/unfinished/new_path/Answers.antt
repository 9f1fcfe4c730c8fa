use Rattle.std.proofs.Common.{◌≡◌, ◌∙◌, ap, sym, false}
use Rattle.store_names.specs.Temporary.{is_free}
use Rattle.store_folder.specs.Temporary.{is_temporary}
use Rattle.store_folder.proofs.Temporary.{is_made}
use Rattle.store_folder.proofs.unfinished.new_path.Goals as goal

pub returns : goal.returns
returns c =
    let same = c.as_str.ensures.value ∙ sym c.as_str-2.ensures.value in
    let taken : is_free c.as_str-2.result.now ≡ false = ap is_free (sym same) ∙ sym c.is_free.ensures ∙ c.if-is_free.false in
    ap is_temporary c.in_ok-path_in.ensures ∙ is_made c.args.folder.now c.as_str-2.result.now taken
