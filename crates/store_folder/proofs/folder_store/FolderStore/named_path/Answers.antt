use Rattle.std.proofs.Common.{subst, sym}
use Rattle.store_names.specs.Names.{IsNameOf}
use Rattle.store_folder.proofs.folder_store.FolderStore.named_path.Goals as goal

pub returns-in-NotFollowed : goal.returns-in-NotFollowed
returns-in-NotFollowed g c = λ _.
    let site = c.args.self.now.site in (
      _,
      c.in_ok-named.ensures,
      subst (IsNameOf site.pattern site.code c.args.stripe.now c.args.place) (sym c.as_str-3.ensures.value)
          c.in_ok-name.ensures,
    )
