use Rattle.std.proofs.Common.{◌∙◌, arith, subst, sym}
use Rattle.std.proofs.lemmas.List.Elements.{All-push}
use Rattle.store_repair.specs.Mended.{AreEmpty}
use Rattle.stores.specs.Shown.{IsEmpty}
use Rattle.store_repair.proofs.making.new_files.Goals as goal

pub files-preserved : goal.files-preserved
files-preserved g c =
    let so = c.files.invariant in
    let shown = g.S.New.NewFragment.shown in
    record {
      same = c.in-Ok.ensures.same ∙ so.same;
      kept = λ given from before. c.in-Ok.ensures.kept given from (so.kept given from before);
      few = omega arith;
      empty = subst (AreEmpty shown) (sym c.in_ok-push-in-Ok.ensures.items)
          (All-push (λ file. IsEmpty (shown file)) c.files.files.items c.in-Ok.file so.empty c.in-Ok.ensures.empty);
    }
