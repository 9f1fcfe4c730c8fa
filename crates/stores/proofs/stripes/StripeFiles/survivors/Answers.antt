use Rattle.std.proofs.Common.{◌∙◌, sym, ap, arith}
use Rattle.std.specs.Prelude.{◌&&◌}
use Rattle.lrc_code.specs.declared.places.Place.{Place}
use Rattle.lrc_code.specs.Code.{has_place}
use Rattle.lrc_code.specs.Codes.{tables_of}
use Rattle.lrc_code.specs.Sets.{is_in}
use Rattle.stores.specs.Stripes.{has_file}
use Rattle.stores.proofs.ChosenLemmas.{set_with, set_without}
use Rattle.stores.proofs.stripes.StripeFiles.survivors.Goals as goal
use Rattle.stores.proofs.stripes.StripeFiles.survivors.Goals.{then-survives, else-survives}

pub loop-index-preserved : goal.loop-index-preserved
loop-index-preserved c = λ q.
    let chosen = λ (p : Place). has_place (tables_of c.args.code) p && has_file c.args.self.now.found c.args.length p in
    elim c.if-survives.branch [
      | then-survives w ↦ ap (λ set. is_in set q) w.set-is ∙ w.with-set.ensures q
          ∙ set_with chosen c.loop-index.index _ (omega arith) c.nth_place-place.ensures (is_in c.loop-index.set q) q
          (sym c.survives.ensures ∙ w.if-survives.true) (c.loop-index.invariant q)
      | else-survives w ↦ ap (λ set. is_in set q) w.set-is
          ∙ set_without chosen c.loop-index.index _ (omega arith) c.nth_place-place.ensures (is_in c.loop-index.set q) q
          (sym c.survives.ensures ∙ w.if-survives.false) (c.loop-index.invariant q)
    ]
