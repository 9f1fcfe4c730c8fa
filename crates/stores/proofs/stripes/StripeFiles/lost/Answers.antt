use Rattle.std.proofs.Common.{◌∙◌, sym, ap, arith, not}
use Rattle.std.specs.Prelude.{◌&&◌}
use Rattle.lrc_code.specs.declared.places.Place.{Place}
use Rattle.lrc_code.specs.Code.{has_place}
use Rattle.lrc_code.specs.Codes.{tables_of}
use Rattle.stores.specs.Stripes.{has_file}
use Rattle.stores.proofs.ChosenLemmas.{chosen_next, other_next}
use Rattle.stores.proofs.stripes.StripeFiles.lost.Goals as goal
use Rattle.stores.proofs.stripes.StripeFiles.lost.Goals.{then-is_lost+in_ok-push, else-is_lost}

pub loop-index-preserved : goal.loop-index-preserved
loop-index-preserved c =
    let chosen = λ (p : Place). has_place (tables_of c.args.code) p && not (has_file c.args.self.now.found c.args.length p) in
    elim c.if-is_lost.branch [
      | then-is_lost+in_ok-push w ↦ ap (λ v. v.items) w.lost-is ∙ w.in_ok-push.ensures.items
          ∙ chosen_next chosen c.loop-index.index _ (omega arith) c.nth_place-place.ensures c.loop-index.lost.items
          (sym c.is_lost.ensures ∙ w.if-is_lost.true) c.loop-index.invariant
      | else-is_lost w ↦ ap (λ v. v.items) w.lost-is
          ∙ other_next chosen c.loop-index.index _ (omega arith) c.nth_place-place.ensures c.loop-index.lost.items
          (sym c.is_lost.ensures ∙ w.if-is_lost.false) c.loop-index.invariant
    ]
