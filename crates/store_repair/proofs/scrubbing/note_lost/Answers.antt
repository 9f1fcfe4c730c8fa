use Rattle.std.proofs.Common.{◌∙◌, All, arith, refl, subst}
use Rattle.std.specs.Prelude.{◌&&◌, Contains, not}
use Rattle.lrc_code.specs.Code.{has_place}
use Rattle.lrc_code.specs.Codes.{tables_of}
use Rattle.store_repair.specs.Findings.{named}
use Rattle.stores.specs.Stripes.{has_file}
use Rattle.store_repair.proofs.AccountedLemmas.{named_that_pass}
use Rattle.store_repair.proofs.NamedLemmas.{named_kept_more}
use Rattle.store_repair.proofs.scrubbing.note_lost.Goals as goal

pub loop-place-preserved : goal.loop-place-preserved
loop-place-preserved c =
    record {
      said = c.in_ok-note_unnamed.ensures.said ∙ c.loop-place.invariant.said;
      each = named_kept_more c.deref-place-items.result.now c.loop-place.place-index c.loop-place.findings.items
          c.note_unnamed.new.findings.items _ _ c.loop-place-test.true refl c.in_ok-note_unnamed.ensures.named
          c.in_ok-note_unnamed.ensures.kept c.loop-place.invariant.each;
    }

pub returns-clause-lost : goal.returns-clause-lost
returns-clause-lost c = λ p has isnt.
    let names = named c.loop-place.findings.items in
    named_that_pass (λ q. has_place (tables_of c.args.code) q && not (has_file c.args.stripe.now.files.found c.args.length q)) names
    (subst (All (Contains names)) (c.deref-place-items.ensures.value ∙ c.in_ok-lost.ensures)
    (λ k d lt. c.loop-place.invariant.each k d (let end = c.loop-place-test.false in omega (arith, lt, end))))
    p (rw (has, isnt) refl)
