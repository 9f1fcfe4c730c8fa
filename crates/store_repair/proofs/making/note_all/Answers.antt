use Rattle.std.proofs.Common.{arith, refl}
use Rattle.store_repair.specs.Findings.{named}
use Rattle.store_repair.proofs.NamedLemmas.{named_more}
use Rattle.store_repair.proofs.NotedLemmas.{named_still}
use Rattle.store_repair.proofs.making.note_all.Goals as goal

pub loop-place-preserved : goal.loop-place-preserved
loop-place-preserved c =
    record {
      each = named_more c.args.places.now c.loop-place.place-index c.loop-place.findings.items c.note.new.findings.items _ _
          c.loop-place-test.true refl c.in_ok-note.ensures.named c.loop-place.invariant.each;
      stay = λ p is. named_still (named c.loop-place.findings.items) (named c.note.new.findings.items) _ p c.in_ok-note.ensures.named
          (c.loop-place.invariant.stay p is);
    }

pub returns-clause-named : goal.returns-clause-named
returns-clause-named c = λ k d lt. c.loop-place.invariant.each k d (let end = c.loop-place-test.false in omega (arith, lt, end))
