use Rattle.lrc_code.proofs.SurvivorLists.{places_more}
use Rattle.lrc_code.proofs.fragments.places_of.Goals as goal

pub loop-fragment-preserved : goal.loop-fragment-preserved
loop-fragment-preserved c = places_more c.loop-fragment.set c.with-set.result c.args.fragments.now c.loop-fragment.fragment-index
    c.fragment-item.result c.loop-fragment-test.true c.fragment-item.is c.with-set.ensures c.loop-fragment.invariant
