use Rattle.std.proofs.Common.{◌≡◌, ◌∙◌, ap, arith, get_or, inl, inr, sym}
use Rattle.std.proofs.lemmas.Bool.{cases_lt}
use Rattle.std.proofs.lemmas.List.{get_or_default}
use Rattle.lrc_code.specs.Places.{index_of}
use Rattle.store_repair.proofs.outcomes.is_among.Goals as goal

pub returns-clause-no : goal.returns-clause-no
returns-clause-no c = λ off (k, lt, e).
    absurd (c.loop-other.invariant k c.args.place (let end = c.loop-other-test.false in omega (arith, lt, end)) (ap index_of e))

pub loop-other-preserved : goal.loop-other-preserved
loop-other-preserved c = λ k d lt e. elim (cases_lt k c.loop-other.other-index) as (λ _. ⊥) [
  | inl less ↦ c.loop-other.invariant k d less e
  | inr le ↦ (let at : c.loop-other.other-index ≡ k = omega (arith, lt, le) in
      c.if-index.false (c.index.ensures.value
      ∙ ap index_of (get_or_default c.args.places.now c.loop-other.other-index _ d c.loop-other-test.true
      ∙ ap (λ j. get_or c.args.places.now j d) at) ∙ e ∙ sym c.index-in-loop-other.ensures.value))
]
