use Rattle.std.proofs.Common.{◌≡◌, ◌+◌, ◌-◌, ◌∙◌, ap, get_or, inl, inr, arith, sym}
use Rattle.std.proofs.lemmas.Bool.{cases_lt}
use Rattle.lrc_field.proofs.blocks.put.Goals as goal

pub returns-clause-set : goal.returns-clause-set
returns-clause-set c = λ f set lanes k lt. elim (cases_lt k c.args.i) as (λ _. get_or c.store.new.bytes k 0 ≡ f k) [
  | inl below ↦ c.store.ensures.below k below ∙ set k below
  | inr from ↦
      (let back : c.args.i + (k - c.args.i) ≡ k = omega arith in
      ap (λ n. get_or c.store.new.bytes n 0) (sym back) ∙ c.store.ensures.inside (k - c.args.i) (omega arith)
      ∙ lanes.each (k - c.args.i) (omega arith) ∙ ap f back)
]
