use Rattle.std.proofs.Common.{inl, inr, refl}
use Rattle.std.proofs.lemmas.Bool.{cases_Bool}
use Rattle.lrc_c.proofs.encoding.write_all.Goals as goal

pub returns : goal.returns
returns c = elim (cases_Bool c.write_checked.result) [
  | inl t ↦ c.write_checked.ensures.written t
  | inr f ↦ absurd (c.write_checked.ensures.no f (record {
    first = λ i ge lt. refl;
    second = λ i ge lt. refl;
    third = λ i ge lt. refl;
    fourth = λ i ge lt. refl;
  }))
]
