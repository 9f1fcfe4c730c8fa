use Rattle.std.proofs.Common.{Bool, get_or, take, ap, ap₂, sym, ◌∙◌}
use Rattle.std.specs.Prelude.{if◌then◌else◌}
use Rattle.std.specs.Int.Bits.{bit_xor, xor_zero_r}
use Rattle.std.proofs.lemmas.Bool.{eq-eqb, ne_eqb}
use Rattle.std.proofs.lemmas.List.{get_or_default}
use Rattle.lrc_code.specs.declared.places.Place.TheVariants.{X0}
use Rattle.lrc_code.specs.Places.{index_of}
use Rattle.lrc_code.specs.Reduction.{coefficient_at}
use Rattle.lrc_c.proofs.UpdateLaws.{coefficient-next, coefficient-all}
use Rattle.lrc_c.proofs.updating.coefficient_of.Goals.{then-index, else-index}
use Rattle.lrc_c.proofs.updating.coefficient_of.Goals as goal

pub loop-i-preserved : goal.loop-i-preserved
loop-i-preserved c =
    let places = c.args.places.now in
    let row = c.args.row.now in
    let k = c.loop-i.i in
    let here = get_or places k X0 in
    let term = λ (b : Bool). if b then get_or row k 0 else 0 in
    let sum = coefficient_at (take k places) (take k row) c.args.place in
    let next = coefficient-next places row c.args.place X0 k c.loop-i-test.true c.requires in
    elim c.if-index.branch [
      | then-index w ↦
          w.sum-is ∙ w.add-sum.ensures ∙ ap₂ bit_xor c.loop-i.invariant
          (w.index-row-i.is ∙ get_or_default row k _ 0 c.loop-i-test.true ∙ sym (ap term (eq-eqb (index_of here) (index_of c.args.place)
          (sym c.index.ensures.value ∙ w.if-index.true ∙ c.index-in-loop-i.ensures.value))))
          ∙ sym next
      | else-index w ↦
          w.sum-is ∙ c.loop-i.invariant
          ∙ sym (next ∙ ap (λ b. bit_xor sum (term b))
          (ne_eqb (index_of here) (index_of c.args.place)
          (λ e. w.if-index.false (c.index.ensures.value ∙ e ∙ sym c.index-in-loop-i.ensures.value)))
          ∙ xor_zero_r sum)
    ]

pub returns : goal.returns
returns c = c.loop-i.invariant ∙ coefficient-all c.args.places.now c.args.row.now c.args.place c.loop-i.i c.loop-i-test.false c.requires
