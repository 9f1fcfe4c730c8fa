use Rattle.std.proofs.Common.{◌+◌, ℕ, bit_xor, ap₂, sym}
use Rattle.std.specs.Prelude.{slice_index}
use Rattle.lrc_field.specs.Combined.{three_at}
use Rattle.lrc_field.proofs.FieldLaws.{times-one}
use Rattle.lrc_field.proofs.TermSums.{lanes_added, lanes_same}
use Rattle.lrc_field.proofs.sums_of_three.block_of_three.Goals as goal

pub returns : goal.returns
returns c =
    let x : ℕ → ℕ = λ k. slice_index c.args.first.now (c.args.i + k) in
    let y : ℕ → ℕ = λ k. slice_index c.args.second.now (c.args.i + k) in
    let z : ℕ → ℕ = λ k. slice_index c.args.third.now (c.args.i + k) in
    let whole : ℕ → ℕ = λ k. bit_xor (x k) (bit_xor (y k) (z k)) in
    let at : ℕ → ℕ = λ k. three_at c.args.first.now c.args.second.now c.args.third.now (c.args.i + k) in
    let one = λ (k : ℕ). ap₂ bit_xor (sym (times-one (x k) (c.type_inv.first (c.args.i + k)).fits))
    (ap₂ bit_xor (sym (times-one (y k) (c.type_inv.second (c.args.i + k)).fits))
    (sym (times-one (z k) (c.type_inv.third (c.args.i + k)).fits))) in
    lanes_same c.added.result whole at (λ k lt. one k)
    (lanes_added c.load-3.result c.added-later.result c.added.result x (λ k. bit_xor (y k) (z k)) c.added.ensures c.load-3.ensures
    (lanes_added c.load.result c.load-2.result c.added-later.result y z c.added-later.ensures c.load.ensures c.load-2.ensures))
