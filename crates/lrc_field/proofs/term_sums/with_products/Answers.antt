use Rattle.std.proofs.Common.{◌+◌, ℕ, ap, ◌∙◌, sym}
use Rattle.std.specs.Prelude.{slice_index}
use Rattle.lrc_field.specs.Field.{times}
use Rattle.lrc_field.proofs.TermSums.{lanes_same, lanes_added, one_product}
use Rattle.lrc_field.proofs.term_sums.with_products.Goals as goal
use Rattle.lrc_field.proofs.term_sums.with_products.Goals.{then-byte-eq1, else-byte-eq1}

pub returns : goal.returns
returns c = λ f h.
    let x = λ (k : ℕ). slice_index c.args.bytes.now (c.args.i + k) in
    elim c.if-byte-eq1.branch [
      | then-byte-eq1 v ↦
          let one = sym c.byte.ensures ∙ v.if-byte-eq1.true in
          rw v.result-is (lanes_added c.args.sums v.load.result v.added.result f (λ k. times c.args.c (x k)) v.added.ensures h
          (lanes_same v.load.result x (λ k. times c.args.c (x k))
          (λ k lt. one_product c.args.c (x k) one (c.type_inv.bytes (c.args.i + k)).fits) v.load.ensures))
      | else-byte-eq1 v ↦
          rw v.result-is (lanes_added c.args.sums v.scaled.result v.added-else-byte-eq1.result f
          (λ k. times c.args.c (x k)) v.added-else-byte-eq1.ensures h
          (lanes_same v.scaled.result (λ k. times c.args.c (slice_index v.load-else-byte-eq1.result k)) (λ k. times c.args.c (x k))
          (λ k lt. ap (times c.args.c) (v.load-else-byte-eq1.ensures.each k lt)) (v.scaled.ensures c.args.c v.new-tables.ensures)))
    ]
