use Rattle.std.proofs.Common.{◌+◌, ◌<◌, ◌∙◌, ℕ, ap, get_or, length, arith}
use Rattle.lrc_field.specs.Field.{times}
use Rattle.lrc_field.specs.declared.terms.Term.{Term}
use Rattle.lrc_field.specs.Combined.{product_at}
use Rattle.lrc_field.proofs.TermSums.{term_added}
use Rattle.lrc_field.proofs.term_sums.write_few.Goals as goal

pub loop-term-preserved : goal.loop-term-preserved
loop-term-preserved c =
    let so_far = c.loop-term.invariant in
    let t = c.term-item.result in
    let from = c.args.from in
    let products = λ (k : ℕ). times t.scalar (get_or t.bytes.now (from + k) 0) in
    let same = λ (k : ℕ) (h : k < length c.args.dst.now). ap (λ (u : Term). product_at u (from + k)) c.term-item.is in
    let added = λ (k : ℕ) (h : k < length c.args.dst.now). c.add_few.ensures.done k (omega (arith, h, so_far.len)) in
    record {
      len = c.add_few.ensures.len ∙ so_far.len;
      sums = term_added c.args.terms.now c.loop-term.term-index from (length c.args.dst.now) t c.loop-term.dst c.add_few.new.dst products
          c.loop-term-test.true same so_far.sums added;
    }
