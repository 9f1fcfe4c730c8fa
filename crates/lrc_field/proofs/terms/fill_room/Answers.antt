use Rattle.std.proofs.Common.{[], refl, ◌<◌, ◌∙◌, ◌≡◌, ℕ, length, map, ap, ap₂, sym, arith, length-set, get_or}
use Rattle.std.specs.Int.Bits.{bit_xor, xor_zero_r}
use Rattle.std.proofs.lemmas.List.{get_or_default, length-take-le}
use Rattle.lrc_field.specs.Field.{times}
use Rattle.lrc_field.specs.Sums.{column}
use Rattle.lrc_field.proofs.TermLists.{column_is, combination-more, combination-all, sums-more, lengths-more}
use Rattle.lrc_field.proofs.terms.fill_room.Goals as goal
use Rattle.lrc_field.proofs.terms.fill_room.Goals.{then-has_products, else-has_products}

pub loop-k-preserved : goal.loop-k-preserved
loop-k-preserved g c =
    let cs = c.args.coefficients.now in
    let xss = map g.S.Source.bytes_of c.args.sources.now in
    let k = c.loop-k.k in
    let ts = c.loop-k.room in
    let n = c.loop-k.count in
    let so_far = c.loop-k.invariant in
    let scalar = c.index-coefficients-k.result in
    let bytes = get_or xss k [] in
    let fits : n < length ts = omega arith in
    let is_scalar : get_or cs k 0 ≡ scalar = get_or_default cs k 0 scalar c.loop-k-test.true ∙ sym c.index-coefficients-k.is in
    let more = λ (i : ℕ). combination-more cs (column xss i) k c.loop-k-test.true in
    let is_product : (i : ℕ) → times (get_or cs k 0) (get_or (column xss i) k 0) ≡ times scalar (get_or bytes i 0) =
    λ i. ap₂ times is_scalar (column_is xss k i) in
    elim c.if-has_products.branch [
      | then-has_products w ↦
          let used = w.if-has_products.ensures.yes refl in
          let same = w.bytes_at-bytes.ensures in
          rw (w.room-is, w.count-is) (record {
            long = length-set ts n _ ∙ so_far.long;
            few = omega arith;
            lengths = λ len h. lengths-more len ts n _ fits (so_far.lengths len h)
                (ap length same ∙ h k (λ z. used.0 (sym is_scalar ∙ z)) used.1);
            sums = λ i. sums-more ts n i _ fits
                ∙ ap₂ bit_xor (so_far.sums i) (ap (λ xs. times scalar (get_or xs i 0)) same ∙ sym (is_product i)) ∙ sym (more i);
          })
      | else-has_products w ↦
          rw (w.room-is, w.count-is) (record {
            long = so_far.long;
            few = omega arith;
            lengths = so_far.lengths;
            sums = λ i. so_far.sums i ∙ sym (more i ∙ ap (bit_xor _) (is_product i ∙ w.if-has_products.ensures.no refl i) ∙ xor_zero_r _);
          })
    ]

pub returns-clause-sums : goal.returns-clause-sums
returns-clause-sums g c = λ i. c.loop-k.invariant.sums i ∙ combination-all c.args.coefficients.now
    (column (map g.S.Source.bytes_of c.args.sources.now) i) c.loop-k.k (omega arith)

pub returns-clause-terms : goal.returns-clause-terms
returns-clause-terms g c = λ len used.
    let ts = c.loop-k.room in
    let long = length-take-le c.loop-k.count ts (omega arith) in
    record {
      room = record { few = omega (arith, long); lengths = c.loop-k.invariant.lengths len used };
      sums = λ i. c.loop-k.invariant.sums i ∙ combination-all c.args.coefficients.now
          (column (map g.S.Source.bytes_of c.args.sources.now) i) c.loop-k.k (omega arith);
    }
