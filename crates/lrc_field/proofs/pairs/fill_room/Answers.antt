use Rattle.std.proofs.Common.{[], refl, ◌<◌, ◌∙◌, ◌≡◌, ℕ, length, map, ap, ap₂, sym, arith, length-set, get_or, inl, inr}
use Rattle.std.specs.Int.Bits.{bit_xor, xor_zero_r}
use Rattle.std.proofs.lemmas.List.{get_or_default}
use Rattle.lrc_field.specs.Field.{times}
use Rattle.lrc_field.specs.Sums.{column}
use Rattle.lrc_field.specs.declared.pairs.Pair.{Pair}
use Rattle.lrc_field.proofs.TermLists.{column_is, combination-more, combination-all}
use Rattle.lrc_field.proofs.PairSums.{pairs-more, rooms-more}
use Rattle.lrc_field.proofs.pairs.fill_room.Goals as goal
use Rattle.lrc_field.proofs.pairs.fill_room.Goals.{then-has_products, else-has_products}

pub loop-k-preserved : goal.loop-k-preserved
loop-k-preserved g c =
    let cs = c.args.firsts.now in
    let ds = c.args.seconds.now in
    let xss = map g.S.Source.bytes_of c.args.sources.now in
    let k = c.loop-k.k in
    let ps = c.loop-k.room in
    let n = c.loop-k.count in
    let so_far = c.loop-k.invariant in
    let first = c.index-firsts-k.result in
    let second = c.index-seconds-k.result in
    let bytes = get_or xss k [] in
    let fits : n < length ps = omega arith in
    let other : k < length ds = omega (arith, c.requires.same, c.loop-k-test.true) in
    let is_first : get_or cs k 0 ≡ first = get_or_default cs k 0 first c.loop-k-test.true ∙ sym c.index-firsts-k.is in
    let is_second : get_or ds k 0 ≡ second = get_or_default ds k 0 second other ∙ sym c.index-seconds-k.is in
    let more_firsts = λ (i : ℕ). combination-more cs (column xss i) k c.loop-k-test.true in
    let more_seconds = λ (i : ℕ). combination-more ds (column xss i) k other in
    let is_byte : (i : ℕ) → get_or (column xss i) k 0 ≡ get_or bytes i 0 =
    λ i. column_is xss k i in
    elim c.if-has_products.branch [
      | then-has_products w ↦
          let used = w.if-has_products.ensures.yes refl in
          let same = w.bytes_at-bytes.ensures in
          let as_read = λ (s i : ℕ). ap (λ xs. times s (get_or xs i 0)) same in
          rw (w.room-is, w.count-is) (record {
            long = length-set ps n _ ∙ so_far.long;
            few = omega arith;
            lengths = λ len h j. rooms-more len ps n _ fits (so_far.lengths len h j)
                (ap length same ∙ elim used.0 [
                  | inl x ↦ h k (λ z. x (sym is_first ∙ z)) used.1
                  | inr x ↦ j k (λ z. x (sym is_second ∙ z)) used.1
                ]);
            first_sums = λ i. pairs-more (λ (q : Pair). q.first) ps n i _ fits ∙ ap₂ bit_xor (so_far.first_sums i)
                (as_read first i ∙ sym (ap₂ times is_first (is_byte i))) ∙ sym (more_firsts i);
            second_sums = λ i. pairs-more (λ (q : Pair). q.second) ps n i _ fits ∙ ap₂ bit_xor (so_far.second_sums i)
                (as_read second i ∙ sym (ap₂ times is_second (is_byte i))) ∙ sym (more_seconds i);
          })
      | else-has_products w ↦
          let none = w.if-has_products.ensures.no refl in
          rw (w.room-is, w.count-is) (record {
            long = so_far.long;
            few = omega arith;
            lengths = so_far.lengths;
            first_sums = λ i. so_far.first_sums i
                ∙ sym (more_firsts i ∙ ap (bit_xor _) (ap₂ times is_first (is_byte i) ∙ (none i).0) ∙ xor_zero_r _);
            second_sums = λ i. so_far.second_sums i
                ∙ sym (more_seconds i ∙ ap (bit_xor _) (ap₂ times is_second (is_byte i) ∙ (none i).1) ∙ xor_zero_r _);
          })
    ]

pub returns-clause-first_sums : goal.returns-clause-first_sums
returns-clause-first_sums g c = λ i. c.loop-k.invariant.first_sums i ∙ combination-all c.args.firsts.now
    (column (map g.S.Source.bytes_of c.args.sources.now) i) c.loop-k.k (omega arith)

pub returns-clause-second_sums : goal.returns-clause-second_sums
returns-clause-second_sums g c = λ i. c.loop-k.invariant.second_sums i ∙ combination-all c.args.seconds.now
    (column (map g.S.Source.bytes_of c.args.sources.now) i) c.loop-k.k (omega (arith, c.requires.same))

pub returns-clause-pairs : goal.returns-clause-pairs
returns-clause-pairs g c = λ len h j.
    let xss = map g.S.Source.bytes_of c.args.sources.now in
    record {
      room = c.loop-k.invariant.lengths len h j;
      first_sums = λ i. c.loop-k.invariant.first_sums i ∙ combination-all c.args.firsts.now (column xss i) c.loop-k.k (omega arith);
      second_sums = λ i. c.loop-k.invariant.second_sums i ∙ combination-all c.args.seconds.now (column xss i) c.loop-k.k
          (omega (arith, c.requires.same));
    }
