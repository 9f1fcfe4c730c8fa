use Rattle.std.proofs.Common.{◌+◌, ap, arith}
use Rattle.std.specs.Prelude.{slice_index, bit_xor}
use Rattle.lrc_field.proofs.TermSums.{trio_same}
use Rattle.lrc_field.proofs.blocks.six_with_bytes.Goals as goal

pub returns : goal.returns
returns c = λ f h.
    let x = slice_index c.args.bytes.now in
    record {
      in_front = c.added_trio.ensures f (λ k. x (c.args.i + k)) h.in_front c.load_trio.ensures;
      in_back = trio_same c.added_trio-2.result (λ k. bit_xor (f (96 + k)) (x (c.args.i + 96 + k)))
          (λ k. bit_xor (f (96 + k)) (x (c.args.i + (96 + k)))) (λ k lt. ap (λ n. bit_xor (f (96 + k)) (x n)) (omega arith))
          (c.added_trio-2.ensures (λ k. f (96 + k)) (λ k. x (c.args.i + 96 + k)) h.in_back c.load_trio-2.ensures);
    }
