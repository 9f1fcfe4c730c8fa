use Rattle.std.proofs.Common.{◌≡◌, length, refl, arith}
use Rattle.std.proofs.lemmas.List.Elements.{All-map}
use Rattle.lrc_code.proofs.Encodings.{each_length}
use Rattle.lrc_c.proofs.encoding.have_length.Goals as goal

pub returns-then-one-len : goal.returns-then-one-len
returns-then-one-len c = (
  λ t. absurd (cc t),
  λ all. absurd (c.if-one-len.true (each_length (λ l. l.bytes.now) c.args.sources.now c.args.len all c.loop-one.one-index _
      c.loop-one-test.true)),
)

pub returns : goal.returns
returns c = (
  λ t. All-map (λ xs. length xs ≡ c.args.len) (λ l. l.bytes.now) c.args.sources.now (λ k d lt. c.loop-one.invariant k d (omega arith)),
  λ all. refl,
)
