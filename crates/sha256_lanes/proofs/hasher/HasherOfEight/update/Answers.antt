use Rattle.std.proofs.Common.{◌≡◌, ◌+◌, ◌/◌, ◌++◌, length, length-append, ap, ◌∙◌, arith}
use Rattle.sha2.specs.Sha256.{hash_after, initial_hash_256}
use Rattle.sha256_lanes.specs.Lanes.{lane, message}
use Rattle.sha256_lanes.proofs.Eight.{message_is}
use Rattle.sha256_lanes.proofs.Padding.{hash_after-pieces}
use Rattle.sha256_lanes.proofs.hasher.HasherOfEight.update.Goals as goal

pub absorb-requires-clause-room : goal.absorb-requires-clause-room
absorb-requires-clause-room c l h =
    let ms = c.args.pieces.now in
    let first = message_is ms 0 in
    let same = c.requires.length l 0 (omega arith) (omega arith) in
    omega (arith, ap length first, c.whole_blocks-count.ensures.count)

pub returns : goal.returns
returns c m taken l h =
    let ms = c.args.pieces.now in
    let p = message ms l in
    let q = message ms 0 in
    let first = ap length (message_is ms 0) in
    let same : length p ≡ length q = c.requires.length l 0 (omega arith) (omega arith) in
    let own = taken l h in
    let size = length-append (m l) p in
    let zero_size = length-append (m 0) q in
    let count : c.whole_blocks-count.result ≡ length p / 64 = omega (arith, first, c.whole_blocks-count.ensures.count) in
    let blocks : length (m l) / 64 + c.whole_blocks-count.result ≡ length (m l ++ p) / 64 =
    omega (arith, size, count, own.1, c.requires.blocks, same) in (
      omega (arith, size, zero_size, same, own.0),
      omega (arith, size, same, own.1, c.requires.blocks),
      c.of.ensures.taken ∙ omega (arith, size, same, own.2, first),
      ap (lane l) c.of.ensures.state
          ∙ c.absorb.ensures l h
          ∙ ap (λ s. hash_after (lane l s) p c.whole_blocks-count.result) c.state-state.ensures
          ∙ ap (λ s. hash_after s p c.whole_blocks-count.result) own.3
          ∙ hash_after-pieces initial_hash_256 (m l) p c.whole_blocks-count.result own.1
          ∙ ap (hash_after initial_hash_256 (m l ++ p)) blocks,
    )
