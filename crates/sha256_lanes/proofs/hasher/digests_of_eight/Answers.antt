use Rattle.std.proofs.Common.{ℕ, Bor, List, [], sym, ◌∙◌, arith}
use Rattle.sha256_lanes.proofs.Eight.{digests_are}
use Rattle.sha256_lanes.proofs.hasher.digests_of_eight.Goals as goal

pub returns : goal.returns
returns c =
    digests_are (λ (m : Bor (List ℕ)). m.now) c.args.messages.now c.finalize.result (c.finalize.ensures.many ∙ sym c.told-messages)
    (λ l h. c.finalize.ensures.digests (λ _. []) c.new.ensures l (omega arith))
