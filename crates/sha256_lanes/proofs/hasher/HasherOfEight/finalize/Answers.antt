use Rattle.std.proofs.Common.{◌≡◌, ◌<◌, ◌++◌, ℕ, List, [], ◌∷◌, slice_index_or, ap, ◌∙◌, arith}
use Rattle.sha2.specs.Sha256.{digest_bytes, sha256}
use Rattle.sha256_lanes.specs.Lanes.{lane, message}
use Rattle.sha256_lanes.proofs.Eight.{below_eight}
use Rattle.sha256_lanes.proofs.hasher.HasherOfEight.finalize.Goals as goal

pub returns-clause-digests : goal.returns-clause-digests
unfolding sha256
returns-clause-digests c m taken =
    let ms = c.args.ends.now in
    let ds : List (List ℕ) =
    c.digest.result ∷ c.digest-2.result ∷ c.digest-3.result ∷ c.digest-4.result ∷ c.digest-5.result ∷ c.digest-6.result ∷ c.digest-7.result
    ∷ c.digest-8.result ∷ [] in
    let at : (l : ℕ) → l < 8 → digest_bytes (lane l c.hash_values-state.result) 8 ≡ sha256 (m l ++ message ms l) =
    λ l h. ap (λ (v : List ℕ). digest_bytes v 8) (c.hash_values-state.ensures m taken l h) in
    below_eight (λ l. slice_index_or ds l [] ≡ sha256 (m l ++ message ms l))
    (c.digest.ensures ∙ at 0 (omega arith))
    (c.digest-2.ensures ∙ at 1 (omega arith))
    (c.digest-3.ensures ∙ at 2 (omega arith))
    (c.digest-4.ensures ∙ at 3 (omega arith))
    (c.digest-5.ensures ∙ at 4 (omega arith))
    (c.digest-6.ensures ∙ at 5 (omega arith))
    (c.digest-7.ensures ∙ at 6 (omega arith))
    (c.digest-8.ensures ∙ at 7 (omega arith))
