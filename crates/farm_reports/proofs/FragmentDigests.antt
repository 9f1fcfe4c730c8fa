-- The digests of rebuilt fragments, chunk by chunk.
use Rattle.std.proofs.Common.{◌≡◌, ◌<◌, ◌≤◌, ◌+◌, ◌-◌, ◌∙◌, Bor, ℕ, List, [], length, take, drop, map, get_or, sym, ap, arith}
use Rattle.std.proofs.lemmas.List.{get_or-map, length-drop, length-take-le}
use Rattle.std.proofs.lemmas.Simd.{get_or-chunk}
use Rattle.sha2.specs.Sha256.{sha256}

-- a digest of some neighbours is at its fragment's place
pub digest_at : (fragments : List (Bor (List ℕ))) (start n k : ℕ) → k < n → start + n ≤ length fragments
    → get_or (map (λ f. sha256 f.now) (take n (drop start fragments))) k [] ≡ get_or (map (λ f. sha256 f.now) fragments) (start + k) []
digest_at fragments start n k within fits =
    let digest = λ (f : Bor (List ℕ)). sha256 f.now in
    let none : Bor (List ℕ) = record { ref_ptr = (0, 0); now = [] } in
    let counted : length (drop start fragments) ≡ length fragments - start = length-drop start fragments in
    let chosen : length (take n (drop start fragments)) ≡ n = length-take-le n (drop start fragments) (omega (arith, counted, fits)) in
    get_or-map digest (take n (drop start fragments)) k none [] (omega (arith, chosen, within))
    ∙ ap digest (get_or-chunk start n fragments k none within)
    ∙ sym (get_or-map digest fragments (start + k) none [] (omega (arith, within, fits)))
