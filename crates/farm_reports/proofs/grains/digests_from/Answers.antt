use Rattle.std.proofs.Common.{◌≡◌, ◌+◌, ◌-◌, ◌∙◌, ℕ, List, [], Bor, ap, arith, length, map, take, drop, get_or}
use Rattle.sha2.specs.Sha256.{sha256}
use Rattle.farm_reports.proofs.FragmentDigests.{digest_at}
use Rattle.farm_reports.proofs.grains.digests_from.Goals as goal

pub returns : goal.returns
returns c k within =
    let n : ℕ = length c.args.digests.now in
    let size : c.args.start + n - c.args.start ≡ n = omega arith in
    ap (λ (ds : List (List ℕ)). get_or ds k []) c.digests.ensures
    ∙ ap (λ (m : ℕ). get_or (map (λ (f : Bor (List ℕ)). sha256 f.now) (take m (drop c.args.start c.args.fragments.now))) k []) size
    ∙ digest_at c.args.fragments.now c.args.start n k within c.requires
