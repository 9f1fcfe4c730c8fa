use Rattle.std.proofs.Common.{◌≡◌, take, drop, map, flat_map}
use Rattle.sha2.specs.Sha256.{sha256}
use Rattle.farm_reports.specs.Report.{fragment_digest, rebuilt_fragment}
use Rattle.farm_reports.proofs.digests.hand_out.Given as goal

abbrev pub invariant-loop-index : goal.invariant-loop-index
invariant-loop-index l =
    record {
      handed : l.handed.items ≡ map (λ o. fragment_digest o.now) (take l.index l.outcomes);
      left : l.left ≡ map sha256 (flat_map (λ o. rebuilt_fragment o.now) (drop l.index l.outcomes));
    }
