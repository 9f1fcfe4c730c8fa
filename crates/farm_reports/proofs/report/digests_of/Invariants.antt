use Rattle.std.proofs.Common.{◌≡◌, take, map}
use Rattle.farm_reports.specs.Report.{fragment_digest}
use Rattle.farm_reports.proofs.report.digests_of.Given as goal

abbrev pub invariant-loop-index : goal.invariant-loop-index
invariant-loop-index l = l.digests.items ≡ map (λ r. fragment_digest r.outcome.now) (take l.index l.rows)
