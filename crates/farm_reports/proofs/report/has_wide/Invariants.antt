use Rattle.std.proofs.Common.{◌≡◌, take, map, false}
use Rattle.std.specs.List.{list_any}
use Rattle.farm_reports.specs.Report.{is_wide}
use Rattle.farm_reports.proofs.report.has_wide.Given as goal

abbrev pub invariant-loop-index : goal.invariant-loop-index
invariant-loop-index l = list_any is_wide (take l.index (map (λ r. r.now) l.requests)) ≡ false
