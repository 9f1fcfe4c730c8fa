use Rattle.std.proofs.Common.{◌≡◌, take, map}
use Rattle.farm_reports.specs.Report.{row_of, rows_of_list}
use Rattle.farm_reports.proofs.report.list_rows.Given as goal

abbrev pub invariant-loop-index : goal.invariant-loop-index
invariant-loop-index l = map row_of l.rows.items ≡ rows_of_list (take l.index (map (λ r. r.now) l.requests)) (take l.index l.outcomes)
    (take l.index (map (λ u. u.items) l.unread))
