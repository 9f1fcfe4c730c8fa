use Rattle.std.proofs.Common.{◌≡◌, take, map, false}
use Rattle.std.specs.List.{list_any}
use Rattle.farm_lists.specs.Requests.{read_of}
use Rattle.farm_reports.specs.Report.{is_wide_read}
use Rattle.farm_reports.proofs.rows.any_wide.Given as goal

abbrev pub invariant-loop-index : goal.invariant-loop-index
invariant-loop-index l = list_any (λ rs. list_any is_wide_read rs) (take l.index (map (λ rs. map read_of rs.items) l.requests)) ≡ false
