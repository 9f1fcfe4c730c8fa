use Rattle.std.proofs.Common.{◌≡◌, ◌<◌, ℕ, length, take, map, get_or}
use Rattle.std.specs.List.{filter_map, range_with_len}
use Rattle.farm_lists.specs.Requests.{read_of}
use Rattle.farm_reports.specs.Report.{row_of}
use Rattle.farm_reports.specs.Rows.{position, row_of_number}
use Rattle.farm_reports.proofs.rows.rack_rows.Given as goal

abbrev pub invariant-loop-number : goal.invariant-loop-number
invariant-loop-number l =
    record {
      made : map row_of l.rows.items ≡ filter_map (row_of_number (map (λ rs. map read_of rs.items) l.requests) l.answers)
          (range_with_len 0 l.number);
      said : map (λ r. r.outcome.now) l.rows.items ≡ map (λ a. a.1) (take l.number l.answers);
      sized : length l.counts.items ≡ length l.requests;
      counted : (f : ℕ) → f < length l.requests → get_or l.counts.items f 0 ≡ position l.answers f l.number;
    }
