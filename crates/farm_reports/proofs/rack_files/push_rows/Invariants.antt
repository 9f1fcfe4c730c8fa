use Rattle.std.proofs.Common.{◌≡◌, ◌++◌, take, map}
use Rattle.farm_reports.specs.Named.{named}
use Rattle.farm_reports.specs.Report.{row_of}
use Rattle.farm_reports.specs.Written.{rebuilt_files}
use Rattle.farm_reports.proofs.rack_files.push_rows.Given as goal

abbrev pub invariant-loop-number : goal.invariant-loop-number
invariant-loop-number l = map named l.files.items ≡ map named l.fn.files.items ++ rebuilt_files l.rack 0 (map row_of (take l.number l.rows))
