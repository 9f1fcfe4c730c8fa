use Rattle.std.proofs.Common.{◌≡◌, take, map}
use Rattle.std.specs.List.{join_with_byte}
use Rattle.lrc_code.specs.Places.{name_of}
use Rattle.farm_reports.proofs.report.spaced_names.Given as goal

abbrev pub invariant-loop-index : goal.invariant-loop-index
invariant-loop-index l = l.text.items ≡ join_with_byte 32 (map name_of (take l.index l.places))
