-- A named file, without where it lies in memory.
use Rattle.std.specs.Prelude.{ℕ, List, string_bytes}
use Rattle.std.specs.Cow.{cow_slice_items}
use Rattle.farm_reports.specs.declared.rack_files.NamedFile.{NamedFile}

abbrev pub named : NamedFile → List ℕ × List ℕ
named f = (string_bytes f.name, cow_slice_items f.bytes)
