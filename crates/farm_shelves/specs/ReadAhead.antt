-- A shelf over a folder whose files are read ahead.
use Rattle.std.specs.Prelude.{ℕ, List}
use Rattle.farm_shelves.specs.Folder.{folder_failed, folder_path}
use Rattle.farm_shelves.specs.declared.read_ahead.ReadAheadShelf.{ReadAheadShelf}

abbrev pub read_ahead_failed : ReadAheadShelf → ℕ
read_ahead_failed s = folder_failed s.folder

abbrev pub read_ahead_path : ReadAheadShelf → List ℕ
read_ahead_path s = folder_path s.folder
