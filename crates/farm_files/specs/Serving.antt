-- What serving a folder of lists answers, and writes.
use Rattle.std.specs.Prelude.{ℕ, List}
use Rattle.lrc_code.specs.declared.outcomes.Outcome.{Outcome}
use Rattle.farm_core.specs.Merge.{AreAllMergedAnswers}
use Rattle.farm_reports.specs.Written.{files_from}
use Rattle.farm_lists.specs.declared.listing.Record.{Record}
use Rattle.farm_shelves.specs.Files.{Files}
use Rattle.farm_reading.specs.Reading.{AreAllReads, AreLists, Reads, all_read, orders_all}

-- These are the lists of the files, the reads of their survivors, and of each rack the answers to a lawful merge of its feeds, each
-- with its feed's number.
pub record Serves (there : Files) (lists : List (List (List Record))) (reads : List (List (List Reads)))
    (answers : List (List (ℕ × Outcome))) : Type 0 where
  pub listed : AreLists there lists
  pub read : AreAllReads lists reads
  pub answered : AreAllMergedAnswers (orders_all there lists reads) answers

-- all files that are written, in their order: a name and its bytes
abbrev pub written_files : Files → List (List (List Record)) → List (List (List Reads)) → List (List (ℕ × Outcome)) → List (List ℕ × List ℕ)
written_files there lists reads answers = files_from 0 (all_read there lists reads) answers
