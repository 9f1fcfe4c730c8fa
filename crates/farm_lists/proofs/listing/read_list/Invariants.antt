use Rattle.std.proofs.Common.{◌≡◌, ◌<◌, ◌≤◌, ℕ, List, Some, length}
use Rattle.csv.specs.Reading.{Reached, Ready, default_config, source_of, strip_bom}
use Rattle.csv.specs.declared.parser.State.TheVariants as st
use Rattle.csv.specs.declared.reader.Trim.TheVariants as trim
use Rattle.farm_lists.specs.Listing.{SoFar, list_limit}
use Rattle.farm_lists.proofs.listing.read_list.Given as goal

abbrev pub invariant-loop-row : goal.invariant-loop-row
invariant-loop-row l = (l.row-iterator.rdr.trim ≡ trim.None) × Ready l.row-iterator.rdr × (0 < l.row-iterator.left)
    × (l.row-iterator.rdr.config ≡ default_config)
    × (y : List ℕ) × (source_of (λ s. Some s.now) l.row-iterator.rdr ≡ Some y)
    × (rows : List (List (List ℕ)))
    × Reached default_config st.StartRecord (strip_bom l.fn.bytes) rows l.row-iterator.rdr.state y
    × (l.number ≡ length rows) × SoFar l.coded rows l.list.items
    × (length l.fn.bytes ≤ list_limit) × (l.number ≤ 4097)
