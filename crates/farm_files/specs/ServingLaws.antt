-- Laws of serving.
use Rattle.std.specs.Prelude.{◌≡◌, ℕ, List, [], ◌∷◌, map}
use Rattle.lrc_code.specs.declared.outcomes.Outcome.{Outcome}
use Rattle.lrc_code.specs.Requests.{Asked}
use Rattle.farm_core.specs.Expected.{AreAllAnswers}
use Rattle.farm_shelves.specs.Files.{Files}
use Rattle.farm_reading.specs.Pairs.{zip_with}
use Rattle.farm_lists.specs.Requests.{listed_before_close}
use Rattle.farm_reports.specs.ReportLaws.{lists_files}
use Rattle.farm_reading.specs.Reading.{Reads, asked_feed, rack_read}
use Rattle.farm_files.specs.Serving.{Serves, written_files}
use Rattle.farm_lists.specs.declared.listing.Record.{Record}

-- of each list the requests before its close, with the survivors that were read
abbrev pub asked_lists : Files → List (List Record) → List (List Reads) → List (List Asked)
asked_lists there lists reads = zip_with (λ list feed. asked_feed there (listed_before_close list) feed) lists reads

-- Where each rack is fed by one list, its answers are those to the requests before that list's close, all of them and in order, and the
-- files that are written are those of the lists.
abbrev pub RacksOfOneFeedAreServedAsLists : Type 0
RacksOfOneFeedAreServedAsLists = (there : Files) (lists : List (List Record)) (reads : List (List (List Reads)))
    (answers : List (List (ℕ × Outcome)))
    → Serves there (map (λ l. l ∷ []) lists) reads answers
    → (read : List (List Reads)) × (outcomes : List (List Outcome)) × (reads ≡ map (λ q. q ∷ []) read)
    × (answers ≡ map (λ os. map (λ o. (0, o)) os) outcomes)
    × AreAllAnswers (asked_lists there lists read) outcomes
    × (written_files there (map (λ l. l ∷ []) lists) reads answers ≡ lists_files 0 (rack_read there lists read) outcomes)
