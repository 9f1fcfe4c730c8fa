-- What is answered of the lists of some racks, batch by batch.
use Rattle.std.specs.Prelude.{◌≡◌, ◌++◌, ℕ, Bool, true, false, List, length, map, Some, Vec}
use Rattle.std.specs.declared.alloc.Global.{Global}
use Rattle.lrc_code.specs.declared.outcomes.Outcome.{Outcome}
use Rattle.farm_core.specs.Merge.{AreAllMergedAnswers, AreMergedAnswers, AreOpen, HaveClose}
use Rattle.farm_orders.specs.Orders.{before_close}
use Rattle.farm_orders.specs.declared.orders.Order.{Order}
use Rattle.farm_shelves.specs.Files.{Files, Shown}
use Rattle.farm_lists.specs.Requests.{RequestRead, read_of}
use Rattle.farm_reading.specs.Reading.{AreAllReads, Reads, all_read, listed_counts, orders_all}
use Rattle.farm_lists.specs.declared.listing.Record.{Record}
use Rattle.farm_lists.specs.declared.requests.ReadRequest.{ReadRequest}

-- the answers of racks
abbrev pub all_answers : List (Vec (ℕ × Outcome) Global) → List (List (ℕ × Outcome))
all_answers racks = map (λ answers. answers.items) racks

-- the requests of a rack's feeds
abbrev pub rack_requests : List (Vec ReadRequest Global) → List (List RequestRead)
rack_requests feeds = map (λ requests. map read_of requests.items) feeds

-- the requests of racks, feed by feed
abbrev pub all_requests : List (Vec (Vec ReadRequest Global) Global) → List (List (List RequestRead))
all_requests racks = map (λ feeds. map (λ requests. map read_of requests.items) feeds.items) racks

-- Of racks with these lists: the reads of their survivors, and of each rack the answers to a lawful merge of its feeds' orders. Where the
-- input shows its files, these orders are those that the lists and the reads give, and so are the requests, with the places that were left
-- out.
pub record AreAnswered (shown : Shown) (lists : List (List (List Record))) (reads : List (List (List Reads)))
    (answers : List (List (ℕ × Outcome)))
    (requests : List (List (List RequestRead))) : Type 0 where
  pub read : AreAllReads lists reads
  pub orders : List (List (List Order))
  pub ordered : map (λ feeds. map (λ list. length (before_close list)) feeds) orders ≡ listed_counts lists
  pub merged : AreAllMergedAnswers orders answers
  pub counted : map (λ feeds. map (λ rs. length rs) feeds) requests ≡ listed_counts lists
  pub given : (there : Files) → shown ≡ Some there → (orders ≡ orders_all there lists reads) × (requests ≡ all_read there lists reads)

-- The answers to a piece's orders have come after those before, and whether the rack has ended now is whether the piece has a close; or the
-- rack had ended before, and no answer has come.
abbrev pub IsAnsweredOnce : List (List Order) → Bool → List (ℕ × Outcome) → List (ℕ × Outcome) → Bool → Type 0
IsAnsweredOnce orders true before after ended = (after ≡ before) × (ended ≡ true)
IsAnsweredOnce orders false before after ended = (more : List (ℕ × Outcome)) × AreMergedAnswers orders more × (after ≡ before ++ more)
    × (ended ≡ true → HaveClose orders) × (ended ≡ false → AreOpen orders)
