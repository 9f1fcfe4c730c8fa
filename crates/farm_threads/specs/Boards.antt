-- What a farm holds of the replies to the requests of some racks' feeds, and the refusal that it keeps.
use Rattle.std.specs.Prelude.{ℕ, ◌≡◌, ◌+◌, ◌<◌, ◌==◌, ◌&&◌, if◌then◌else◌, List, [], ◌∷◌, length, map, slice_index_or, Option, Some, None}
use Rattle.std.specs.Prelude.{◌++◌, IsSome}
use Rattle.std.specs.List.{sum_by, AllZip}
use Rattle.lrc_code.specs.declared.outcomes.Outcome.{Outcome}
use Rattle.lrc_code.specs.Answers.{IsAnswer}
use Rattle.lrc_code.specs.Requests.{Asked}
use Rattle.farm_lanes.specs.Counting.{once_below}
use Rattle.farm_orders.specs.declared.orders.Order.{Order}
use Rattle.farm_threads.specs.declared.replies.ReplyResult.TheVariants.{Done}
use Rattle.farm_orders.specs.Orders.{before_close}
use Rattle.farm_threads.specs.Replies.{Replied, Entry, cell_at, entry_of}
use Rattle.farm_threads.specs.RunFeeds.{slot_rack, slot_feed}
use Rattle.farm_threads.specs.Merge.{IsLawfulMerge}
use mathlib.Core.Option.{some}
use lib.ListN.{get_elem?}
use Rattle.farm_threads.specs.declared.replies.CollectFault.{CollectFault}
use Rattle.farm_threads.specs.declared.replies.CollectFault.TheVariants.{Stranger, Double}

-- how many requests are before the closes of a rack's feeds; so many may be answered
abbrev pub most_served : List (List Order) → ℕ
most_served feeds = sum_by (λ (list : List Order). length (before_close list)) feeds

-- the feeds of each rack, and for each number that they may draw the reply that came to it
pub record Held : Type 0 where
  pub racks : List (List (List Order))
  pub table : List (List (Option Entry))

-- there is a row for each rack, with a cell for each number that its feeds may draw
abbrev pub HasRooms : List (List (List Order)) → List (List (Option Entry)) → Type 0
HasRooms racks table = map (λ (row : List (Option Entry)). length row) table ≡ map most_served racks

-- the reply that came to this number of this rack
abbrev pub held_at : Held → ℕ → ℕ → Option Entry
held_at b rack number = cell_at b.table rack number

-- the feeds of this rack may draw this number
abbrev pub HasRoom : List (List (List Order)) → ℕ → ℕ → Type 0
HasRoom racks rack number = number < most_served (slice_index_or racks rack [])

-- no reply has come
abbrev pub HoldsNothing : List (List (List Order)) → Held → Type 0
HoldsNothing racks b = (b.racks ≡ racks) × ((rack number : ℕ) → held_at b rack number ≡ None)

-- the second holds this reply too, and else what the first holds
abbrev pub IsHeldToo : Held → ℕ → ℕ → Entry → Held → Type 0
IsHeldToo b rack number entry more =
    (more.racks ≡ b.racks)
    × (held_at more rack number ≡ Some entry)
    × ((r k : ℕ) → ((r ≡ rack) × (k ≡ number) → ⊥) → held_at more r k ≡ held_at b r k)

-- how many of the replies are by this number of a slot of this rack
abbrev pub replies_to : ℕ → ℕ → List Replied → ℕ
replies_to rack number [] = 0
replies_to rack number (x ∷ xs) = (if (slot_rack x.rack == rack) && (x.number == number) then 1 else 0) + replies_to rack number xs

-- of each rack one reply by each number below its count, and none by any other
abbrev pub AreOneEach : (ℕ → ℕ) → List Replied → Type 0
AreOneEach count xs = (rack number : ℕ) → replies_to rack number xs ≡ once_below number (count rack)

-- the entries before the first gap
abbrev pub filled : List (Option Entry) → List Entry
filled [] = []
filled (None ∷ cells) = []
filled (Some e ∷ cells) = e ∷ filled cells

-- the requests of these entries, each with the feed of its slot
abbrev pub merge_of : List (Option Entry) → List (ℕ × Asked)
merge_of row = map (λ (e : Entry). (slot_feed e.rack, e.request)) (filled row)

-- of each rack the replies before the first gap are those to a lawful merge of its feeds
abbrev pub AreMergedRows : List (List (List Order)) → List (List (Option Entry)) → Type 0
AreMergedRows racks table = AllZip (λ feeds row. IsLawfulMerge feeds (merge_of row)) racks table

-- the outcome with the feed of its slot is what this entry says, and answers its request
abbrev pub IsOutcomeOf : Entry → ℕ × Outcome → Type 0
IsOutcomeOf e answer = (answer.0 ≡ slot_feed e.rack) × IsAnswer e.request answer.1 × (e.result ≡ Done answer.1)

-- this entry is that of a reply among these, by this number of this rack
abbrev pub IsAmong : List Replied → ℕ → ℕ → Entry → Type 0
IsAmong xs rack number e = (i : ℕ) × (x : Replied) × (get_elem? xs i ≡ some x) × (slot_rack x.rack ≡ rack) × (x.number ≡ number)
    × (entry_of x ≡ e)

-- just these replies are held
pub record HoldsAll (b : Held) (racks : List (List (List Order))) (xs : List Replied) : Type 0 where
  pub racks_is : b.racks ≡ racks
  pub none : (r k : ℕ) → replies_to r k xs ≡ 0 → held_at b r k ≡ None
  pub some : (r k : ℕ) → 0 < replies_to r k xs → IsSome (held_at b r k)
  pub among : (r k : ℕ) (e : Entry) → held_at b r k ≡ Some e → IsAmong xs r k e

-- the reply is by a number that no feed of its rack may draw, or the second by its number; it is handed back
abbrev pub IsNotHeld : Held → Replied → CollectFault → Type 0
IsNotHeld b reply (Stranger back) = (back ≡ reply) × (HasRoom b.racks (slot_rack reply.rack) reply.number → ⊥)
IsNotHeld b reply (Double back) = (back ≡ reply) × HasRoom b.racks (slot_rack reply.rack) reply.number
    × IsSome (held_at b (slot_rack reply.rack) reply.number)

-- of these replies one was refused, and those before it are held
pub record WasNotHeld (racks : List (List (List Order))) (b : Held) (fault : CollectFault) (xs : List Replied) : Type 0 where
  pub done : List Replied
  pub reply : Replied
  pub rest : List Replied
  pub is : xs ≡ done ++ reply ∷ rest
  pub gathered : HoldsAll b racks done
  pub refused : IsNotHeld b reply fault

-- what is held of these replies, with the first refusal
abbrev pub HasHeld : List (List (List Order)) → Held → Option CollectFault → List Replied → Type 0
HasHeld racks b None xs = HoldsAll b racks xs
HasHeld racks b (Some fault) xs = WasNotHeld racks b fault xs
