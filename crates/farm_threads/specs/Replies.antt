-- Replies to requests, the cells of a table that they are put in, and what a collector holds of them.
use Rattle.std.specs.Prelude.{ℕ, ◌≡◌, ◌<◌, ◌⊎◌, ⊤, List, [], slice_index_or, Option, Some, None, map, length, option_map}
use Rattle.lrc_code.specs.Requests.{Asked}
use Rattle.lrc_code.specs.Answers.{IsAnswer}
use Rattle.farm_orders.specs.declared.orders.Order.{Order}
use Rattle.farm_threads.specs.declared.replies.ReplyResult.{ReplyResult}
use Rattle.farm_threads.specs.declared.replies.ReplyResult.TheVariants.{Done, Starved}
use Rattle.farm_orders.specs.Orders.{served, IsServed, before_close}
use Rattle.lrc_code.specs.declared.outcomes.Outcome.{Outcome}

-- what a reply may say of a request: its answer, or that memory was refused
abbrev pub IsRight : Asked → ReplyResult → Type 0
IsRight request (Done outcome) = IsAnswer request outcome
IsRight request Starved = ⊤

-- a reply: to the request of a rack, or of a slot in a run, and a number, and what became of it
pub record Replied : Type 0 where
  pub rack : ℕ
  pub number : ℕ
  pub request : Asked
  pub result : ReplyResult

-- a request with the rack, or the slot in a run, that the reply to it names, and what became of it
pub record Entry : Type 0 where
  pub rack : ℕ
  pub request : Asked
  pub result : ReplyResult

-- what is kept of a reply besides its number
abbrev pub entry_of : Replied → Entry
entry_of reply = record { rack = reply.rack; request = reply.request; result = reply.result }

-- the racks, and for each request that is served the reply to it, if one came
pub record Collected : Type 0 where
  pub racks : List (List Order)
  pub table : List (List (Option Entry))

-- what is in the cell of this rack and number
abbrev pub cell_at : List (List (Option Entry)) → ℕ → ℕ → Option Entry
cell_at table rack number = slice_index_or (slice_index_or table rack []) number None

-- the reply that came to this request of this rack
abbrev pub reply_at : Collected → ℕ → ℕ → Option Entry
reply_at c rack number = cell_at c.table rack number

-- no reply has come
abbrev pub IsNothingYet : List (List Order) → Collected → Type 0
IsNothingYet racks c = (c.racks ≡ racks) × ((rack number : ℕ) → reply_at c rack number ≡ None)

-- the second has this reply too, and else what the first has
abbrev pub IsAdded : Collected → ℕ → ℕ → Entry → Collected → Type 0
IsAdded c rack number entry added =
    (added.racks ≡ c.racks)
    × (reply_at added rack number ≡ Some entry)
    × ((r k : ℕ) → ((r ≡ rack) × (k ≡ number) → ⊥) → reply_at added r k ≡ reply_at c r k)

-- a reply that must come has not come
abbrev pub IsMissing : Collected → ℕ → ℕ → Type 0
IsMissing c rack number = IsServed c.racks rack number × (reply_at c rack number ≡ None)

abbrev pub IsComplete : Collected → Type 0
IsComplete c = (rack number : ℕ) → IsMissing c rack number → ⊥

-- in the order of racks, and of numbers in a rack
abbrev pub IsBefore : ℕ → ℕ → ℕ → ℕ → Type 0
IsBefore rack number rack' number' = (rack < rack') ⊎ ((rack ≡ rack') × (number < number'))

abbrev pub IsLeastMissing : Collected → ℕ → ℕ → Type 0
IsLeastMissing c rack number =
    IsMissing c rack number × ((r k : ℕ) → IsBefore r k rack number → IsMissing c r k → ⊥)

-- each reply that came answers the request of its rack and number
abbrev pub IsInPlace : Collected → Type 0
IsInPlace c = (rack number : ℕ) (e : Entry) (d : Asked) → reply_at c rack number ≡ Some e
    → e.request ≡ slice_index_or (served c.racks rack) number d

-- no reply said that memory was refused
abbrev pub NoneStarved : Collected → Type 0
NoneStarved c = (rack number : ℕ) (e : Entry) → reply_at c rack number ≡ Some e → e.result ≡ Starved → ⊥

-- a row's entries
abbrev pub entries : List (Option Replied) → List (Option Entry)
entries cells = map (option_map entry_of) cells

-- this outcome answers the request of this entry, which says so
abbrev pub Answers : Option Entry → Outcome → Type 0
Answers None outcome = ⊥
Answers (Some e) outcome = IsAnswer e.request outcome × (e.result ≡ Done outcome)

-- there is a row for each rack, with a cell for each request that is served
abbrev pub HasShape : List (List Order) → List (List (Option Entry)) → Type 0
HasShape racks table = map (λ (row : List (Option Entry)). length row) table ≡ map (λ orders. length (before_close orders)) racks

-- no reply is there
abbrev pub IsGap : List (Option Entry) → ℕ → Type 0
IsGap row k = (k < length row) × (slice_index_or row k None ≡ None)

abbrev pub IsFirstGap : List (Option Entry) → ℕ → Type 0
IsFirstGap row k = IsGap row k × ((j : ℕ) → j < k → IsGap row j → ⊥)

abbrev pub HasNoGap : List (Option Entry) → Type 0
HasNoGap row = (j : ℕ) → IsGap row j → ⊥

-- the first gap of all rows, in the order of rows and numbers
abbrev pub IsLeastGap : List (List (Option Entry)) → ℕ → ℕ → Type 0
IsLeastGap table rack number =
    (rack < length table)
    × IsFirstGap (slice_index_or table rack []) number
    × ((r : ℕ) → r < rack → HasNoGap (slice_index_or table r []))

-- no row has a gap
abbrev pub HasNoGaps : List (List (Option Entry)) → Type 0
HasNoGaps table = (r : ℕ) → HasNoGap (slice_index_or table r [])

-- there is a cell for this rack and number
abbrev pub HasCell : List (List (Option Entry)) → ℕ → ℕ → Type 0
HasCell table rack number = number < length (slice_index_or table rack [])

-- the second table has this entry too, and else what the first has, in as many cells
abbrev pub IsEntered : List (List (Option Entry)) → ℕ → ℕ → Entry → List (List (Option Entry)) → Type 0
IsEntered table rack number entry more =
    (map (λ (row : List (Option Entry)). length row) more ≡ map (λ (row : List (Option Entry)). length row) table)
    × (cell_at more rack number ≡ Some entry)
    × ((r k : ℕ) → ((r ≡ rack) × (k ≡ number) → ⊥) → cell_at more r k ≡ cell_at table r k)
