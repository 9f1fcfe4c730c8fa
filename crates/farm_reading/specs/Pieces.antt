-- Pieces of a rack's feeds, and the batches that they make.
use Rattle.std.specs.Prelude.{◌≡◌, ◌+◌, ◌*◌, ◌<◌, ◌≤◌, ◌++◌, ℕ, List, [], ◌∷◌, Vec, length, map, sum_by}
use Rattle.std.specs.List.{slice_range}
use Rattle.std.specs.declared.alloc.Global.{Global}
use Rattle.lrc_code.specs.Requests.{Asked}
use Rattle.farm_orders.specs.declared.orders.Order.{Order}
use Rattle.farm_orders.specs.declared.orders.Order.TheVariants.{Rebuild}
use Rattle.farm_lists.specs.Requests.{listed_before_close}
use Rattle.farm_lists.specs.declared.listing.Record.{Record}
use Rattle.farm_lists.specs.declared.listing.Record.TheVariants as rec
use Rattle.farm_reading.specs.Reading.{close_of}

-- a list up to its first close, with that close
abbrev pub through_close : List Record → List Record
through_close [] = []
through_close (rec.Close ∷ rest) = rec.Close ∷ []
through_close (rec.Rebuild r ∷ rest) = rec.Rebuild r ∷ through_close rest

-- the orders of a list: a rebuild for each request before its close, and the close, where there is one
abbrev pub AreOrdersOf : List Record → List Order → Type 0
AreOrdersOf list orders = (wanted : List Asked) × (length wanted ≡ length (listed_before_close list))
    × (orders ≡ map Rebuild wanted ++ close_of list)

-- the records of all feeds
abbrev pub record_count : List (List Record) → ℕ
record_count lists = sum_by (λ list. length list) lists

-- the bytes of memory that a survivor takes beside its own, and a request beside its survivors: names, paths and rooms
abbrev pub survivor_room : ℕ
survivor_room = 512

abbrev pub request_room : ℕ
request_room = 512

-- the bytes of memory that a record's survivors may take by what it lists, those of a list, and those of the lists of a rack's feeds
abbrev pub record_bytes : Record → ℕ
record_bytes (rec.Rebuild r) = (r.len + survivor_room) * length r.survivors + request_room
record_bytes rec.Close = 0

abbrev pub list_bytes : List Record → ℕ
list_bytes list = sum_by record_bytes list

-- those of lists together
abbrev pub listed_bytes : List (List Record) → ℕ
listed_bytes lists = sum_by list_bytes lists

abbrev pub rack_bytes : List (Vec Record Global) → ℕ
rack_bytes lists = listed_bytes (map (λ list. list.items) lists)

-- more bytes than those of a record
abbrev pub record_most : ℕ
record_most = 137438953472

-- the records of each feed from one position to another
abbrev pub piece : List (List Record) → ℕ → ℕ → List (List Record)
piece lists first end = map (λ list. slice_range list first end) lists

-- Where a batch ends that begins at one of so many positions, by the bytes from one position to another: it has this position, and as
-- many of those after it as take at most so many bytes together with it.
abbrev pub IsBatchEnd : (ℕ → ℕ → ℕ) → ℕ → ℕ → ℕ → ℕ → Type 0
IsBatchEnd bytes count most first end = (first + 1 < end → bytes first end ≤ most) × (end < count → most < bytes first (end + 1))
