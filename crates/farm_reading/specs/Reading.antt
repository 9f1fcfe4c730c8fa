-- What serving a folder of lists reads: the lists, the fragments, and the orders that these give.
use Rattle.std.specs.Prelude.{◌≡◌, ◌+◌, ◌<◌, ◌≤◌, ◌==◌, ◌++◌, Bool, ℕ, List, [], ◌∷◌, length, map, Option, Some, None, Ok, option_map}
use Rattle.std.specs.Prelude.{option_and_then, if◌then◌else◌, count_by, sum_by}
use Rattle.std.specs.List.{AllZip, filter, filter_map}
use Rattle.std.specs.Option.{is_none}
use Rattle.lrc_code.specs.declared.places.Place.{Place}
use Rattle.lrc_code.specs.Requests.{Asked, Survivor}
use Rattle.farm_orders.specs.declared.orders.Order.{Order}
use Rattle.farm_orders.specs.declared.orders.Order.TheVariants.{Rebuild, Close}
use Rattle.farm_orders.specs.Limits.{feed_limit, rack_limit}
use Rattle.farm_reading.specs.Pairs.{zip_with}
use Rattle.farm_lists.specs.Listed.{ListedRequest}
use Rattle.farm_lists.specs.Listing.{list_of}
use Rattle.farm_lists.specs.Requests.{RequestRead, listed_before_close}
use Rattle.farm_lists.specs.declared.listing.Record.{Record}
use Rattle.farm_lists.specs.declared.listing.Record.TheVariants as rec
use Rattle.farm_shelves.specs.Files.{Files}
use Rattle.farm_lists.specs.Names.{fragment_name, list_name}

-- ---- the lists

-- the feeds of a rack from the f-th on have these lists
abbrev pub HaveFeeds : Files → ℕ → ℕ → List (List Record) → Type 0
HaveFeeds there rack f [] = Unit {0}
HaveFeeds there rack f (l ∷ ls) = (option_map list_of (there (list_name rack f)) ≡ Some (Ok l)) × HaveFeeds there rack (f + 1) ls

-- these are the lists of all feeds of a rack
abbrev pub AreFeeds : Files → ℕ → List (List Record) → Type 0
AreFeeds there rack feeds = HaveFeeds there rack 0 feeds × (there (list_name rack (length feeds)) ≡ None) × (0 < length feeds)
    × (length feeds ≤ feed_limit)

-- the racks from the k-th on have these lists, feed by feed
abbrev pub HaveLists : Files → ℕ → List (List (List Record)) → Type 0
HaveLists there k [] = Unit {0}
HaveLists there k (feeds ∷ racks) = AreFeeds there k feeds × HaveLists there (k + 1) racks

-- these are the lists of all racks, feed by feed
abbrev pub AreLists : Files → List (List (List Record)) → Type 0
AreLists there racks = HaveLists there 0 racks × (there (list_name (length racks) 0) ≡ None) × (0 < length racks)
    × (length racks ≤ rack_limit)

-- ---- the fragments

-- the reads of a request's listed survivors, in order: each with its place, and whether the device failed
abbrev pub Reads : Type 0
Reads = List (Place × Bool)

-- the bytes that a read gives, where its file is there, is as long as listed and the device didn't fail
unfoldable pub fragment : Files → ListedRequest → Place × Bool → Option (List ℕ)
fragment there r read =
    if read.1 then None
    else option_and_then (λ b. if length b == r.len then Some b else None) (there (fragment_name r.stripe read.0))

abbrev pub survivor : Files → ListedRequest → Place × Bool → Option Survivor
survivor there r read = option_map (λ b. record { place = read.0; bytes = b }) (fragment there r read)

-- the request with the survivors that were read
abbrev pub asked : Files → ListedRequest → Reads → Asked
asked there r reads = record {
  code = r.code;
  stripe = r.stripe;
  target = r.target;
  len = r.len;
  survivors = filter_map (survivor there r) reads;
}

-- the places of the others
abbrev pub unread : Files → ListedRequest → Reads → List Place
unread there r reads = map (λ q. q.0) (filter (λ q. is_none (fragment there r q)) reads)

-- the request as listed, and those places
abbrev pub request_read : Files → ListedRequest → Reads → RequestRead
request_read there r reads = record { listed = r; unread = unread there r reads }

-- how often the device failed
abbrev pub failures : Reads → ℕ
failures reads = count_by (λ q. q.1) reads

-- the reads are those of the listed survivors
abbrev pub AreReads : ListedRequest → Reads → Type 0
AreReads r reads = map (λ q. q.0) reads ≡ r.survivors

-- ---- the requests of a feed

abbrev pub asked_feed : Files → List ListedRequest → List Reads → List Asked
asked_feed there rs reads = zip_with (asked there) rs reads

abbrev pub feed_read : Files → List ListedRequest → List Reads → List RequestRead
feed_read there rs reads = zip_with (request_read there) rs reads

abbrev pub feed_failures : List Reads → ℕ
feed_failures reads = sum_by failures reads

-- the close of a list, where it has one
abbrev pub close_of : List Record → List Order
close_of [] = []
close_of (rec.Close ∷ rest) = Close ∷ []
close_of (rec.Rebuild r ∷ rest) = close_of rest

-- the orders of a feed: its requests before its close, with the survivors that were read, and its close, where it has one
abbrev pub orders_feed : Files → List Record → List Reads → List Order
orders_feed there list reads = map Rebuild (asked_feed there (listed_before_close list) reads) ++ close_of list

-- ---- the feeds of a rack

-- the reads of a rack's feeds: of each feed those of its requests before its close
abbrev pub AreRackReads : List (List Record) → List (List Reads) → Type 0
AreRackReads feeds reads = AllZip (λ list feed. AllZip AreReads (listed_before_close list) feed) feeds reads

-- the orders of each feed of a rack
abbrev pub orders_rack : Files → List (List Record) → List (List Reads) → List (List Order)
orders_rack there feeds reads = zip_with (orders_feed there) feeds reads

-- the requests of each feed of a rack, each with the places that were left out
abbrev pub rack_read : Files → List (List Record) → List (List Reads) → List (List RequestRead)
rack_read there feeds reads = zip_with (λ list feed. feed_read there (listed_before_close list) feed) feeds reads

-- how often the device failed over a rack
abbrev pub rack_failures : List (List Reads) → ℕ
rack_failures reads = sum_by feed_failures reads

-- ---- all racks

-- the reads of all racks
abbrev pub AreAllReads : List (List (List Record)) → List (List (List Reads)) → Type 0
AreAllReads racks reads = AllZip AreRackReads racks reads

-- the orders of all racks, feed by feed
abbrev pub orders_all : Files → List (List (List Record)) → List (List (List Reads)) → List (List (List Order))
orders_all there racks reads = zip_with (orders_rack there) racks reads

-- the requests of all racks, feed by feed
abbrev pub all_read : Files → List (List (List Record)) → List (List (List Reads)) → List (List (List RequestRead))
all_read there racks reads = zip_with (rack_read there) racks reads

-- how often the device failed over all racks
abbrev pub all_failures : List (List (List Reads)) → ℕ
all_failures reads = sum_by rack_failures reads

-- how many requests are before the close of each list
abbrev pub listed_counts : List (List (List Record)) → List (List ℕ)
listed_counts racks = map (λ feeds. map (λ list. length (listed_before_close list)) feeds) racks
