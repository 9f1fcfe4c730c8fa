-- The feeds that were read are as few as the lists.
use Rattle.std.proofs.Common.{◌≡◌, ◌<◌, ◌≤◌, Global, Vec, ℕ, zero, suc, List, [], ◌∷◌, All, length, map, sym, ap, arith}
use Rattle.std.proofs.Common.{subst}
use Rattle.std.specs.List.{AllByRecursion}
use Rattle.std.proofs.lemmas.List.{length-map}
use Rattle.std.proofs.lemmas.List.Elements.{recursion_from_All}
use mathlib.Core.Option.{some, some-injective, some-ne-none}
use lib.ListN.{get_elem?}
use Rattle.farm_orders.specs.FedLists.{AreFeeds, IsFewFeeds}
use Rattle.farm_orders.specs.Orders.{before_close}
use Rattle.farm_orders.specs.declared.orders.Order.{Order}
use Rattle.farm_orders.specs.declared.orders.RackList.{RackList}
use Rattle.farm_lists.specs.Requests.{listed_before_close}
use Rattle.farm_lists.specs.declared.listing.Record.{Record}

abbrev pub Rack : Type 0
Rack = Vec RackList Global

abbrev served : List (List Order) → List ℕ
served feeds = map (λ (os : List Order). length (before_close os)) feeds

abbrev listed : List (Vec Record Global) → List ℕ
listed lists = map (λ (v : Vec Record Global). length (listed_before_close v.items)) lists

-- as many feeds as lists, where they have as many requests, feed by feed
pub same_few : (feeds : List (List Order)) (lists : List (Vec Record Global)) → served feeds ≡ listed lists
    → (0 < length lists) × (length lists ≤ 4) → IsFewFeeds feeds
same_few feeds lists same few =
    let sizes : length (served feeds) ≡ length (listed lists) = ap (λ (ns : List ℕ). length ns) same in
    let a = length-map lists (λ (v : Vec Record Global). length (listed_before_close v.items)) in
    let b = length-map feeds (λ (os : List Order). length (before_close os)) in
    (omega (arith, few.0, sizes, a, b), omega (arith, few.1, sizes, a, b))

each_few : (racks : List Rack) → AllByRecursion (λ (r : Rack). IsFewFeeds r.items) racks
    → (k : ℕ) (feeds : List (List Order)) → get_elem? (map (λ r. r.items) racks) k ≡ some feeds → IsFewFeeds feeds
each_few [] few k feeds at = absurd (some-ne-none feeds (sym at))
each_few (r ∷ racks) few zero feeds at = subst IsFewFeeds (some-injective r.items feeds at) few.0
each_few (r ∷ racks) few (suc k) feeds at = each_few racks few.1 k feeds at

pub few_feeds : (racks : List Rack) → length racks ≤ 16 → All (λ (r : Rack). IsFewFeeds r.items) racks
    → AreFeeds (map (λ r. r.items) racks)
few_feeds racks most few = (
  omega (arith, length-map racks (λ (r : Rack). r.items), most),
  each_few racks (recursion_from_All (λ (r : Rack). IsFewFeeds r.items) racks few),
)

-- the feeds of a single rack
pub feeds_of_one : (racks : List Rack) (feeds : List RackList) → map (λ r. r.items) racks ≡ feeds ∷ [] → (0 < length feeds)
    × (length feeds ≤ 4) → AreFeeds (map (λ r. r.items) racks)
feeds_of_one racks feeds is few = subst AreFeeds (sym is) (omega arith, each)
  where
    each : (k : ℕ) (x : List (List Order)) → get_elem? (feeds ∷ []) k ≡ some x → IsFewFeeds x
    each zero x at = subst IsFewFeeds (some-injective feeds x at) few
    each (suc k) x at = absurd (some-ne-none x (sym at))
