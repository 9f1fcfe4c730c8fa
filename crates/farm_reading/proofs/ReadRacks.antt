-- The lists of the racks and of their feeds, one more.
use Rattle.std.proofs.Common.{◌≡◌, ◌<◌, ◌≤◌, ◌+◌, ◌++◌, ◌∙◌, Global, Vec, ℕ, List, [], ◌∷◌, true, false, Option, Some, None, Ok, length}
use Rattle.std.proofs.Common.{All, map, refl, sym, ap, arith, option_map, subst}
use Rattle.std.specs.Prelude.{is_some}
use Rattle.std.proofs.lemmas.Bool.{false≢true}
use Rattle.std.specs.List.{AllByRecursion}
use Rattle.std.proofs.lemmas.List.{length-map, map-append}
use Rattle.std.proofs.lemmas.List.Elements.{All-from_recursion, recursion_from_All}
use Rattle.farm_lists.specs.Listing.{list_of}
use Rattle.farm_lists.specs.declared.listing.Record.{Record}
use Rattle.farm_shelves.specs.Files.{Files, Shown}
use Rattle.farm_lists.specs.Names.{list_name}
use Rattle.farm_reading.specs.Reading.{AreFeeds, AreLists, HaveFeeds, HaveLists}
use Rattle.farm_reading.specs.Faults.{Explains, HasFifthFeed, IsListFault, IsRackFault, RefusesFeed}
use Rattle.farm_reading.specs.declared.faults.ServeFault.{ServeFault}
use Rattle.farm_reading.specs.declared.faults.ServeFault.TheVariants as fault

pub absent : (x : Option (List ℕ)) → option_map list_of x ≡ None → x ≡ None
absent None e = refl
absent (Some b) e = cc

pub not_some : (x : Option (List ℕ)) → is_some x ≡ false → x ≡ None
not_some None e = refl
not_some (Some b) e = cc

-- ---- the feeds of a rack

have_more : (there : Files) (rack f : ℕ) (ls : List (List Record)) (l : List Record) (n : ℕ) → f + length ls ≡ n → HaveFeeds there rack f ls
    → option_map list_of (there (list_name rack n)) ≡ Some (Ok l) → HaveFeeds there rack f (ls ++ l ∷ [])
have_more there rack f [] l n e have is = let same : n ≡ f =
    omega arith in ((let P : ℕ → Type 0 = λ m. option_map list_of (there (list_name rack m)) ≡ Some (Ok l) in subst P same is), tt)
have_more there rack f (x ∷ ls) l n e have is = (have.0, have_more there rack (f + 1) ls l n (omega arith) have.1 is)

pub feeds_push : (there : Files) (rack : ℕ) (feeds : List (Vec Record Global)) (list : Vec Record Global) (n : ℕ) → length feeds ≡ n
    → HaveFeeds there rack 0 (map (λ v. v.items) feeds)
    → option_map list_of (there (list_name rack n)) ≡ Some (Ok list.items)
    → HaveFeeds there rack 0 (map (λ v. v.items) (feeds ++ list ∷ []))
feeds_push there rack feeds list n e have is =
    let P : List (List Record) → Type 0 = λ ls. HaveFeeds there rack 0 ls in
    subst P (sym (map-append (λ (v : Vec Record Global). v.items) feeds (list ∷ [])))
    (have_more there rack 0 (map (λ v. v.items) feeds) list.items n
    (omega (arith, e, length-map feeds (λ (v : Vec Record Global). v.items))) have is)

-- the list of the next feed can't be read
pub feed_explains : (f : ServeFault) (there : Files) (shown : Shown) (rack : ℕ) (feeds : List (Vec Record Global)) (k n m : ℕ)
    → shown ≡ Some there → length feeds ≡ k → k < 4 → HaveFeeds there rack 0 (map (λ v. v.items) feeds)
    → IsListFault f rack k shown n m → IsRackFault f rack there
feed_explains (fault.List j i reason) there shown rack feeds k n m t e few have is =
    let size : length (map (λ (v : Vec Record Global). v.items) feeds) ≡ i =
    length-map feeds (λ (v : Vec Record Global). v.items) ∙ e ∙ sym is.1 in (
      is.0,
      (
        map (λ v. v.items) feeds,
        have,
        size,
        omega (arith, is.1),
        ap (λ i. option_map list_of (there (list_name rack i))) is.1
            ∙ is.3 there t,
      ),
    )
feed_explains fault.Device there shown rack feeds k n m t e few have is = tt
feed_explains fault.OutOfMemory there shown rack feeds k n m t e few have is = tt
feed_explains fault.BadFeeds there shown rack feeds k n m t e few have is = absurd is
feed_explains fault.TooManyRacks there shown rack feeds k n m t e few have is = absurd is
feed_explains fault.NoRacks there shown rack feeds k n m t e few have is = absurd is
feed_explains fault.NoThread there shown rack feeds k n m t e few have is = absurd is

-- a fifth feed is there
pub fifth_explains : (there : Files) (rack : ℕ) (feeds : List (Vec Record Global)) (k : ℕ) → length feeds ≡ k → k ≡ 4
    → HaveFeeds there rack 0 (map (λ v. v.items) feeds) → is_some (there (list_name rack 4)) ≡ true
    → IsRackFault fault.BadFeeds rack there
fifth_explains there rack feeds k e all have is = (
  map (λ v. v.items) feeds,
  have,
  length-map feeds (λ (v : Vec Record Global). v.items) ∙ e
      ∙ all,
  λ none. false≢true (ap is_some (sym none) ∙ is),
)

-- ---- the racks

abbrev Feeds : Type 0
Feeds = Vec (Vec Record Global) Global

abbrev Rack : Type 0
Rack = List (List Record)

abbrev pub records : Feeds → Rack
records feeds = map (λ (v : Vec Record Global). v.items) feeds.items

pub have_rack_more : (there : Files) (k : ℕ) (racks : List (List (List Record))) (feeds : List (List Record)) (n : ℕ) → k + length racks ≡ n
    → HaveLists there k racks → AreFeeds there n feeds
    → HaveLists there k (racks ++ feeds ∷ [])
have_rack_more there k [] feeds n e have are = let same : n ≡ k =
    omega arith in ((let P : ℕ → Type 0 = λ m. AreFeeds there m feeds in subst P same are), tt)
have_rack_more there k (x ∷ racks) feeds n e have are = (have.0, have_rack_more there (k + 1) racks feeds n (omega arith) have.1 are)

-- the feeds that were read are all of their rack
pub feeds_all : (there : Files) (rack : ℕ) (feeds : Feeds) → HaveFeeds there rack 0 (map (λ v. v.items) feeds.items)
    → there (list_name rack (length feeds.items)) ≡ None → 0 < length feeds.items → length feeds.items ≤ 4
    → AreFeeds there rack (records feeds)
feeds_all there rack feeds have none some few =
    let size = length-map feeds.items (λ (v : Vec Record Global). v.items) in
    (have, ap (λ n. there (list_name rack n)) size ∙ none, omega (arith, size), omega (arith, size))

-- the records of lists that have few are few
pub lists_few : (feeds : List (Vec Record Global)) → All (λ (v : Vec Record Global). length v.items ≤ 4096) feeds
    → All (λ (list : List Record). length list ≤ 4096) (map (λ v. v.items) feeds)
lists_few feeds few =
    All-from_recursion (λ (list : List Record). length list ≤ 4096) (map (λ (v : Vec Record Global). v.items) feeds)
    (each feeds (recursion_from_All (λ (v : Vec Record Global). length v.items ≤ 4096) feeds few))
  where
    each : (ls : List (Vec Record Global)) → AllByRecursion (λ (v : Vec Record Global). length v.items ≤ 4096) ls
        → AllByRecursion (λ (list : List Record). length list ≤ 4096) (map (λ (v : Vec Record Global). v.items) ls)
    each [] few = tt
    each (l ∷ ls) few = (few.0, each ls few.1)

pub racks_all : (there : Files) (racks : List Rack) (k : ℕ) → length racks ≡ k → 0 < k → k ≤ 16 → HaveLists there 0 racks
    → there (list_name k 0) ≡ None → AreLists there racks
racks_all there racks k e some few have none =
    (have, ap (λ n. there (list_name n 0)) e ∙ none, omega (arith, e), omega (arith, e))

-- no feed of the rack is there
pub none_at : (there : Files) (rack : ℕ) (feeds : Feeds) → there (list_name rack (length feeds.items)) ≡ None → length feeds.items ≡ 0
    → there (list_name rack 0) ≡ None
none_at there rack feeds none empty = ap (λ n. there (list_name rack n)) (sym empty) ∙ none

-- the lists of the next rack's feeds can't be read
pub rack_explains : (f : ServeFault) (there : Files) (racks : List Rack) (k : ℕ) → length racks ≡ k → k < 16
    → HaveLists there 0 racks → IsRackFault f k there → Explains f there
rack_explains (fault.List j i reason) there racks k e few have is =
    (racks, have, e ∙ sym is.0, omega (arith, is.0), subst (λ r. RefusesFeed there r i reason) (sym is.0) is.1)
rack_explains fault.BadFeeds there racks k e few have is = (racks, have, omega (arith, e), subst (HasFifthFeed there) (sym e) is)
rack_explains fault.Device there racks k e few have is = tt
rack_explains fault.OutOfMemory there racks k e few have is = tt
rack_explains fault.TooManyRacks there racks k e few have is = absurd is
rack_explains fault.NoRacks there racks k e few have is = absurd is
rack_explains fault.NoThread there racks k e few have is = absurd is

pub many_explain : (there : Files) (racks : List Rack) (k : ℕ) → length racks ≡ k → k ≡ 16 → HaveLists there 0 racks
    → is_some (there (list_name 16 0)) ≡ true → Explains fault.TooManyRacks there
many_explain there racks k e all have is = (racks, have, e ∙ all, λ none. false≢true (ap is_some (sym none) ∙ is))
