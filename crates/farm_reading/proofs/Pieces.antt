-- Pieces of a rack's feeds.
use Rattle.std.proofs.Common.{◌≡◌, ◌<◌, ◌≤◌, ◌+◌, ◌*◌, ◌++◌, ◌∙◌, Bor, Vec, Global, ℕ, zero, suc, Bool, List, [], ◌∷◌, All, length, map}
use Rattle.std.proofs.Common.{take, drop, get_or, refl, ap, subst, arith}
use Rattle.std.specs.Prelude.{nat_lt}
use Rattle.std.specs.List.{AllZip}
use Rattle.std.proofs.lemmas.List.Sums.{sum_by-cons}
use Rattle.lrc_code.specs.Requests.{Asked}
use Rattle.farm_orders.specs.Orders.{HasClose, before_close}
use Rattle.farm_orders.specs.declared.orders.Order.{Order}
use Rattle.farm_orders.specs.declared.orders.Order.TheVariants.{Rebuild, Close}
use Rattle.farm_shelves.specs.Files.{Files}
use Rattle.farm_lists.specs.Listed.{ListedRequest}
use Rattle.farm_lists.specs.Requests.{RequestRead, listed_before_close}
use Rattle.farm_lists.specs.declared.listing.Record.{Record}
use Rattle.farm_lists.specs.declared.listing.Record.TheVariants as rec
use Rattle.farm_reading.specs.Pieces.{AreOrdersOf, record_count, through_close}
use Rattle.farm_reading.specs.Reading.{AreRackReads, AreReads, Reads, close_of, feed_read, orders_feed, orders_rack, rack_read}
use Rattle.farm_reading.proofs.ReadRequests.{all_served, close_is}

-- ---- a list up to its first close

pub same_requests : (list : List Record) → listed_before_close (through_close list) ≡ listed_before_close list
same_requests [] = refl
same_requests (rec.Close ∷ list) = refl
same_requests (rec.Rebuild r ∷ list) = ap (λ (t : List ListedRequest). r ∷ t) (same_requests list)

pub same_close : (list : List Record) → close_of (through_close list) ≡ close_of list
same_close [] = refl
same_close (rec.Close ∷ list) = refl
same_close (rec.Rebuild r ∷ list) = same_close list

pub through_few : (list : List Record) → length (through_close list) ≤ length list
through_few [] = omega arith
through_few (rec.Close ∷ list) = omega arith
through_few (rec.Rebuild r ∷ list) = let few = through_few list in omega (arith, few)

-- it is the requests before the close, and one record more
pub front_is : (list : List Record) (n : ℕ) → n ≡ length (listed_before_close list) + 1 → take n list ≡ through_close list
front_is list zero is = absurd (omega (arith, is))
front_is [] (suc n) is = refl
front_is (rec.Close ∷ list) (suc n) is = let none : n ≡ 0 = omega (arith, is) in ap (λ (k : ℕ). rec.Close ∷ take k list) none
front_is (rec.Rebuild r ∷ list) (suc n) is = ap (λ (t : List Record). rec.Rebuild r ∷ t) (front_is list n (omega (arith, is)))

-- and the whole list, where all records are requests
pub whole_is : (list : List Record) → length list ≤ length (listed_before_close list) → list ≡ through_close list
whole_is [] most = refl
whole_is (rec.Close ∷ list) most = absurd (omega (arith, most))
whole_is (rec.Rebuild r ∷ list) most = ap (λ (t : List Record). rec.Rebuild r ∷ t) (whole_is list (omega (arith, most)))

-- ---- the orders of a list

pub orders_served : (list : List Record) (orders : List Order) → AreOrdersOf list orders
    → length (before_close orders) ≡ length (listed_before_close list)
orders_served list orders are =
    let closes : Bool = nat_lt (length (listed_before_close list)) (length list) in
    ap (λ (t : List Asked). length t) (all_served orders are.0 closes
    (are.2 ∙ ap (λ (tail : List Order). map Rebuild are.0 ++ tail) (close_is list closes refl))) ∙ are.1

-- a list has a close where not all its orders are requests before one
pub has_close : (list : List Order) → length (before_close list) < length list → HasClose list
has_close [] less = absurd (omega (arith, less))
has_close (Close ∷ list) less = (0, omega arith, refl)
has_close (Rebuild r ∷ list) less = let has = has_close list (omega (arith, less)) in
    (suc has.0, (let within = has.1 in omega (arith, within)), has.2)

pub has_no_close : (list : List Order) → length list ≤ length (before_close list) → HasClose list → ⊥
has_no_close [] most has = let within = has.1 in omega (arith, within)
has_no_close (Close ∷ list) most has = omega (arith, most)
has_no_close (Rebuild r ∷ list) most has = at has.0 has.1 has.2 (has_no_close list (omega (arith, most)))
  where
    at : (k : ℕ) → k < length (Rebuild r ∷ list) → get_or (Rebuild r ∷ list) k Close ≡ Close → (HasClose list → ⊥) → ⊥
    at zero within is not = cc
    at (suc k) within is not = not (k, omega (arith, within), is)

-- ---- a rack's lists up to their closes

abbrev served : Vec Record Global → List Record
served list = through_close list.items

abbrev all : Vec Record Global → List Record
all list = list.items

pub reads_same : (lists : List (Vec Record Global)) (reads : List (List Reads)) → AreRackReads (map served lists) reads
    → AreRackReads (map all lists) reads
reads_same [] [] are = tt
reads_same [] (q ∷ reads) are = absurd are
reads_same (l ∷ lists) [] are = absurd are
reads_same (l ∷ lists) (q ∷ reads) are = (
  subst (λ (rs : List ListedRequest). AllZip AreReads rs q) (same_requests l.items) are.0,
  reads_same lists reads are.1,
)

pub orders_same : (there : Files) (lists : List (Vec Record Global)) (reads : List (List Reads))
    → orders_rack there (map served lists) reads ≡ orders_rack there (map all lists) reads
orders_same there [] reads = refl
orders_same there (l ∷ lists) [] = refl
orders_same there (l ∷ lists) (q ∷ reads) =
    ap (λ (os : List Order). os ∷ orders_rack there (map served lists) reads) (one l.items q)
    ∙ ap (λ (t : List (List Order)). orders_feed there l.items q ∷ t) (orders_same there lists reads)
  where
    one : (list : List Record) (feed : List Reads) → orders_feed there (through_close list) feed ≡ orders_feed there list feed
    one list feed = rw (same_requests list, same_close list) refl

pub requests_same : (there : Files) (lists : List (Vec Record Global)) (reads : List (List Reads))
    → rack_read there (map served lists) reads ≡ rack_read there (map all lists) reads
requests_same there [] reads = refl
requests_same there (l ∷ lists) [] = refl
requests_same there (l ∷ lists) (q ∷ reads) =
    ap (λ (rs : List ListedRequest). feed_read there rs q ∷ rack_read there (map served lists) reads) (same_requests l.items)
    ∙ ap (λ (t : List (List RequestRead)). feed_read there (listed_before_close l.items) q ∷ t) (requests_same there lists reads)

pub counts_through : (lists : List (Vec Record Global)) → map (λ (list : List Record). length (listed_before_close list)) (map served lists)
    ≡ map (λ (list : Vec Record Global). length (listed_before_close list.items)) lists
counts_through [] = refl
counts_through (l ∷ lists) =
    ap (λ (rs : List ListedRequest). length rs ∷ map (λ (list : List Record). length (listed_before_close list)) (map served lists))
    (same_requests l.items)
    ∙ ap (λ (t : List ℕ). length (listed_before_close l.items) ∷ t) (counts_through lists)

pub orders_counted : (lists : List (List Record)) (orders : List (List Order)) → AllZip AreOrdersOf lists orders
    → map (λ (os : List Order). length (before_close os)) orders ≡ map (λ (list : List Record). length (listed_before_close list)) lists
orders_counted [] [] are = refl
orders_counted [] (os ∷ orders) are = absurd are
orders_counted (l ∷ lists) [] are = absurd are
orders_counted (l ∷ lists) (os ∷ orders) are =
    ap (λ (n : ℕ). n ∷ map (λ (xs : List Order). length (before_close xs)) orders) (orders_served l os are.0)
    ∙ ap (λ (t : List ℕ). length (listed_before_close l) ∷ t) (orders_counted lists orders are.1)

-- ---- how many records

pub count_within : (lists : List (Bor (List Record))) (i : ℕ) (d : Bor (List Record)) → i < length lists
    → record_count (map (λ l. l.now) (take i lists)) + length (get_or lists i d).now ≤ record_count (map (λ l. l.now) lists)
count_within [] i d within = absurd (omega (arith, within))
count_within (l ∷ lists) zero d within = omega (
  arith,
  sum_by-cons (λ (list : List Record). length list) l.now
      (map (λ (x : Bor (List Record)). x.now) lists),
)
count_within (l ∷ lists) (suc i) d within =
    let rest = count_within lists i d (omega (arith, within)) in
    omega (
      arith,
      rest,
      sum_by-cons (λ (list : List Record). length list) l.now (map (λ (x : Bor (List Record)). x.now) lists),
      sum_by-cons (λ (list : List Record). length list) l.now (map (λ (x : Bor (List Record)). x.now) (take i lists)),
    )

pub count_few : (lists : List (Vec Record Global)) → All (λ l. length l.items ≤ 4096) lists
    → record_count (map served lists) ≤ 4096 * length lists
count_few [] few = omega arith
count_few (l ∷ lists) few =
    let here = few 0 l (omega arith) in
    let rest = count_few lists (λ k d within. few (suc k) d (omega (arith, within))) in
    omega (
      arith,
      here,
      rest,
      through_few l.items,
      sum_by-cons (λ (list : List Record). length list) (through_close l.items)
          (map served lists),
    )

-- lists that are these up to their closes are as short
pub each_few : (lent : List (Bor (List Record))) (lists : List (Vec Record Global)) → map (λ l. l.now) lent ≡ map served lists
    → All (λ l. length l.items ≤ 4096) lists → All (λ l. length l.now ≤ 4096) lent
each_few [] lists same few k d within = absurd (omega (arith, within))
each_few (l ∷ lent) [] same few k d within = absurd (let sizes = ap (λ (ls : List (List Record)). length ls) same in omega (arith, sizes))
each_few (l ∷ lent) (v ∷ lists) same few zero d within =
    let is : length l.now ≡ length (through_close v.items) = ap (λ (ls : List (List Record)). length (get_or ls 0 [])) same in
    let here = few 0 v (omega arith) in
    omega (arith, is, here, through_few v.items)
each_few (l ∷ lent) (v ∷ lists) same few (suc k) d within =
    each_few lent lists (ap (λ (ls : List (List Record)). drop 1 ls) same) (λ j e low. few (suc j) e (omega (arith, low))) k d
    (omega (arith, within))
