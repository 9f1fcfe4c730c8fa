-- The requests of a rack, one more.
use Rattle.std.proofs.Common.{◌≡◌, ◌<◌, ◌≤◌, ◌+◌, ◌++◌, ◌∙◌, Bor, ℕ, List, [], ◌∷◌, length, map, take, get_or, refl, sym, ap, arith}
use Rattle.std.specs.List.{AllZip}
use Rattle.std.specs.Prelude.{Bool, true, false, cond, nat_lt}
use Rattle.std.proofs.lemmas.List.{length-append, length-map, map-append, map_more}
use Rattle.lrc_code.specs.Requests.{Asked}
use Rattle.farm_orders.specs.Orders.{before_close}
use Rattle.farm_orders.specs.declared.orders.Order.{Order}
use Rattle.farm_orders.specs.declared.orders.Order.TheVariants.{Rebuild, Close}
use Rattle.farm_lists.specs.Listed.{ListedRequest}
use Rattle.farm_lists.specs.Requests.{listed_before_close}
use Rattle.farm_lists.specs.declared.listing.Record.{Record}
use Rattle.farm_lists.specs.declared.listing.Record.TheVariants as rec
use Rattle.farm_shelves.specs.Files.{Files}
use Rattle.farm_reading.specs.Reading.{AreReads, Reads, asked, asked_feed, close_of}
use Rattle.farm_reading.proofs.Pairs.{values_more}

pub reads_push : (rs : List ListedRequest) (qs : List Reads) (r : ListedRequest) (q : Reads) → AllZip AreReads rs qs → AreReads r q
    → AllZip AreReads (rs ++ r ∷ []) (qs ++ q ∷ [])
reads_push [] [] r q h k = (k, tt)
reads_push [] (x ∷ qs) r q h k = absurd h
reads_push (x ∷ rs) [] r q h k = absurd h
reads_push (x ∷ rs) (y ∷ qs) r q h k = (h.0, reads_push rs qs r q h.1 k)

pub taken : (rack : List (Bor ListedRequest)) (i : ℕ) (r : Bor ListedRequest) → i < length rack → r ≡ get_or rack i r
    → map (λ x. x.now) (take (i + 1) rack) ≡ map (λ x. x.now) (take i rack) ++ r.now ∷ []
taken rack i r within e = map_more (λ (x : Bor ListedRequest). x.now) rack i r within
    ∙ ap (λ (x : Bor ListedRequest). map (λ (y : Bor ListedRequest). y.now) (take i rack) ++ x.now ∷ []) (sym e)

-- ---- the orders: a rebuild for each request, and then a close where there is one

pub orders_push : (before after : List Order) (rs : List Asked) (request : Asked) → before ≡ map Rebuild rs
    → after ≡ before ++ Rebuild request ∷ [] → after ≡ map Rebuild (rs ++ request ∷ [])
orders_push before after rs request so grew = grew ∙ ap (λ (t : List Order). t ++ Rebuild request ∷ []) so
    ∙ sym (map-append Rebuild rs (request ∷ []))

pub orders_more : (there : Files) (rs : List ListedRequest) (qs : List Reads) (r : ListedRequest) (q : Reads) (before after : List Order)
    (request : Asked) → AllZip AreReads rs qs
    → after ≡ before ++ Rebuild request ∷ [] → before ≡ map Rebuild (asked_feed there rs qs) → request ≡ asked there r q
    → after ≡ map Rebuild (asked_feed there (rs ++ r ∷ []) (qs ++ q ∷ []))
orders_more there rs qs r q before after request are grew so is =
    orders_push before after (asked_feed there rs qs) request so grew
    ∙ ap (λ (t : List Asked). map Rebuild t) (values_more (asked there) AreReads rs qs r q (asked_feed there rs qs)
    (asked_feed there rs qs ++ request ∷ []) request are refl refl is)

-- the close that is after the requests, where there is one
abbrev pub close_where : Bool → List Order
close_where closes = cond closes (Close ∷ []) []

pub all_served : (orders : List Order) (rs : List Asked) (closes : Bool) → orders ≡ map Rebuild rs ++ close_where closes
    → before_close orders ≡ rs
all_served orders rs closes so = ap before_close so ∙ in_front closes rs
  where
    in_front : (b : Bool) (qs : List Asked) → before_close (map Rebuild qs ++ close_where b) ≡ qs
    in_front true [] = refl
    in_front false [] = refl
    in_front b (q ∷ qs) = ap (λ (t : List Asked). q ∷ t) (in_front b qs)

-- the orders are few where the requests, and the close, are few
pub orders_few : (orders before : List Order) (rs : List Asked) (closes : Bool) (n : ℕ) → orders ≡ before ++ close_where closes
    → before ≡ map Rebuild rs → length rs ≡ n → n + cond closes 1 0 ≤ 4096 → length orders ≤ 4096
orders_few orders before rs closes n so are size few = by closes so few
  where
    count : length before ≡ length rs
    count = ap (λ (os : List Order). length os) are ∙ length-map rs Rebuild

    by : (b : Bool) → orders ≡ before ++ close_where b → n + cond b 1 0 ≤ 4096 → length orders ≤ 4096
    by true e f = let l : length orders ≡ length (before ++ Close ∷ []) =
        ap (λ (os : List Order). length os) e in omega (arith, l, length-append before (Close ∷ []), count, size, f)
    by false e f = let l : length orders ≡ length (before ++ []) =
        ap (λ (os : List Order). length os) e in omega (arith, l, length-append before [], count, size, f)

-- the requests before a close are no more than the records
pub served_few : (list : List Record) → length (listed_before_close list) ≤ length list
served_few [] = omega arith
served_few (rec.Close ∷ list) = omega arith
served_few (rec.Rebuild r ∷ list) = let few = served_few list in omega (arith, few)

-- a list has a close where it has more records than requests before a close
pub close_is : (list : List Record) (b : Bool) → nat_lt (length (listed_before_close list)) (length list) ≡ b
    → close_of list ≡ close_where b
close_is list true e = short list (grind arith)
  where
    short : (l : List Record) → length (listed_before_close l) < length l → close_of l ≡ Close ∷ []
    short [] less = absurd (omega arith)
    short (rec.Close ∷ l) less = refl
    short (rec.Rebuild r ∷ l) less = short l (omega arith)
close_is list false e = full list (grind arith)
  where
    full : (l : List Record) → length l ≤ length (listed_before_close l) → close_of l ≡ []
    full [] most = refl
    full (rec.Close ∷ l) most = absurd (omega arith)
    full (rec.Rebuild r ∷ l) most = full l (omega arith)

pub close_counted : (list : List Record) (n : ℕ) → n ≡ length (listed_before_close list)
    → close_of list ≡ close_where (nat_lt n (length list))
close_counted list n is = close_is list (nat_lt n (length list)) (ap (λ m. nat_lt m (length list)) (sym is))

-- with the close the orders of a list are no more than its records
pub counted_few : (served n records : ℕ) → n ≡ served → served ≤ records → records ≤ 4096 → served + cond (nat_lt n records) 1 0 ≤ 4096
counted_few served n records is less few = by (nat_lt n records) refl
  where
    by : (b : Bool) → nat_lt n records ≡ b → served + cond b 1 0 ≤ 4096
    by true e = let lower : n < records = grind arith in omega (arith, lower, is, few)
    by false e = omega (arith, less, few)
