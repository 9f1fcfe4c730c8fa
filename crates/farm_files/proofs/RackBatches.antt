-- What is answered of the first positions of a rack's feeds.
use Rattle.std.proofs.Common.{◌≡◌, ◌<◌, ◌≤◌, ◌+◌, ◌-◌, ◌*◌, ◌++◌, ◌∙◌, ◌⊎◌, inl, inr, Bor, Global, Vec, ℕ, zero, suc, Bool, true, false}
use Rattle.farm_orders.specs.Limits.{order_limit, feed_limit}
use Rattle.std.proofs.Common.{All, List, [], ◌∷◌, Some, length, map, take, drop, get_or, refl, sym, ap, ap₂, subst, arith}
use Rattle.std.specs.List.{AllZip, slice_range}
use Rattle.std.proofs.lemmas.List.{length-append, length-map, map-append, take_all}
use Rattle.std.proofs.lemmas.List.Elements.{All-nil}
use mathlib.Core.Option.{some, some-ne-none, some-injective}
use lib.ListN.{get_elem?}
use Rattle.std.proofs.lemmas.List.Sums.{sum_by-append, sum_by-cons}
use Rattle.lrc_code.specs.declared.outcomes.Outcome.{Outcome}
use Rattle.lrc_code.specs.Requests.{Asked}
use Rattle.farm_core.specs.Merge.{AreMergedAnswers, AreOpen, HaveClose, IsFedAnswer, joined}
use Rattle.farm_orders.specs.Orders.{HasClose, before_close}
use Rattle.farm_orders.specs.declared.orders.Order.{Order}
use Rattle.farm_orders.specs.declared.orders.Order.TheVariants.{Rebuild, Close}
use Rattle.farm_core.proofs.Pieces.{are_open, close_ends_all, have_comes, have_stays, pieces_join}
use Rattle.farm_threads.proofs.Works.{zip_append}
use Rattle.farm_files.specs.AnsweredRacks.{AreAnswered, IsAnsweredOnce, rack_requests}
use Rattle.farm_shelves.specs.Files.{Files, Shown}
use Rattle.farm_lists.specs.Requests.{RequestRead, listed_before_close, read_of}
use Rattle.farm_lists.specs.Listed.{ListedRequest}
use Rattle.farm_lists.specs.declared.listing.Record.{Record}
use Rattle.farm_lists.specs.declared.requests.ReadRequest.{ReadRequest}
use Rattle.farm_lists.specs.declared.listing.Record.TheVariants as rec
use Rattle.farm_reading.specs.Pairs.{zip_with}
use Rattle.farm_reading.specs.Pieces.{AreOrdersOf, piece, record_count, through_close}
use Rattle.farm_reading.specs.Reading.{AreRackReads, AreReads, Reads, asked, close_of, failures, feed_failures, feed_read, orders_feed}
use Rattle.farm_reading.specs.Reading.{orders_rack, rack_failures, rack_read, request_read}
use Rattle.farm_reading.proofs.Pieces.{orders_counted, orders_same, reads_same, same_requests, through_few, requests_same}

-- of these lists of a rack's feeds the reads, the orders, the answers and the requests with what was left out, and whether a close ended
-- the rack
pub record AreSoFar (shown : Shown) (lists : List (List Record)) (reads : List (List Reads)) (answers : List (ℕ × Outcome))
    (requests : List (List RequestRead)) (ended : Bool) : Type 0 where
  pub read : AreRackReads lists reads
  pub orders : List (List Order)
  pub ordered : AllZip AreOrdersOf lists orders
  pub merged : AreMergedAnswers orders answers
  pub opened : ended ≡ false → AreOpen orders
  pub closed : ended ≡ true → HaveClose orders
  pub counted : map (λ rs. length rs) requests ≡ map (λ list. length (listed_before_close list)) lists
  pub given : (there : Files) → shown ≡ Some there → (orders ≡ orders_rack there lists reads) × (requests ≡ rack_read there lists reads)

-- ---- two parts of a list, of which the first has no close, or the second has nothing

abbrev Splits : List Record → List Record → Type 0
Splits first rest = (close_of first ≡ []) ⊎ (rest ≡ [])

nothing : {A : Type 0} (xs : List A) → xs ++ [] ≡ xs
nothing [] = refl
nothing (x ∷ xs) = ap (λ t. x ∷ t) (nothing xs)

drop_nil : {A : Type 0} (n : ℕ) → drop {A = A} n [] ≡ []
drop_nil zero = refl
drop_nil (suc n) = refl

take_nil : {A : Type 0} (n : ℕ) → take {A = A} n [] ≡ []
take_nil zero = refl
take_nil (suc n) = refl

-- the front of a list that is cut through its close
parts : (list : List Record) (n : ℕ) → Splits (take n (through_close list)) (drop n (through_close list))
parts [] zero = inl refl
parts [] (suc n) = inl refl
parts (rec.Close ∷ list) zero = inl refl
parts (rec.Close ∷ list) (suc n) = inr (drop_nil n)
parts (rec.Rebuild r ∷ list) zero = inl refl
parts (rec.Rebuild r ∷ list) (suc n) = parts list n

listed_more : (a b : List Record) → Splits a b → listed_before_close (a ++ b) ≡ listed_before_close a ++ listed_before_close b
listed_more [] b s = refl
listed_more (rec.Close ∷ a) b (inl none) = absurd (cc)
listed_more (rec.Close ∷ a) b (inr is) = ap (λ (t : List Record). listed_before_close t) (sym is)
listed_more (rec.Rebuild r ∷ a) b s = ap (λ (t : List ListedRequest). r ∷ t) (listed_more a b s)

close_more : (a b : List Record) → Splits a b → close_of (a ++ b) ≡ close_of a ++ close_of b
close_more [] b s = refl
close_more (rec.Close ∷ a) b (inl none) = absurd (cc)
close_more (rec.Close ∷ a) b (inr is) = ap (λ (t : List Record). Close ∷ close_of t) (sym is)
close_more (rec.Rebuild r ∷ a) b s = close_more a b s

-- ---- one feed

zip_more : {A B C : Type 0} (f : A → B → C) (R : A → B → Type 0) (xs xs' : List A) (ys ys' : List B) → AllZip R xs ys
    → zip_with f (xs ++ xs') (ys ++ ys') ≡ zip_with f xs ys ++ zip_with f xs' ys'
zip_more f R [] xs' [] ys' all = refl
zip_more f R [] xs' (y ∷ ys) ys' all = absurd all
zip_more f R (x ∷ xs) xs' [] ys' all = absurd all
zip_more f R (x ∷ xs) xs' (y ∷ ys) ys' all = ap (λ t. f x y ∷ t) (zip_more f R xs xs' ys ys' all.1)

assoc : {A : Type 0} (xs ys zs : List A) → (xs ++ ys) ++ zs ≡ xs ++ (ys ++ zs)
assoc [] ys zs = refl
assoc (x ∷ xs) ys zs = ap (λ t. x ∷ t) (assoc xs ys zs)

-- requests, then closes, of two parts
orders_of_parts : (a b : List Record) (u v : List Asked) → Splits a b → length v ≡ length (listed_before_close b)
    → map Rebuild (u ++ v) ++ close_of (a ++ b) ≡ (map Rebuild u ++ close_of a) ++ (map Rebuild v ++ close_of b)
orders_of_parts a b u v (inl none) few =
    ap₂ (λ (p q : List Order). p ++ q) (map-append Rebuild u v) (close_more a b (inl none) ∙ ap (λ (t : List Order). t ++ close_of b) none)
    ∙ assoc (map Rebuild u) (map Rebuild v) (close_of b)
    ∙ ap (λ (t : List Order). t ++ (map Rebuild v ++ close_of b))
    (sym (nothing (map Rebuild u)) ∙ ap (λ (t : List Order). map Rebuild u ++ t) (sym none))
orders_of_parts a b u v (inr is) few =
    let no_more : v ≡ [] = of_length v (few ∙ ap (λ (t : List Record). length (listed_before_close t)) is) in
    ap₂ (λ (p q : List Order). p ++ q) (ap (map Rebuild) (ap (λ (t : List Asked). u ++ t) no_more ∙ nothing u))
    (ap close_of (ap (λ (t : List Record). a ++ t) is ∙ nothing a))
    ∙ sym (nothing (map Rebuild u ++ close_of a))
    ∙ ap₂ (λ (p q : List Order). (map Rebuild u ++ close_of a) ++ (p ++ q)) (ap (map Rebuild) (sym no_more)) (ap close_of (sym is))
  where
    of_length : (v : List Asked) → length v ≡ 0 → v ≡ []
    of_length [] h = refl
    of_length (x ∷ v) h = absurd (omega (arith, h))

zip_length : {A B C : Type 0} (f : A → B → C) (R : A → B → Type 0) (xs : List A) (ys : List B) → AllZip R xs ys
    → length (zip_with f xs ys) ≡ length xs
zip_length f R [] [] all = refl
zip_length f R [] (y ∷ ys) all = absurd all
zip_length f R (x ∷ xs) [] all = absurd all
zip_length f R (x ∷ xs) (y ∷ ys) all = let rest = zip_length f R xs ys all.1 in omega (arith, rest)

feed_orders : (there : Files) (a b : List Record) (p q : List Reads) → Splits a b → AllZip AreReads (listed_before_close a) p
    → AllZip AreReads (listed_before_close b) q
    → orders_feed there (a ++ b) (p ++ q) ≡ orders_feed there a p ++ orders_feed there b q
feed_orders there a b p q s h k =
    ap (λ (ws : List Asked). map Rebuild ws ++ close_of (a ++ b))
    (ap (λ (rs : List ListedRequest). zip_with (asked there) rs (p ++ q)) (listed_more a b s)
    ∙ zip_more (asked there) AreReads (listed_before_close a) (listed_before_close b) p q h)
    ∙ orders_of_parts a b (zip_with (asked there) (listed_before_close a) p) (zip_with (asked there) (listed_before_close b) q) s
    (zip_length (asked there) AreReads (listed_before_close b) q k)

feed_requests : (there : Files) (a b : List Record) (p q : List Reads) → Splits a b → AllZip AreReads (listed_before_close a) p
    → feed_read there (listed_before_close (a ++ b)) (p ++ q)
    ≡ feed_read there (listed_before_close a) p ++ feed_read there (listed_before_close b) q
feed_requests there a b p q s h =
    ap (λ (rs : List ListedRequest). zip_with (request_read there) rs (p ++ q)) (listed_more a b s)
    ∙ zip_more (request_read there) AreReads (listed_before_close a) (listed_before_close b) p q h

orders_of_both : (a b : List Record) (x y : List Order) → Splits a b → AreOrdersOf a x → AreOrdersOf b y → AreOrdersOf (a ++ b) (x ++ y)
orders_of_both a b x y s h k = (
  h.0 ++ k.0,
  length-append h.0 k.0 ∙ ap₂ (λ m n. m + n) h.1 k.1 ∙ sym (length-append (listed_before_close a) (listed_before_close b))
      ∙ ap (λ (rs : List ListedRequest). length rs) (sym (listed_more a b s)),
  ap₂ (λ (p q : List Order). p ++ q) h.2 k.2 ∙ sym (orders_of_parts a b h.0 k.0 s k.1),
)

-- ---- all feeds of a rack

reads_more : (fs bs : List (List Record)) (ps qs : List (List Reads)) → AllZip Splits fs bs → AreRackReads fs ps → AreRackReads bs qs
    → AreRackReads (joined fs bs) (joined ps qs)
reads_more [] [] [] [] s h k = tt
reads_more [] [] [] (q ∷ qs) s h k = absurd k
reads_more [] [] (p ∷ ps) qs s h k = absurd h
reads_more [] (b ∷ bs) ps qs s h k = absurd s
reads_more (a ∷ fs) [] ps qs s h k = absurd s
reads_more (a ∷ fs) (b ∷ bs) [] qs s h k = absurd h
reads_more (a ∷ fs) (b ∷ bs) (p ∷ ps) [] s h k = absurd k
reads_more (a ∷ fs) (b ∷ bs) (p ∷ ps) (q ∷ qs) s h k = (
  subst (λ (rs : List ListedRequest). AllZip AreReads rs (p ++ q)) (sym (listed_more a b s.0))
      (zip_append AreReads (listed_before_close a) (listed_before_close b) p q h.0 k.0),
  reads_more fs bs ps qs s.1 h.1 k.1,
)

orders_more : (fs bs : List (List Record)) (xs ys : List (List Order)) → AllZip Splits fs bs → AllZip AreOrdersOf fs xs
    → AllZip AreOrdersOf bs ys → AllZip AreOrdersOf (joined fs bs) (joined xs ys)
orders_more [] [] [] [] s h k = tt
orders_more [] [] [] (y ∷ ys) s h k = absurd k
orders_more [] [] (x ∷ xs) ys s h k = absurd h
orders_more [] (b ∷ bs) xs ys s h k = absurd s
orders_more (a ∷ fs) [] xs ys s h k = absurd s
orders_more (a ∷ fs) (b ∷ bs) [] ys s h k = absurd h
orders_more (a ∷ fs) (b ∷ bs) (x ∷ xs) [] s h k = absurd k
orders_more (a ∷ fs) (b ∷ bs) (x ∷ xs) (y ∷ ys) s h k = (orders_of_both a b x y s.0 h.0 k.0, orders_more fs bs xs ys s.1 h.1 k.1)

rack_orders : (there : Files) (fs bs : List (List Record)) (ps qs : List (List Reads)) → AllZip Splits fs bs → AreRackReads fs ps
    → AreRackReads bs qs
    → orders_rack there (joined fs bs) (joined ps qs) ≡ joined (orders_rack there fs ps) (orders_rack there bs qs)
rack_orders there [] [] [] [] s h k = refl
rack_orders there [] [] [] (q ∷ qs) s h k = absurd k
rack_orders there [] [] (p ∷ ps) qs s h k = absurd h
rack_orders there [] (b ∷ bs) ps qs s h k = absurd s
rack_orders there (a ∷ fs) [] ps qs s h k = absurd s
rack_orders there (a ∷ fs) (b ∷ bs) [] qs s h k = absurd h
rack_orders there (a ∷ fs) (b ∷ bs) (p ∷ ps) [] s h k = absurd k
rack_orders there (a ∷ fs) (b ∷ bs) (p ∷ ps) (q ∷ qs) s h k =
    ap₂ (λ (o : List Order) (os : List (List Order)). o ∷ os) (feed_orders there a b p q s.0 h.0 k.0)
    (rack_orders there fs bs ps qs s.1 h.1 k.1)

rack_requests_more : (there : Files) (fs bs : List (List Record)) (ps qs : List (List Reads)) → AllZip Splits fs bs → AreRackReads fs ps
    → AreRackReads bs qs
    → rack_read there (joined fs bs) (joined ps qs) ≡ joined (rack_read there fs ps) (rack_read there bs qs)
rack_requests_more there [] [] [] [] s h k = refl
rack_requests_more there [] [] [] (q ∷ qs) s h k = absurd k
rack_requests_more there [] [] (p ∷ ps) qs s h k = absurd h
rack_requests_more there [] (b ∷ bs) ps qs s h k = absurd s
rack_requests_more there (a ∷ fs) [] ps qs s h k = absurd s
rack_requests_more there (a ∷ fs) (b ∷ bs) [] qs s h k = absurd h
rack_requests_more there (a ∷ fs) (b ∷ bs) (p ∷ ps) [] s h k = absurd k
rack_requests_more there (a ∷ fs) (b ∷ bs) (p ∷ ps) (q ∷ qs) s h k =
    ap₂ (λ (o : List RequestRead) (os : List (List RequestRead)). o ∷ os) (feed_requests there a b p q s.0 h.0)
    (rack_requests_more there fs bs ps qs s.1 h.1 k.1)

pub failures_more : (fs bs : List (List Record)) (ps qs : List (List Reads)) → AllZip Splits fs bs → AreRackReads fs ps → AreRackReads bs qs
    → rack_failures (joined ps qs) ≡ rack_failures ps + rack_failures qs
failures_more [] [] [] [] s h k = refl
failures_more [] [] [] (q ∷ qs) s h k = absurd k
failures_more [] [] (p ∷ ps) qs s h k = absurd h
failures_more [] (b ∷ bs) ps qs s h k = absurd s
failures_more (a ∷ fs) [] ps qs s h k = absurd s
failures_more (a ∷ fs) (b ∷ bs) [] qs s h k = absurd h
failures_more (a ∷ fs) (b ∷ bs) (p ∷ ps) [] s h k = absurd k
failures_more (a ∷ fs) (b ∷ bs) (p ∷ ps) (q ∷ qs) s h k =
    let here : feed_failures (p ++ q) ≡ feed_failures p + feed_failures q = sum_by-append failures p q in
    let rest = failures_more fs bs ps qs s.1 h.1 k.1 in
    omega (
      arith,
      here,
      rest,
      sum_by-cons feed_failures (p ++ q) (joined ps qs),
      sum_by-cons feed_failures p ps,
      sum_by-cons feed_failures q qs,
    )

counted_more : (fs bs : List (List Record)) (us vs : List (List RequestRead)) → AllZip Splits fs bs
    → map (λ (requests : List RequestRead). length requests) us ≡ map (λ (list : List Record). length (listed_before_close list)) fs
    → map (λ (requests : List RequestRead). length requests) vs ≡ map (λ (list : List Record). length (listed_before_close list)) bs
    → map (λ (requests : List RequestRead). length requests) (joined us vs)
    ≡ map (λ (list : List Record). length (listed_before_close list)) (joined fs bs)
counted_more [] [] [] [] s h k = refl
counted_more [] [] [] (v ∷ vs) s h k = absurd (let sizes = ap (λ (ns : List ℕ). length ns) k in omega (arith, sizes))
counted_more [] [] (u ∷ us) vs s h k = absurd (let sizes = ap (λ (ns : List ℕ). length ns) h in omega (arith, sizes))
counted_more [] (b ∷ bs) us vs s h k = absurd s
counted_more (a ∷ fs) [] us vs s h k = absurd s
counted_more (a ∷ fs) (b ∷ bs) [] vs s h k = absurd (let sizes = ap (λ (ns : List ℕ). length ns) h in omega (arith, sizes))
counted_more (a ∷ fs) (b ∷ bs) (u ∷ us) [] s h k = absurd (let sizes = ap (λ (ns : List ℕ). length ns) k in omega (arith, sizes))
counted_more (a ∷ fs) (b ∷ bs) (u ∷ us) (v ∷ vs) s h k =
    let one : length u ≡ length (listed_before_close a) = ap (λ (ns : List ℕ). get_or ns 0 0) h in
    let two : length v ≡ length (listed_before_close b) = ap (λ (ns : List ℕ). get_or ns 0 0) k in
    ap₂ (λ (n : ℕ) (ns : List ℕ). n ∷ ns)
    (length-append u v ∙ ap₂ (λ m n. m + n) one two ∙ sym (length-append (listed_before_close a) (listed_before_close b))
    ∙ ap (λ (rs : List ListedRequest). length rs) (sym (listed_more a b s.0)))
    (counted_more fs bs us vs s.1 (ap (λ (ns : List ℕ). drop 1 ns) h) (ap (λ (ns : List ℕ). drop 1 ns) k))

zip_size : {A B : Type 0} (R : A → B → Type 0) (xs : List A) (ys : List B) → AllZip R xs ys → length xs ≡ length ys
zip_size R [] [] all = refl
zip_size R [] (y ∷ ys) all = absurd all
zip_size R (x ∷ xs) [] all = absurd all
zip_size R (x ∷ xs) (y ∷ ys) all = let rest = zip_size R xs ys all.1 in omega (arith, rest)

-- the answers so far, with those of the next piece
pub merged_more : (orders further : List (List Order)) (answers after : List (ℕ × Outcome)) (ended now : Bool)
    → length orders ≡ length further → AreMergedAnswers orders answers
    → (ended ≡ false → AreOpen orders) → (ended ≡ true → HaveClose orders) → IsAnsweredOnce further ended answers after now
    → AreMergedAnswers (joined orders further) after × (now ≡ false → AreOpen (joined orders further))
    × (now ≡ true → HaveClose (joined orders further))
merged_more orders further answers after true now same first opened closed once = (
  subst (λ (os : List (ℕ × Outcome)). AreMergedAnswers (joined orders further) os) (sym once.0)
      (first.0, close_ends_all orders further first.0 (closed refl) first.1, first.2),
  λ is. absurd (let both : false ≡ true = sym is ∙ once.1 in cc),
  λ is. have_stays orders further (closed refl),
)
merged_more orders further answers after false now same first opened closed once =
    let (more, last, are, has, not) = once in (
      subst (λ (os : List (ℕ × Outcome)). AreMergedAnswers (joined orders further) os) (sym are) (
        first.0 ++ last.0,
        pieces_join orders further first.0 last.0 same (opened refl) first.1 last.1,
        zip_append IsFedAnswer first.0 last.0 answers more first.2 last.2,
      ),
      λ is. are_open orders further same (opened refl) (not is),
      λ is. have_comes orders further same (has is),
    )

-- what is answered of the positions so far and of the next piece
pub so_far_more : (shown : Shown) (fs bs : List (List Record)) (ps qs : List (List Reads)) (answers after : List (ℕ × Outcome))
    (us vs : List (List RequestRead)) (ended now : Bool) (further : List (List Order))
    → AllZip Splits fs bs → AreSoFar shown fs ps answers us ended → AreRackReads bs qs → AllZip AreOrdersOf bs further
    → map (λ requests. length requests) vs ≡ map (λ list. length (listed_before_close list)) bs
    → ((there : Files) → shown ≡ Some there → (further ≡ orders_rack there bs qs) × (vs ≡ rack_read there bs qs))
    → IsAnsweredOnce further ended answers after now → AreSoFar shown (joined fs bs) (joined ps qs) after (joined us vs) now
so_far_more shown fs bs ps qs answers after us vs ended now further s so read ordered counted given once =
    let same : length so.orders ≡ length further = sym (zip_size AreOrdersOf fs so.orders so.ordered) ∙ zip_size Splits fs bs s
    ∙ zip_size AreOrdersOf bs further ordered in
    let merged = merged_more so.orders further answers after ended now same so.merged so.opened so.closed once in
    record {
      read = reads_more fs bs ps qs s so.read read;
      orders = joined so.orders further;
      ordered = orders_more fs bs so.orders further s so.ordered ordered;
      merged = merged.0;
      opened = merged.1;
      closed = merged.2;
      counted = counted_more fs bs us vs s so.counted counted;
      given = λ there is. (
        ap₂ (λ (x y : List (List Order)). joined x y) (so.given there is).0 (given there is).0
            ∙ sym (rack_orders there fs bs ps qs s so.read read),
        ap₂ (λ (x y : List (List RequestRead)). joined x y) (so.given there is).1 (given there is).1
            ∙ sym (rack_requests_more there fs bs ps qs s so.read read),
      );
    }

-- ---- the positions of a rack's lists, each up to its close

abbrev pub served : Vec Record Global → List Record
served list = through_close list.items

abbrev pub fronts : List (Vec Record Global) → ℕ → List (List Record)
fronts lists n = map (λ (list : List Record). take n list) (map served lists)

abbrev pub pieces : List (Vec Record Global) → ℕ → ℕ → List (List Record)
pieces lists first end = piece (map served lists) first end

pub pieces_split : (lists : List (Vec Record Global)) (first end : ℕ) → AllZip Splits (fronts lists first) (pieces lists first end)
pieces_split [] first end = tt
pieces_split (l ∷ lists) first end = (one (parts l.items first), pieces_split lists first end)
  where
    one : Splits (take first (through_close l.items)) (drop first (through_close l.items))
        → Splits (take first (through_close l.items)) (slice_range (through_close l.items) first end)
    one (inl none) = inl none
    one (inr is) = inr (ap (λ (t : List Record). take (end - first) t) is ∙ take_nil (end - first))

take_further : (xs : List Record) (n m : ℕ) → n ≤ m → take n xs ++ slice_range xs n m ≡ take m xs
take_further xs zero m h = ap (λ (k : ℕ). take k xs) (let e : m - 0 ≡ m = omega arith in e)
take_further [] (suc n) m h = take_nil (m - suc n) ∙ sym (take_nil m)
take_further (x ∷ xs) (suc n) zero h = absurd (omega (arith, h))
take_further (x ∷ xs) (suc n) (suc m) h =
    ap (λ (t : List Record). x ∷ t) (ap (λ (k : ℕ). take n xs ++ take k (drop n xs)) (let e : suc m - suc n ≡ m - n = omega arith in e)
    ∙ take_further xs n m (omega (arith, h)))

pub fronts_further : (lists : List (Vec Record Global)) (n m : ℕ) → n ≤ m → joined (fronts lists n) (pieces lists n m) ≡ fronts lists m
fronts_further [] n m h = refl
fronts_further (l ∷ lists) n m h = ap₂ (λ (t : List Record) (ts : List (List Record)). t ∷ ts) (take_further (through_close l.items) n m h)
    (fronts_further lists n m h)

pub fronts_whole : (lists : List (Vec Record Global)) (n : ℕ) → All (λ l. length l.items ≤ n) lists → fronts lists n ≡ map served lists
fronts_whole [] n few = refl
fronts_whole (l ∷ lists) n few =
    let here = few 0 l (omega arith) in
    ap₂ (λ (t : List Record) (ts : List (List Record)). t ∷ ts)
    (take_all n (through_close l.items) (omega (arith, here, through_few l.items)))
    (fronts_whole lists n (λ k d within. few (suc k) d (omega (arith, within))))

-- how many records the positions have
pub count_further : (lists : List (Vec Record Global)) (n m : ℕ) → n ≤ m
    → record_count (fronts lists n) + record_count (pieces lists n m) ≡ record_count (fronts lists m)
count_further [] n m h = refl
count_further (l ∷ lists) n m h =
    let here : length (take n (through_close l.items)) + length (slice_range (through_close l.items) n m)
    ≡ length (take m (through_close l.items)) =
    sym (length-append (take n (through_close l.items)) (slice_range (through_close l.items) n m))
    ∙ ap (λ (t : List Record). length t) (take_further (through_close l.items) n m h) in
    let rest = count_further lists n m h in
    let size = λ (list : List Record). length list in
    omega (
      arith,
      here,
      rest,
      sum_by-cons size (take n (through_close l.items)) (fronts lists n),
      sum_by-cons size (slice_range (through_close l.items) n m) (pieces lists n m),
      sum_by-cons size (take m (through_close l.items)) (fronts lists m),
    )

-- before the first position
pub so_far_none : (shown : Shown) (lists : List (Vec Record Global)) (us : List (List RequestRead)) → us ≡ map (λ _. []) lists
    → AreSoFar shown (fronts lists 0) (map (λ _. []) lists) [] us false
so_far_none shown lists us is = record {
  read = reads lists;
  orders = map (λ _. []) lists;
  ordered = ordered lists;
  merged = (
    [],
    record { known = All-nil _; prefixes = λ k l at. refl; ended = inl (λ k l at. (opened lists k l at, whole lists k l at)) },
    tt,
  );
  opened = λ _. opened lists;
  closed = λ e. absurd (cc);
  counted = ap (map (λ (requests : List RequestRead). length requests)) is ∙ counts lists;
  given = λ there at. (orders there lists, is ∙ requests there lists);
}
  where
    reads : (lists : List (Vec Record Global)) → AreRackReads (fronts lists 0) (map (λ _. []) lists)
    reads [] = tt
    reads (l ∷ lists) = (tt, reads lists)

    ordered : (lists : List (Vec Record Global)) → AllZip AreOrdersOf (fronts lists 0) (map (λ _. []) lists)
    ordered [] = tt
    ordered (l ∷ lists) = (([], refl, refl), ordered lists)

    counts : (lists : List (Vec Record Global)) → map (λ (requests : List RequestRead). length requests)
        (map (λ (_ : Vec Record Global). []) lists) ≡ map (λ (list : List Record). length (listed_before_close list)) (fronts lists 0)
    counts [] = refl
    counts (l ∷ lists) = ap (λ (ns : List ℕ). 0 ∷ ns) (counts lists)

    orders : (there : Files) (lists : List (Vec Record Global))
        → map (λ _. []) lists ≡ orders_rack there (fronts lists 0) (map (λ _. []) lists)
    orders there [] = refl
    orders there (l ∷ lists) = ap (λ (os : List (List Order)). [] ∷ os) (orders there lists)

    requests : (there : Files) (lists : List (Vec Record Global))
        → map (λ _. []) lists ≡ rack_read there (fronts lists 0) (map (λ _. []) lists)
    requests there [] = refl
    requests there (l ∷ lists) = ap (λ (os : List (List RequestRead)). [] ∷ os) (requests there lists)

    opened : (lists : List (Vec Record Global)) (k : ℕ) (l : List Order) → get_elem? (map (λ (_ : Vec Record Global). []) lists) k ≡ some l
        → HasClose l → ⊥
    opened [] k l at has = absurd (some-ne-none l (sym at))
    opened (x ∷ lists) zero l at has =
        let e : [] ≡ l = some-injective [] l at in
        let within : has.0 < length {A = Order} [] = subst (λ (t : List Order). has.0 < length t) (sym e) has.1 in omega (arith, within)
    opened (x ∷ lists) (suc k) l at has = opened lists k l at has

    whole : (lists : List (Vec Record Global)) (k : ℕ) (l : List Order) → get_elem? (map (λ (_ : Vec Record Global). []) lists) k ≡ some l
        → [] ≡ before_close l
    whole [] k l at = absurd (some-ne-none l (sym at))
    whole (x ∷ lists) zero l at = ap before_close (some-injective [] l at)
    whole (x ∷ lists) (suc k) l at = whole lists k l at

-- ---- all positions

counts_all : (lists : List (Vec Record Global)) → map (λ (list : List Record). length (listed_before_close list)) (map served lists)
    ≡ map (λ (list : List Record). length (listed_before_close list)) (map (λ (list : Vec Record Global). list.items) lists)
counts_all [] = refl
counts_all (l ∷ lists) = ap₂ (λ (n : ℕ) (ns : List ℕ). n ∷ ns) (ap (λ (rs : List ListedRequest). length rs) (same_requests l.items))
    (counts_all lists)

-- when all positions were answered, the rack is
pub so_far_all : (shown : Shown) (lists : List (Vec Record Global)) (reads : List (List Reads)) (answers : List (ℕ × Outcome))
    (us : List (List RequestRead)) (ended : Bool) (n : ℕ)
    → All (λ l. length l.items ≤ n) lists → AreSoFar shown (fronts lists n) reads answers us ended
    → AreAnswered shown (map (λ (list : Vec Record Global). list.items) lists ∷ []) (reads ∷ []) (answers ∷ []) (us ∷ [])
so_far_all shown lists reads answers us ended n few so_far =
    let so = subst (λ (fs : List (List Record)). AreSoFar shown fs reads answers us ended) (fronts_whole lists n few) so_far in
    record {
      read = (reads_same lists reads so.read, tt);
      orders = so.orders ∷ [];
      ordered = ap (λ (ns : List ℕ). ns ∷ []) (orders_counted (map served lists) so.orders so.ordered ∙ counts_all lists);
      merged = (so.merged, tt);
      counted = ap (λ (ns : List ℕ). ns ∷ []) (so.counted ∙ counts_all lists);
      given = λ there e. (
        ap (λ (os : List (List Order)). os ∷ []) ((so.given there e).0 ∙ orders_same there lists reads),
        ap (λ (ps : List (List RequestRead)). ps ∷ []) ((so.given there e).1 ∙ requests_same there lists reads),
      );
    }

-- ---- sizes

pub fronts_few : (lists : List (Vec Record Global)) (n : ℕ) → All (λ l. length l.items ≤ order_limit) lists
    → record_count (fronts lists n) ≤ order_limit * length lists
fronts_few [] n few = omega arith
fronts_few (l ∷ lists) n few =
    let here = few 0 l (omega arith) in
    let rest = fronts_few lists n (λ k d within. few (suc k) d (omega (arith, within))) in
    omega (
      arith,
      here,
      rest,
      through_few l.items,
      taken_few n (through_close l.items),
      sum_by-cons (λ (list : List Record). length list) (take n (through_close l.items)) (fronts lists n),
    )
  where
    taken_few : (n : ℕ) (xs : List Record) → length (take n xs) ≤ length xs
    taken_few zero xs = omega arith
    taken_few (suc n) [] = omega arith
    taken_few (suc n) (x ∷ xs) = let less = taken_few n xs in omega (arith, less)

-- nothing fails before the first position
pub none_fail : (lists : List (Vec Record Global)) → rack_failures (map (λ (_ : Vec Record Global). []) lists) ≡ 0
none_fail [] = refl
none_fail (l ∷ lists) = let rest = none_fail lists in omega
    (arith, rest, sum_by-cons feed_failures [] (map (λ (_ : Vec Record Global). []) lists))

-- no requests of each of as many lists
pub none_same : {A B : Type 0} (f : A → List Record) (g : B → List Record) (xs : List A) (ys : List B) → map f xs ≡ map g ys
    → map (λ (_ : A). []) xs ≡ map {B = List RequestRead} (λ (_ : B). []) ys
none_same f g [] [] same = refl
none_same f g [] (y ∷ ys) same = absurd (let sizes = ap (λ (ls : List (List Record)). length ls) same in omega (arith, sizes))
none_same f g (x ∷ xs) [] same = absurd (let sizes = ap (λ (ls : List (List Record)). length ls) same in omega (arith, sizes))
none_same f g (x ∷ xs) (y ∷ ys) same = ap (λ (t : List (List RequestRead)). [] ∷ t)
    (none_same f g xs ys (ap (λ (ls : List (List Record)). drop 1 ls) same))

-- the records of a piece are no more than those of the list
slice_few : (xs : List Record) (a b : ℕ) → length (slice_range xs a b) ≤ length xs
slice_few xs a b = let more = dropped_few a xs in let less = taken (b - a) (drop a xs) in omega (arith, more, less)
  where
    taken : (n : ℕ) (ys : List Record) → length (take n ys) ≤ length ys
    taken zero ys = omega arith
    taken (suc n) [] = omega arith
    taken (suc n) (y ∷ ys) = let less = taken n ys in omega (arith, less)

    dropped_few : (n : ℕ) (ys : List Record) → length (drop n ys) ≤ length ys
    dropped_few zero ys = omega arith
    dropped_few (suc n) [] = omega arith
    dropped_few (suc n) (y ∷ ys) = let less = dropped_few n ys in omega (arith, less)

pub pieces_few : (lent : List (Bor (List Record))) (lists : List (Vec Record Global)) (first end : ℕ)
    → map (λ l. l.now) lent ≡ pieces lists first end → All (λ l. length l.items ≤ order_limit) lists
    → All (λ l. length l.now ≤ order_limit) lent
pieces_few [] lists first end same few k d within = absurd (omega (arith, within))
pieces_few (l ∷ lent) [] first end same few k d within = absurd
    (let sizes = ap (λ (ls : List (List Record)). length ls) same in omega (arith, sizes))
pieces_few (l ∷ lent) (v ∷ lists) first end same few zero d within =
    let is : length l.now ≡ length (slice_range (through_close v.items) first end) =
    ap (λ (ls : List (List Record)). length (get_or ls 0 [])) same in
    let here = few 0 v (omega arith) in
    omega (arith, is, here, through_few v.items, slice_few (through_close v.items) first end)
pieces_few (l ∷ lent) (v ∷ lists) first end same few (suc k) d within =
    pieces_few lent lists first end (ap (λ (ls : List (List Record)). drop 1 ls) same) (λ j e low. few (suc j) e (omega (arith, low))) k d
    (omega (arith, within))

-- the device fails as often as there are survivors at most
pub fails_few : (old before after : ℕ) (lists : List (Vec Record Global)) (first end : ℕ) → first ≤ end
    → All (λ l. length l.items ≤ order_limit) lists → length lists ≤ feed_limit
    → before ≤ old + 15 * record_count (fronts lists first) → after ≤ before + 15 * record_count (pieces lists first end)
    → (after ≤ old + 15 * record_count (fronts lists end)) × (after ≤ old + 245760)
fails_few old before after lists first end ordered few feeds so more =
    let count = count_further lists first end ordered in
    let most = fronts_few lists end few in
    (omega (arith, count, so, more), omega (arith, count, most, feeds, so, more))

-- the piece that is cut from lists in memory
pub cut_is : (lists : List (Vec Record Global)) (through whole part lent : List (Bor (List Record))) (first end : ℕ)
    → map (λ l. l.now) through ≡ map served lists → whole ≡ through
    → map (λ l. l.now) part ≡ piece (map (λ l. l.now) whole) first end → lent ≡ part → map (λ l. l.now) lent ≡ pieces lists first end
cut_is lists through whole part lent first end through_is whole_is part_is lent_is =
    ap (map (λ (l : Bor (List Record)). l.now)) lent_is ∙ part_is
    ∙ ap (λ (ls : List (List Record)). piece ls first end) (ap (map (λ (l : Bor (List Record)). l.now)) whole_is ∙ through_is)

-- of a piece there is a list of each feed
pub piece_size : (lists : List (Vec Record Global)) (lent : List (Bor (List Record))) (first end : ℕ)
    → map (λ l. l.now) lent ≡ pieces lists first end → length lent ≡ length lists
piece_size lists lent first end is =
    sym (length-map lent (λ (l : Bor (List Record)). l.now)) ∙ ap (λ (ls : List (List Record)). length ls) is
    ∙ length-map (map served lists) (λ (list : List Record). slice_range list first end) ∙ length-map lists served

pub orders_size : (lists : List (Vec Record Global)) (lent : List (Bor (List Record))) (first end : ℕ) (orders : List (List Order))
    → map (λ l. l.now) lent ≡ pieces lists first end
    → AllZip AreOrdersOf (map (λ l. l.now) lent) orders → length orders ≡ length lists
orders_size lists lent first end orders is are =
    sym (zip_size AreOrdersOf (map (λ (l : Bor (List Record)). l.now) lent) orders are) ∙ length-map lent (λ (l : Bor (List Record)). l.now)
    ∙ piece_size lists lent first end is

pub requests_size : (shown : Shown) (lists : List (Vec Record Global)) (lent : List (Bor (List Record))) (first end : ℕ)
    (reads : List (List Reads)) (answers : List (ℕ × Outcome)) (ended : Bool)
    (us vs : List (Vec ReadRequest Global)) → AreSoFar shown (fronts lists first) reads answers (rack_requests us) ended
    → map (λ l. l.now) lent ≡ pieces lists first end
    → map (λ v. length v.items) vs ≡ map (λ l. length (listed_before_close l.now)) lent → length us ≡ length vs
requests_size shown lists lent first end reads answers ended us vs so is counted =
    let before = ap (λ (ns : List ℕ). length ns) so.counted in
    let after = ap (λ (ns : List ℕ). length ns) counted in
    omega (
      arith,
      before,
      after,
      piece_size lists lent first end is,
      length-map (rack_requests us) (λ (requests : List RequestRead). length requests),
      length-map us (λ (requests : Vec ReadRequest Global). map read_of requests.items),
      length-map (fronts lists first) (λ (list : List Record). length (listed_before_close list)),
      length-map (map served lists) (λ (list : List Record). take first list),
      length-map lists served,
      length-map vs (λ (v : Vec ReadRequest Global). length v.items),
      length-map lent (λ (l : Bor (List Record)). length (listed_before_close l.now)),
    )
