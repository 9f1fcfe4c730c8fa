-- What is answered of several batches, one after the other.
use Rattle.std.proofs.Common.{◌≡◌, ◌≤◌, ◌+◌, ◌-◌, ◌++◌, ◌∙◌, Vec, Global, ℕ, List, [], ◌∷◌, length, take, drop, map, refl, sym, ap, arith}
use Rattle.std.specs.List.{AllZip, slice_range}
use Rattle.std.proofs.Math.Seq.{take-add}
use Rattle.std.proofs.lemmas.List.{length-drop, length-map, length-take-le, map-append}
use Rattle.lrc_code.specs.declared.outcomes.Outcome.{Outcome}
use Rattle.farm_core.specs.Merge.{AreMergedAnswers}
use Rattle.farm_orders.specs.Orders.{before_close}
use Rattle.farm_orders.specs.declared.orders.Order.{Order}
use Rattle.farm_threads.proofs.Works.{zip_append}
use Rattle.farm_files.specs.AnsweredRacks.{AreAnswered, all_requests}
use Rattle.farm_shelves.specs.Files.{Shown}
use Rattle.farm_reading.specs.Pairs.{zip_with}
use Rattle.farm_lists.specs.Requests.{RequestRead, listed_before_close, read_of}
use Rattle.farm_reading.specs.Reading.{AreRackReads, Reads, orders_rack, rack_read}
use Rattle.farm_lists.specs.declared.listing.Record.{Record}
use Rattle.farm_lists.specs.declared.requests.ReadRequest.{ReadRequest}

-- the front of a list, and a range after it
pub take_range : {A : Type 0} (xs : List A) (a b : ℕ) → a ≤ b → take b xs ≡ take a xs ++ slice_range xs a b
take_range xs a b within = ap (λ n. take n xs) (let e : b ≡ a + (b - a) = omega (arith, within) in e) ∙ take-add a (b - a) xs

-- the length of a range
pub range_length : {A : Type 0} (xs : List A) (a b : ℕ) → a ≤ b → b ≤ length xs → length (slice_range xs a b) ≡ b - a
range_length xs a b within past = length-take-le (b - a) (drop a xs) (omega (arith, length-drop a xs, within, past))

-- ---- how many requests, in memory and as lists

pub lengths_same : (feeds : List (Vec ReadRequest Global))
    → map (λ requests. length requests) (map (λ (us : Vec ReadRequest Global). map read_of us.items) feeds)
    ≡ map (λ us. length us.items) feeds
lengths_same [] = refl
lengths_same (us ∷ feeds) =
    ap (λ n. n ∷ map (λ (rs : List RequestRead). length rs) (map (λ (us : Vec ReadRequest Global). map read_of us.items) feeds))
    (length-map us.items read_of)
    ∙ ap (λ (t : List ℕ). length us.items ∷ t) (lengths_same feeds)

pub requests_counted : (racks : List (Vec (Vec ReadRequest Global) Global))
    → map (λ feeds. map (λ requests. length requests) feeds) (all_requests racks)
    ≡ map (λ feeds. map (λ us. length us.items) feeds.items) racks
requests_counted [] = refl
requests_counted (feeds ∷ racks) =
    ap (λ (t : List ℕ). t ∷ map (λ (feeds : List (List RequestRead)). map (λ (rs : List RequestRead). length rs) feeds)
    (all_requests racks)) (lengths_same feeds.items)
    ∙ ap (λ (t : List (List ℕ)). map (λ (us : Vec ReadRequest Global). length us.items) feeds.items ∷ t) (requests_counted racks)

-- ---- batches

pub zip_with_append : {A B C : Type 0} (f : A → B → C) (R : A → B → Type 0) (xs xs' : List A) (ys ys' : List B) → AllZip R xs ys
    → zip_with f (xs ++ xs') (ys ++ ys') ≡ zip_with f xs ys ++ zip_with f xs' ys'
zip_with_append f R [] xs' [] ys' all = refl
zip_with_append f R [] xs' (y ∷ ys) ys' all = absurd all
zip_with_append f R (x ∷ xs) xs' [] ys' all = absurd all
zip_with_append f R (x ∷ xs) xs' (y ∷ ys) ys' all = ap (λ t. f x y ∷ t) (zip_with_append f R xs xs' ys ys' all.1)

-- images that are those of two parts
pub both_images : {A B C : Type 0} (f : A → C) (g : B → C) (xs xs' : List A) (ys ys' : List B) → map f xs ≡ map g ys → map f xs' ≡ map g ys'
    → map f (xs ++ xs') ≡ map g (ys ++ ys')
both_images {C = C} f g xs xs' ys ys' first last = map-append f xs xs' ∙ ap (λ (t : List C). t ++ map f xs') first
    ∙ ap (λ (t : List C). map g ys ++ t) last ∙ sym (map-append g ys ys')

-- values of pairs that are those of two parts
pub both_values : {A B C : Type 0} (f : A → B → C) (R : A → B → Type 0) (xs xs' : List A) (ys ys' : List B) (zs zs' : List C)
    → AllZip R xs ys → zs ≡ zip_with f xs ys → zs' ≡ zip_with f xs' ys'
    → zs ++ zs' ≡ zip_with f (xs ++ xs') (ys ++ ys')
both_values {C = C} f R xs xs' ys ys' zs zs' all first last =
    ap (λ (t : List C). t ++ zs') first ∙ ap (λ (t : List C). zip_with f xs ys ++ t) last ∙ sym (zip_with_append f R xs xs' ys ys' all)

-- nothing is answered of no rack
pub answered_none : (shown : Shown) → AreAnswered shown [] [] [] []
answered_none shown = record { read = tt; orders = []; ordered = refl; merged = tt; counted = refl; given = λ there e. (refl, refl) }

-- what is expected of racks, and of those after them, is expected of all
pub answered_append : (shown : Shown) (lists lists' : List (List (List Record))) (reads reads' : List (List (List Reads)))
    (answers answers' : List (List (ℕ × Outcome))) (requests requests' : List (List (List RequestRead)))
    → AreAnswered shown lists reads answers requests → AreAnswered shown lists' reads' answers' requests'
    → AreAnswered shown (lists ++ lists') (reads ++ reads') (answers ++ answers') (requests ++ requests')
answered_append shown lists lists' reads reads' answers answers' requests requests' first last = record {
  read = zip_append AreRackReads lists lists' reads reads' first.read last.read;
  orders = first.orders ++ last.orders;
  ordered = both_images (λ (feeds : List (List Order)). map (λ (list : List Order). length (before_close list)) feeds)
      (λ (feeds : List (List Record)). map (λ (list : List Record). length (listed_before_close list)) feeds)
      first.orders last.orders lists lists' first.ordered last.ordered;
  merged = zip_append AreMergedAnswers first.orders last.orders answers answers' first.merged last.merged;
  counted = both_images (λ (feeds : List (List RequestRead)). map (λ (rs : List RequestRead). length rs) feeds)
      (λ (feeds : List (List Record)). map (λ (list : List Record). length (listed_before_close list)) feeds)
      requests requests' lists lists' first.counted last.counted;
  given = λ there e. (
    both_values (orders_rack there) AreRackReads lists lists' reads reads' first.orders last.orders first.read (first.given there e).0
        (last.given there e).0,
    both_values (rack_read there) AreRackReads lists lists' reads reads' requests requests' first.read (first.given there e).1
        (last.given there e).1,
  );
}
