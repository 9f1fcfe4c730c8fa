use Rattle.std.proofs.Common.{◌≡◌, ◌<◌, ◌≤◌, ◌∙◌, ◌+◌, ◌++◌, ◌∷◌, [], All, Vec, Global, List, ℕ, arith, length, map, take, ap, refl, get_or}
use Rattle.std.proofs.Common.{add-zero, le-add_right, subst, sym}
use Rattle.std.proofs.lemmas.Result.{IfOk-from_err}
use Rattle.std.proofs.lemmas.List.{length-map, take_all, take_more}
use Rattle.std.proofs.lemmas.List.Elements.{All-nil, All-push}
use Rattle.std.proofs.lemmas.Simd.{map-map}
use Rattle.farm_orders.specs.FedLists.{IsFewFeeds}
use Rattle.farm_orders.specs.Limits.{rack_limit}
use Rattle.farm_orders.specs.Orders.{before_close}
use Rattle.farm_orders.specs.declared.orders.Order.{Order}
use Rattle.farm_orders.specs.declared.orders.RackList.{RackList}
use Rattle.farm_orders.proofs.Members.{all_zip_push}
use Rattle.farm_lists.specs.Requests.{RequestRead, listed_before_close, read_of}
use Rattle.farm_lists.specs.declared.listing.Record.{Record}
use Rattle.farm_lists.specs.declared.requests.ReadRequest.{ReadRequest}
use Rattle.farm_reading.specs.Reading.{AreRackReads, orders_rack, rack_failures, rack_read}
use Rattle.farm_reading.proofs.Failures.{all_more, few_rack, no_fewer, no_fewer_then}
use Rattle.farm_reading.proofs.FewFeeds.{few_feeds, same_few}
use Rattle.farm_reading.proofs.Pairs.{front_images, images_more, sum_push}
use Rattle.farm_reading.proofs.fragments.read_feeds.Goals as goal

lt-add-one : (n : ℕ) → n < n + 1
lt-add-one n = omega arith

abbrev Lists : Type 0
Lists = List (List Record)

abbrev Requests : Type 0
Requests = Vec (Vec ReadRequest Global) Global

served : Vec RackList Global → List ℕ
served rack = map (λ (os : List Order). length (before_close os)) rack.items

listed : Lists → List ℕ
listed feeds = map (λ (list : List Record). length (listed_before_close list)) feeds

requests : Requests → List (List RequestRead)
requests rack = map (λ (rs : Vec ReadRequest Global). map read_of rs.items) rack.items

counts : Requests → List ℕ
counts rack = map (λ (rs : Vec ReadRequest Global). length rs.items) rack.items

orders : Vec RackList Global → List (List Order)
orders rack = rack.items

Few : Vec RackList Global → Type 0
Few rack = IsFewFeeds rack.items

pub loop-rack-init : goal.loop-rack-init
unfolding served listed requests counts orders Few
loop-rack-init g c = (
  [],
  tt,
  refl,
  sym (add-zero _),
  le-add_right _ _,
  subst (λ (racks : List (Vec RackList Global)). All Few racks) (sym c.new-lists.ensures.items) (All-nil Few),
  ap (map served) c.new-lists.ensures.items,
  ap (map counts) c.new-read.ensures.items,
  λ there e. (ap (map orders) c.new-lists.ensures.items, ap (map requests) c.new-read.ensures.items),
)

pub loop-rack-preserved : goal.loop-rack-preserved
unfolding served listed requests counts orders Few
loop-rack-preserved g c =
    let (reads, are, same, failed, few, fed, orders_sized, requests_sized, shown) = c.loop-rack.invariant in
    let (q, is, rose, gives) = c.in_ok-feeds.ensures.read in
    let racks : List Lists = c.args.racks.now in
    let i : ℕ = c.loop-rack.rack in
    let within = c.loop-rack-test.true in
    let here : Lists = c.index-racks-rack.result in
    let rack : Lists = map (λ (l : Vec Record Global). l.items) c.feeds.result.now in
    let rack_is : rack ≡ get_or racks i here = c.feeds.ensures.value ∙ c.index-racks-rack.is in
    let sized : map (λ (l : Vec Record Global). length (listed_before_close l.items)) c.feeds.result.now ≡ listed (get_or racks i here) =
    sym (map-map (λ (list : List Record). length (listed_before_close list)) (λ (l : Vec Record Global). l.items) c.feeds.result.now)
    ∙ ap listed rack_is in
    let front : take (i + 1) racks ≡ take i racks ++ rack ∷ [] =
    take_more racks i here within ∙ ap (λ (t : Lists). take i racks ++ t ∷ []) (sym rack_is) in
    rw front (
      reads ++ q ∷ [],
      all_zip_push AreRackReads (take i racks) reads rack q are is,
      c.in_ok-feeds.ensures.same ∙ same,
      all_more _ _ _ _ _ _ failed rose (sum_push rack_failures reads q),
      few_rack _ _ _ _ _ (lt-add-one _) few c.in_ok-feeds.ensures.few,
      subst (λ (racks : List (Vec RackList Global)). All Few racks) (sym c.in_ok-push.ensures.items)
          (All-push Few c.loop-rack.lists.items c.in_ok-feeds.feeds fed
          (same_few c.in_ok-feeds.feeds.items c.feeds.result.now c.in_ok-feeds.ensures.orders c.feeds.ensures.count)),
      front_images served listed c.loop-rack.lists.items c.push.new.self.items c.in_ok-feeds.feeds racks i here within
          c.in_ok-push.ensures.items orders_sized (c.in_ok-feeds.ensures.orders ∙ sized) ∙ ap (map listed) front,
      front_images counts listed c.loop-rack.read.items c.push-in-loop-rack.new.self.items c.in_ok-feeds.requests racks i here within
          c.in_ok-push-2.ensures.items requests_sized (c.in_ok-feeds.ensures.counted ∙ sized) ∙ ap (map listed) front,
      λ there e.
          let before = shown there e in
          let now = gives there (same ∙ e) in (
            images_more (orders_rack there) orders AreRackReads (take i racks) reads rack q c.loop-rack.lists.items c.push.new.self.items
                c.in_ok-feeds.feeds are c.in_ok-push.ensures.items before.0 now.0,
            images_more (rack_read there) requests AreRackReads (take i racks) reads rack q c.loop-rack.read.items
                c.push-in-loop-rack.new.self.items c.in_ok-feeds.requests are c.in_ok-push-2.ensures.items before.1 now.1,
          ),
    )

-- at the end all lists were read
read_all : (lists : List (Vec RackList Global)) (racks : List Lists) (n : ℕ) → length racks ≤ n
    → map served lists ≡ map listed (take n racks) → map served lists ≡ map listed racks
read_all lists racks n past same = same ∙ ap (map listed) (take_all n racks past)

pub from_checked-requires : goal.from_checked-requires
unfolding served listed Few
from_checked-requires g c =
    let (reads, are, same, failed, few, fed, orders_sized, requests_sized, shown) = c.loop-rack.invariant in
    let all = ap (λ (ns : List (List ℕ)). length ns)
    (read_all c.loop-rack.lists.items c.args.racks.now c.loop-rack.rack c.loop-rack-test.false orders_sized) in
    few_feeds c.loop-rack.lists.items (subst (λ (n : ℕ). n ≤ rack_limit) (sym (sym (length-map c.loop-rack.lists.items served) ∙ all
    ∙ length-map c.args.racks.now listed)) c.requires.count) fed

pub returns-clause-orders : goal.returns-clause-orders
unfolding served listed orders
returns-clause-orders g c =
    let (reads, are, same, failed, few, fed, orders_sized, requests_sized, shown) = c.loop-rack.invariant in
    ap (map (λ (feeds : List (List Order)). map (λ (os : List Order). length (before_close os)) feeds)) c.from_checked.ensures
    ∙ map-map (λ (feeds : List (List Order)). map (λ (os : List Order). length (before_close os)) feeds) orders c.loop-rack.lists.items
    ∙ read_all c.loop-rack.lists.items c.args.racks.now c.loop-rack.rack c.loop-rack-test.false orders_sized

-- ---- where memory is refused

pub returns-in_err-feeds-clause-same : goal.returns-in_err-feeds-clause-same
returns-in_err-feeds-clause-same g c = c.in_err-feeds.ensures.same ∙ c.loop-rack.invariant.2

pub returns-in_err-feeds-clause-read : goal.returns-in_err-feeds-clause-read
returns-in_err-feeds-clause-read g c = IfOk-from_err _ _ c.from_residual.ensures.0

pub returns-in_err-feeds-clause-orders : goal.returns-in_err-feeds-clause-orders
returns-in_err-feeds-clause-orders g c = IfOk-from_err _ _ c.from_residual.ensures.0

pub returns-in_err-feeds-clause-counted : goal.returns-in_err-feeds-clause-counted
returns-in_err-feeds-clause-counted g c = IfOk-from_err _ _ c.from_residual.ensures.0

pub returns-in_err-feeds-clause-more : goal.returns-in_err-feeds-clause-more
returns-in_err-feeds-clause-more g c = no_fewer_then _ _ _ _ c.loop-rack.invariant.3 c.in_err-feeds.ensures.more

pub returns-in_err-push-clause-same : goal.returns-in_err-push-clause-same
returns-in_err-push-clause-same g c = c.in_ok-feeds.ensures.same ∙ c.loop-rack.invariant.2

pub returns-in_err-push-clause-read : goal.returns-in_err-push-clause-read
returns-in_err-push-clause-read g c = IfOk-from_err _ _ c.from_residual-in_err-push.ensures.0

pub returns-in_err-push-clause-orders : goal.returns-in_err-push-clause-orders
returns-in_err-push-clause-orders g c = IfOk-from_err _ _ c.from_residual-in_err-push.ensures.0

pub returns-in_err-push-clause-counted : goal.returns-in_err-push-clause-counted
returns-in_err-push-clause-counted g c = IfOk-from_err _ _ c.from_residual-in_err-push.ensures.0

pub returns-in_err-push-clause-more : goal.returns-in_err-push-clause-more
returns-in_err-push-clause-more g c = no_fewer_then _ _ _ _ c.loop-rack.invariant.3 c.in_ok-feeds.ensures.more

pub returns-in_err-push-2-clause-same : goal.returns-in_err-push-2-clause-same
returns-in_err-push-2-clause-same g c = c.in_ok-feeds.ensures.same ∙ c.loop-rack.invariant.2

pub returns-in_err-push-2-clause-read : goal.returns-in_err-push-2-clause-read
returns-in_err-push-2-clause-read g c = IfOk-from_err _ _ c.from_residual-in_err-push-2.ensures.0

pub returns-in_err-push-2-clause-orders : goal.returns-in_err-push-2-clause-orders
returns-in_err-push-2-clause-orders g c = IfOk-from_err _ _ c.from_residual-in_err-push-2.ensures.0

pub returns-in_err-push-2-clause-counted : goal.returns-in_err-push-2-clause-counted
returns-in_err-push-2-clause-counted g c = IfOk-from_err _ _ c.from_residual-in_err-push-2.ensures.0

pub returns-in_err-push-2-clause-more : goal.returns-in_err-push-2-clause-more
returns-in_err-push-2-clause-more g c = no_fewer_then _ _ _ _ c.loop-rack.invariant.3 c.in_ok-feeds.ensures.more

pub returns-in_err-feeds-clause-few : goal.returns-in_err-feeds-clause-few
returns-in_err-feeds-clause-few g c = few_rack _ _ _ _ _ c.loop-rack-test.true c.loop-rack.invariant.4 c.in_err-feeds.ensures.few

pub returns-in_err-push-clause-few : goal.returns-in_err-push-clause-few
returns-in_err-push-clause-few g c = few_rack _ _ _ _ _ c.loop-rack-test.true c.loop-rack.invariant.4 c.in_ok-feeds.ensures.few

pub returns-in_err-push-2-clause-few : goal.returns-in_err-push-2-clause-few
returns-in_err-push-2-clause-few g c = few_rack _ _ _ _ _ c.loop-rack-test.true c.loop-rack.invariant.4 c.in_ok-feeds.ensures.few

pub returns-clause-same : goal.returns-clause-same
returns-clause-same g c = c.loop-rack.invariant.2

pub returns-clause-more : goal.returns-clause-more
returns-clause-more g c = no_fewer _ _ _ c.loop-rack.invariant.3
