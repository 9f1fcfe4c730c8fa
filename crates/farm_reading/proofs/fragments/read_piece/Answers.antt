use Rattle.std.proofs.Common.{◌≡◌, ◌∙◌, ◌++◌, ◌∷◌, [], Bor, Vec, Global, List, ℕ, add-zero, le-add_right, le_of_eq, length}
use Rattle.std.proofs.Common.{ap, get_or, map, refl, subst, sym, take}
use Rattle.std.specs.List.{AllZip}
use Rattle.farm_reading.specs.Pieces.{AreOrdersOf}
use Rattle.farm_orders.specs.declared.orders.Order.{Order}
use Rattle.farm_orders.proofs.Members.{all_zip_push}
use Rattle.farm_lists.specs.Requests.{RequestRead, listed_before_close, read_of}
use Rattle.farm_reading.specs.Reading.{AreReads, Reads, feed_failures, feed_read, orders_feed}
use Rattle.farm_lists.specs.declared.listing.Record.{Record}
use Rattle.farm_lists.specs.declared.requests.ReadRequest.{ReadRequest}
use Rattle.std.proofs.lemmas.Result.{IfOk-from_err}
use Rattle.farm_reading.proofs.Failures.{all_more, few_list, no_fewer, no_fewer_then, room_list}
use Rattle.farm_reading.proofs.Pieces.{count_within}
use Rattle.farm_reading.proofs.Pairs.{front_images, front_more, images_more, sum_push, values_more}
use Rattle.farm_reading.proofs.fragments.read_piece.Goals as goal

-- the reads of a list's requests before its close
AreOf : List Record → List Reads → Type 0
AreOf list feed = AllZip AreReads (listed_before_close list) feed

listed : Bor (List Record) → ℕ
listed l = length (listed_before_close l.now)

requests : Vec ReadRequest Global → List RequestRead
requests rs = map read_of rs.items

count : Vec ReadRequest Global → ℕ
count rs = length rs.items

pub loop-feed-init : goal.loop-feed-init
unfolding listed requests count
loop-feed-init g c = (
  [],
  tt,
  refl,
  sym (add-zero _),
  le-add_right _ _,
  subst (λ (os : List (List Order)). AllZip AreOrdersOf [] os) (sym c.new-feeds.ensures.items) tt,
  ap (map count) c.new-read.ensures.items,
  λ there e. (c.new-feeds.ensures.items, ap (map requests) c.new-read.ensures.items),
)

pub loop-feed-preserved : goal.loop-feed-preserved
unfolding AreOf listed requests count
loop-feed-preserved g c =
    let (reads, are, same, failed, few, ordered, requests_sized, shown) = c.loop-feed.invariant in
    let (q, is, rose, gives) = c.in_ok-list.ensures.read in
    let lists : List (Bor (List Record)) = c.args.lists.now in
    let i : ℕ = c.loop-feed.feed in
    let within = c.loop-feed-test.true in
    let here : Bor (List Record) = c.index-lists-feed.result in
    let ls : List (List Record) = map (λ (v : Bor (List Record)). v.now) (take i lists) in
    let list : List Record = here.now in
    let list_is : list ≡ (get_or lists i here).now = ap (λ (v : Bor (List Record)). v.now) c.index-lists-feed.is in
    let listed_is = ap (λ (l : List Record). length (listed_before_close l)) list_is in
    rw (front_more (λ (v : Bor (List Record)). v.now) lists i here list within list_is) (
      reads ++ q ∷ [],
      all_zip_push AreOf ls reads list q are is,
      c.in_ok-list.ensures.same ∙ same,
      all_more _ _ _ _ _ _ failed rose (sum_push feed_failures reads q),
      few_list _ _ _ _ _ _ _ (le_of_eq (sym (sum_push (λ (l : List Record). length l) ls list))) refl few c.in_ok-list.ensures.few,
      subst (λ (os : List (List Order)). AllZip AreOrdersOf (ls ++ list ∷ []) os) (sym c.in_ok-push.ensures.items)
          (all_zip_push AreOrdersOf ls c.loop-feed.feeds.items list c.in_ok-list.list ordered c.in_ok-list.ensures.orders),
      front_images count listed c.loop-feed.read.items c.push-in-loop-feed.new.self.items c.in_ok-list.requests lists i here within
          c.in_ok-push-2.ensures.items requests_sized
          (c.in_ok-list.ensures.counted ∙ listed_is),
      λ there e.
          let before = shown there e in
          let now = gives there (same ∙ e) in (
            values_more (orders_feed there) AreOf ls reads list q c.loop-feed.feeds.items c.push.new.self.items c.in_ok-list.list are
                c.in_ok-push.ensures.items before.0 now.0,
            images_more (λ l feed. feed_read there (listed_before_close l) feed) requests AreOf ls reads list q c.loop-feed.read.items
                c.push-in-loop-feed.new.self.items c.in_ok-list.requests are
                c.in_ok-push-2.ensures.items before.1 now.1,
          ),
    )

pub read_feed-requires-clause-room : goal.read_feed-requires-clause-room
read_feed-requires-clause-room g c κs within =
    let most = count_within c.args.lists.now c.loop-feed.feed c.index-lists-feed.result c.loop-feed-test.true in
    let here = ap (λ (v : Bor (List Record)). length v.now) c.index-lists-feed.is in
    room_list _ _ _ _ _ _ _ most here c.loop-feed.invariant.4 c.requires.room

pub returns-in_err-list-clause-few : goal.returns-in_err-list-clause-few
returns-in_err-list-clause-few g c =
    let most = count_within c.args.lists.now c.loop-feed.feed c.index-lists-feed.result c.loop-feed-test.true in
    let here = ap (λ (v : Bor (List Record)). length v.now) c.index-lists-feed.is in
    few_list _ _ _ _ _ _ _ most here c.loop-feed.invariant.4 c.in_err-list.ensures.few

pub returns-in_err-push-clause-few : goal.returns-in_err-push-clause-few
returns-in_err-push-clause-few g c =
    let most = count_within c.args.lists.now c.loop-feed.feed c.index-lists-feed.result c.loop-feed-test.true in
    let here = ap (λ (v : Bor (List Record)). length v.now) c.index-lists-feed.is in
    few_list _ _ _ _ _ _ _ most here c.loop-feed.invariant.4 c.in_ok-list.ensures.few

pub returns-in_err-push-2-clause-few : goal.returns-in_err-push-2-clause-few
returns-in_err-push-2-clause-few g c =
    let most = count_within c.args.lists.now c.loop-feed.feed c.index-lists-feed.result c.loop-feed-test.true in
    let here = ap (λ (v : Bor (List Record)). length v.now) c.index-lists-feed.is in
    few_list _ _ _ _ _ _ _ most here c.loop-feed.invariant.4 c.in_ok-list.ensures.few

-- ---- where memory is refused

pub returns-in_err-list-clause-same : goal.returns-in_err-list-clause-same
returns-in_err-list-clause-same g c = c.in_err-list.ensures.same ∙ c.loop-feed.invariant.2

pub returns-in_err-list-clause-read : goal.returns-in_err-list-clause-read
returns-in_err-list-clause-read g c = IfOk-from_err _ _ c.from_residual.ensures.0

pub returns-in_err-list-clause-orders : goal.returns-in_err-list-clause-orders
returns-in_err-list-clause-orders g c = IfOk-from_err _ _ c.from_residual.ensures.0

pub returns-in_err-list-clause-counted : goal.returns-in_err-list-clause-counted
returns-in_err-list-clause-counted g c = IfOk-from_err _ _ c.from_residual.ensures.0

pub returns-in_err-list-clause-more : goal.returns-in_err-list-clause-more
returns-in_err-list-clause-more g c = no_fewer_then _ _ _ _ c.loop-feed.invariant.3 c.in_err-list.ensures.more

pub returns-in_err-push-clause-same : goal.returns-in_err-push-clause-same
returns-in_err-push-clause-same g c = c.in_ok-list.ensures.same ∙ c.loop-feed.invariant.2

pub returns-in_err-push-clause-read : goal.returns-in_err-push-clause-read
returns-in_err-push-clause-read g c = IfOk-from_err _ _ c.from_residual-in_err-push.ensures.0

pub returns-in_err-push-clause-orders : goal.returns-in_err-push-clause-orders
returns-in_err-push-clause-orders g c = IfOk-from_err _ _ c.from_residual-in_err-push.ensures.0

pub returns-in_err-push-clause-counted : goal.returns-in_err-push-clause-counted
returns-in_err-push-clause-counted g c = IfOk-from_err _ _ c.from_residual-in_err-push.ensures.0

pub returns-in_err-push-clause-more : goal.returns-in_err-push-clause-more
returns-in_err-push-clause-more g c = no_fewer_then _ _ _ _ c.loop-feed.invariant.3 c.in_ok-list.ensures.more

pub returns-in_err-push-2-clause-same : goal.returns-in_err-push-2-clause-same
returns-in_err-push-2-clause-same g c = c.in_ok-list.ensures.same ∙ c.loop-feed.invariant.2

pub returns-in_err-push-2-clause-read : goal.returns-in_err-push-2-clause-read
returns-in_err-push-2-clause-read g c = IfOk-from_err _ _ c.from_residual-in_err-push-2.ensures.0

pub returns-in_err-push-2-clause-orders : goal.returns-in_err-push-2-clause-orders
returns-in_err-push-2-clause-orders g c = IfOk-from_err _ _ c.from_residual-in_err-push-2.ensures.0

pub returns-in_err-push-2-clause-counted : goal.returns-in_err-push-2-clause-counted
returns-in_err-push-2-clause-counted g c = IfOk-from_err _ _ c.from_residual-in_err-push-2.ensures.0

pub returns-in_err-push-2-clause-more : goal.returns-in_err-push-2-clause-more
returns-in_err-push-2-clause-more g c = no_fewer_then _ _ _ _ c.loop-feed.invariant.3 c.in_ok-list.ensures.more

pub returns-clause-same : goal.returns-clause-same
returns-clause-same g c = c.loop-feed.invariant.2

pub returns-clause-more : goal.returns-clause-more
returns-clause-more g c = no_fewer _ _ _ c.loop-feed.invariant.3
