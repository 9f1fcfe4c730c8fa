use Rattle.std.proofs.Common.{◌≡◌, ◌<◌, ◌≤◌, ◌+◌, ◌++◌, ◌∷◌, [], ◌∙◌, Bor, List, ℕ, arith, map, take, ap, length, refl, subst, sym}
use Rattle.std.proofs.Common.{add-zero, if◌then◌else◌, le_antisymm, le_of_eq}
use Rattle.std.proofs.lemmas.Result.{IfOk-from_err}
use Rattle.farm_orders.specs.Limits.{order_limit}
use Rattle.farm_reading.proofs.Failures.{all_more, few_all, few_further, no_fewer, no_fewer_then, room_further}
use Rattle.std.proofs.lemmas.List.{length-append}
use Rattle.farm_lists.specs.Listed.{ListedRequest}
use Rattle.farm_reading.specs.Reading.{AreReads, failures, request_read}
use Rattle.farm_reading.proofs.Pairs.{images_more, sum_push}
use Rattle.farm_reading.proofs.ReadRequests.{close_where, orders_few, orders_more, orders_push, reads_push, taken}
use Rattle.farm_lists.specs.Requests.{read_of}
use Rattle.farm_reading.proofs.fragments.read_requests.Goals as goal

lt-add-one : (n : ℕ) → n < n + 1
lt-add-one n = omega arith

pub read_request-requires : goal.read_request-requires
read_request-requires g c =
    room_further _ _ _ _ _ c.loop-index-test.true c.loop-index.invariant.4 c.requires.room

pub returns-in_err-request-clause-few : goal.returns-in_err-request-clause-few
returns-in_err-request-clause-few g c = few_further _ _ _ _ _ c.loop-index-test.true c.loop-index.invariant.4 c.in_err-request.ensures.few

pub returns-in_err-push-clause-few : goal.returns-in_err-push-clause-few
returns-in_err-push-clause-few g c = few_further _ _ _ _ _ c.loop-index-test.true c.loop-index.invariant.4 c.in_ok-request.ensures.few

pub returns-in_err-push-2-clause-few : goal.returns-in_err-push-2-clause-few
returns-in_err-push-2-clause-few g c = few_further _ _ _ _ _ c.loop-index-test.true c.loop-index.invariant.4 c.in_ok-request.ensures.few

pub loop-index-preserved : goal.loop-index-preserved
loop-index-preserved g c =
    let (reads, are, same, failed, few, made, left, shown) = c.loop-index.invariant in
    let (q, is, rose, gives) = c.in_ok-request.ensures.read in
    let rs : List ListedRequest = map (λ (x : Bor ListedRequest). x.now) (take c.loop-index.index c.args.requests.now) in
    let r : ListedRequest = c.index-requests-index.result.now in
    let more = taken c.args.requests.now c.loop-index.index c.index-requests-index.result c.loop-index-test.true c.index-requests-index.is
    in
    rw more (
      reads ++ q ∷ [],
      reads_push rs reads r q are is,
      c.in_ok-request.ensures.same ∙ same,
      all_more _ _ _ _ _ _ failed rose (sum_push failures reads q),
      few_further _ _ _ _ _ (lt-add-one _) few c.in_ok-request.ensures.few,
      (
        made.0 ++ c.in_ok-request.request ∷ [],
        orders_push c.loop-index.orders.items c.push.new.self.items made.0 c.in_ok-request.request made.1 c.in_ok-push.ensures.items,
        length-append made.0 (c.in_ok-request.request ∷ []) ∙ ap (λ (n : ℕ). n + 1) made.2,
      ),
      ap length {x = c.push-in-loop-index.new.self.items} {y = c.loop-index.read.items ++ c.in_ok-request.with_unread ∷ []}
          c.in_ok-push-2.ensures.items ∙ length-append c.loop-index.read.items (c.in_ok-request.with_unread ∷ [])
          ∙ ap (λ (n : ℕ). n + 1) left,
      λ there e.
          let before = shown there e in
          let now = gives there (same ∙ e) in (
            orders_more there rs reads r q c.loop-index.orders.items c.push.new.self.items c.in_ok-request.request are
                c.in_ok-push.ensures.items before.0 now.0,
            images_more (request_read there) read_of AreReads rs reads r q c.loop-index.read.items c.push-in-loop-index.new.self.items
                c.in_ok-request.with_unread are c.in_ok-push-2.ensures.items before.1 now.1,
          ),
    )

pub loop-index-init : goal.loop-index-init
loop-index-init g c = (
  [],
  tt,
  c.read_ahead.ensures.same,
  c.read_ahead.ensures.calm ∙ sym (add-zero _),
  le_of_eq (c.read_ahead.ensures.calm ∙ sym (add-zero _)),
  ([], c.new-orders.ensures.items, refl),
  ap length c.new-read.ensures.items,
  λ there e. (c.new-orders.ensures.items, ap (map read_of) c.new-read.ensures.items),
)

pub returns-in_err-push_close-clause-few : goal.returns-in_err-push_close-clause-few
returns-in_err-push_close-clause-few g c =
    few_all _ _ _ _ c.loop-index.auto.index-end c.loop-index.invariant.4

pub from_checked-requires : goal.from_checked-requires
from_checked-requires g c =
    let (reads, are, same, failed, few, made, left, shown) = c.loop-index.invariant in
    let all : c.loop-index.index ≡ length c.args.requests.now =
    le_antisymm c.loop-index.auto.index-end c.loop-index-test.false in
    orders_few c.push_close.new.orders.items c.loop-index.orders.items made.0 c.args.closes c.loop-index.index c.in_ok-push_close.ensures
    made.1 made.2 (subst (λ (n : ℕ). n + (if c.args.closes then 1 else 0) ≤ order_limit) (sym all) c.requires.orders)

pub returns-clause-orders : goal.returns-clause-orders
returns-clause-orders g c =
    let (reads, are, same, failed, few, made, left, shown) = c.loop-index.invariant in
    let all : c.loop-index.index ≡ length c.args.requests.now =
    le_antisymm c.loop-index.auto.index-end c.loop-index-test.false in
    (made.0, made.2 ∙ all, c.from_checked.ensures ∙ c.in_ok-push_close.ensures ∙ ap (λ t. t ++ close_where c.args.closes) made.1)

pub returns-clause-counted : goal.returns-clause-counted
returns-clause-counted g c =
    let (reads, are, same, failed, few, made, left, shown) = c.loop-index.invariant in
    let all : c.loop-index.index ≡ length c.args.requests.now =
    le_antisymm c.loop-index.auto.index-end c.loop-index-test.false in
    left ∙ all

-- ---- where memory is refused

pub returns-in_err-request-clause-same : goal.returns-in_err-request-clause-same
returns-in_err-request-clause-same g c = c.in_err-request.ensures.same ∙ c.loop-index.invariant.2

pub returns-in_err-request-clause-read : goal.returns-in_err-request-clause-read
returns-in_err-request-clause-read g c = IfOk-from_err _ _ c.from_residual.ensures.0

pub returns-in_err-request-clause-orders : goal.returns-in_err-request-clause-orders
returns-in_err-request-clause-orders g c = IfOk-from_err _ _ c.from_residual.ensures.0

pub returns-in_err-request-clause-counted : goal.returns-in_err-request-clause-counted
returns-in_err-request-clause-counted g c = IfOk-from_err _ _ c.from_residual.ensures.0

pub returns-in_err-request-clause-more : goal.returns-in_err-request-clause-more
returns-in_err-request-clause-more g c = no_fewer_then _ _ _ _ c.loop-index.invariant.3 c.in_err-request.ensures.more

pub returns-in_err-push-clause-same : goal.returns-in_err-push-clause-same
returns-in_err-push-clause-same g c = c.in_ok-request.ensures.same ∙ c.loop-index.invariant.2

pub returns-in_err-push-clause-read : goal.returns-in_err-push-clause-read
returns-in_err-push-clause-read g c = IfOk-from_err _ _ c.from_residual-in_err-push.ensures.0

pub returns-in_err-push-clause-orders : goal.returns-in_err-push-clause-orders
returns-in_err-push-clause-orders g c = IfOk-from_err _ _ c.from_residual-in_err-push.ensures.0

pub returns-in_err-push-clause-counted : goal.returns-in_err-push-clause-counted
returns-in_err-push-clause-counted g c = IfOk-from_err _ _ c.from_residual-in_err-push.ensures.0

pub returns-in_err-push-clause-more : goal.returns-in_err-push-clause-more
returns-in_err-push-clause-more g c = no_fewer_then _ _ _ _ c.loop-index.invariant.3 c.in_ok-request.ensures.more

pub returns-in_err-push-2-clause-same : goal.returns-in_err-push-2-clause-same
returns-in_err-push-2-clause-same g c = c.in_ok-request.ensures.same ∙ c.loop-index.invariant.2

pub returns-in_err-push-2-clause-read : goal.returns-in_err-push-2-clause-read
returns-in_err-push-2-clause-read g c = IfOk-from_err _ _ c.from_residual-in_err-push-2.ensures.0

pub returns-in_err-push-2-clause-orders : goal.returns-in_err-push-2-clause-orders
returns-in_err-push-2-clause-orders g c = IfOk-from_err _ _ c.from_residual-in_err-push-2.ensures.0

pub returns-in_err-push-2-clause-counted : goal.returns-in_err-push-2-clause-counted
returns-in_err-push-2-clause-counted g c = IfOk-from_err _ _ c.from_residual-in_err-push-2.ensures.0

pub returns-in_err-push-2-clause-more : goal.returns-in_err-push-2-clause-more
returns-in_err-push-2-clause-more g c = no_fewer_then _ _ _ _ c.loop-index.invariant.3 c.in_ok-request.ensures.more

pub returns-in_err-push_close-clause-same : goal.returns-in_err-push_close-clause-same
returns-in_err-push_close-clause-same g c = c.loop-index.invariant.2

pub returns-in_err-push_close-clause-read : goal.returns-in_err-push_close-clause-read
returns-in_err-push_close-clause-read g c = IfOk-from_err _ _ c.from_residual-in_err-push_close.ensures.0

pub returns-in_err-push_close-clause-orders : goal.returns-in_err-push_close-clause-orders
returns-in_err-push_close-clause-orders g c = IfOk-from_err _ _ c.from_residual-in_err-push_close.ensures.0

pub returns-in_err-push_close-clause-counted : goal.returns-in_err-push_close-clause-counted
returns-in_err-push_close-clause-counted g c = IfOk-from_err _ _ c.from_residual-in_err-push_close.ensures.0

pub returns-in_err-push_close-clause-more : goal.returns-in_err-push_close-clause-more
returns-in_err-push_close-clause-more g c = no_fewer _ _ _ c.loop-index.invariant.3

pub returns-clause-same : goal.returns-clause-same
returns-clause-same g c = c.loop-index.invariant.2

pub returns-clause-more : goal.returns-clause-more
returns-clause-more g c = no_fewer _ _ _ c.loop-index.invariant.3

pub returns-clause-few : goal.returns-clause-few
returns-clause-few g c = few_all _ _ _ _ c.loop-index.auto.index-end c.loop-index.invariant.4
