use Rattle.std.specs.Prelude.{nat_lt}
use Rattle.farm_orders.specs.declared.orders.Order.{Order}
use Rattle.farm_orders.specs.declared.orders.Order.TheVariants.{Rebuild}
use Rattle.std.proofs.Common.{◌≡◌, ◌∙◌, ◌≤◌, ◌++◌, Bor, sym, List, length, map, ap, subst, arith}
use Rattle.std.specs.List.{AllZip}
use Rattle.std.proofs.lemmas.List.{length-map}
use Rattle.std.proofs.lemmas.Result.{IfOk-weaker}
use Rattle.farm_lists.specs.Listed.{ListedRequest}
use Rattle.farm_lists.specs.Requests.{listed_before_close}
use Rattle.farm_reading.specs.Reading.{AreReads, asked_feed, feed_read}
use Rattle.farm_reading.proofs.ReadRequests.{close_counted, close_where, counted_few, served_few}
use Rattle.farm_reading.proofs.fragments.read_feed.Goals as goal
use Rattle.farm_reading.proofs.fragments.read_feed.Goals.{After-as_slice}

-- the slice that is read is the list's requests before its close
the_listed : (g : Rattle.farm_reading.proofs.fragments.read_feed.Given.Over) (c : After-as_slice g)
    → map (λ (r : Bor ListedRequest). r.now) c.as_slice.result.now ≡ listed_before_close c.args.list.now
the_listed g c = ap (map (λ (r : Bor ListedRequest). r.now)) c.as_slice.ensures.value ∙ c.in_ok-requests.ensures

few : (g : Rattle.farm_reading.proofs.fragments.read_feed.Given.Over) (c : After-as_slice g)
    → length c.as_slice.result.now ≤ length c.args.list.now
few g c =
    let len = ap (λ (rs : List ListedRequest). length rs) (the_listed g c) in
    omega (arith, len, length-map c.as_slice.result.now (λ (r : Bor ListedRequest). r.now), served_few c.args.list.now)

pub read_requests-requires-clause-room : goal.read_requests-requires-clause-room
read_requests-requires-clause-room g c κs within = omega (arith, few g c, c.requires.room)

pub read_requests-requires-clause-orders : goal.read_requests-requires-clause-orders
read_requests-requires-clause-orders g c κs within =
    let same = ap (λ (rs : List ListedRequest). length rs) (the_listed g c) in
    let size = length-map c.as_slice.result.now (λ (r : Bor ListedRequest). r.now) in
    let items = ap (λ (rs : List (Bor ListedRequest)). length rs) c.as_slice.ensures.value in
    counted_few (length c.as_slice.result.now) c.len.result (length c.args.list.now)
    (omega (arith, c.len.ensures, items, c.in_ok-requests.requests.ok.0))
    (omega (arith, same, size, served_few c.args.list.now)) c.requires.orders

pub returns-clause-few : goal.returns-clause-few
returns-clause-few g c = omega (arith, few g (goal.at.returns-clause-few g c).After-as_slice, c.read_requests.ensures.few)

pub returns-clause-read : goal.returns-clause-read
returns-clause-read g c =
    let same = the_listed g (goal.at.returns-clause-read g c).After-as_slice in
    let size = ap (λ (rs : List ListedRequest). length rs) same in
    let items = ap (λ (rs : List (Bor ListedRequest)). length rs) c.as_slice.ensures.value in
    let images = length-map c.as_slice.result.now (λ (r : Bor ListedRequest). r.now) in
    let counted : c.len.result ≡ length (listed_before_close c.args.list.now) =
    omega (arith, c.len.ensures, items, images, size, c.in_ok-requests.requests.ok.0) in
    IfOk-weaker c.read_requests.result _ _ (λ v it.
    let (reads, are, rose, shown) = it in (
      reads,
      subst (λ (rs : List ListedRequest). AllZip AreReads rs reads) same are,
      rose,
      λ there e.
          let t = shown there e in (
            t.0
                ∙ ap (λ (rs : List ListedRequest). map Rebuild (asked_feed there rs reads) ++ close_where
                (nat_lt c.len.result (length c.args.list.now))) same
                ∙ ap (λ (tail : List Order). map Rebuild (asked_feed there (listed_before_close c.args.list.now) reads) ++ tail)
                (sym (close_counted c.args.list.now c.len.result counted)),
            t.1 ∙ ap (λ (rs : List ListedRequest). feed_read there rs reads) same,
          ),
    )) c.read_requests.ensures.read

-- the requests that are read are those of the list
sized : (g : Rattle.farm_reading.proofs.fragments.read_feed.Given.Over) (c : After-as_slice g)
    → length c.as_slice.result.now ≡ length (listed_before_close c.args.list.now)
sized g c =
    let size = ap (λ (rs : List ListedRequest). length rs) (the_listed g c) in
    omega (arith, size, length-map c.as_slice.result.now (λ (r : Bor ListedRequest). r.now))

pub returns-clause-orders : goal.returns-clause-orders
returns-clause-orders g c =
    let at = goal.at.returns-clause-orders g c in
    let items = ap (λ (rs : List (Bor ListedRequest)). length rs) c.as_slice.ensures.value in
    let counted : c.len.result ≡ length (listed_before_close c.args.list.now) =
    omega (arith, c.len.ensures, items, sized g at.After-as_slice, c.in_ok-requests.requests.ok.0) in
    IfOk-weaker c.read_requests.result _ _ (λ v it.
    let (wanted, size, is) = it in (
      wanted,
      size ∙ sized g at.After-as_slice,
      is ∙ ap (λ (tail : List Order). map Rebuild wanted ++ tail) (sym (close_counted c.args.list.now c.len.result counted)),
    )) c.read_requests.ensures.orders

pub returns-clause-counted : goal.returns-clause-counted
returns-clause-counted g c =
    IfOk-weaker c.read_requests.result _ _
    (λ v it. it ∙ sized g (goal.at.returns-clause-counted g c).After-as_slice) c.read_requests.ensures.counted
