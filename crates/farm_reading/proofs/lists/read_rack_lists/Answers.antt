use Rattle.std.proofs.Common.{◌≡◌, ◌≤◌, ◌∙◌, ◌∷◌, [], List, arith, ap, sym, length, subst, All, Vec, Global}
use Rattle.farm_orders.specs.Limits.{order_limit}
use Rattle.std.proofs.lemmas.List.{length-append}
use Rattle.std.proofs.lemmas.List.Elements.{All-push}
use Rattle.std.proofs.lemmas.Result.{err_from_is_err_and}
use Rattle.farm_lists.specs.declared.listing.Record.{Record}
use Rattle.farm_lists.specs.Names.{list_name}
use Rattle.farm_reading.proofs.ReadRacks.{absent, feed_explains, feeds_push, fifth_explains, not_some}
use Rattle.farm_reading.proofs.lists.read_rack_lists.Goals as goal

pub loop-feed-preserved : goal.loop-feed-preserved
loop-feed-preserved g c =
    let (same, calm, size, small, have) = c.loop-feed.invariant in
    let items = c.in_ok-push-in-Some.ensures.items in (
      c.in_ok-list.ensures.same ∙ same,
      c.in_ok-list.ensures.calm ∙ calm,
      ap length items ∙ omega (arith, size, length-append c.loop-feed.feeds.items (c.in-Some.list ∷ [])),
      (let listed = rw c.in-Some.is at c.in_ok-list.ensures.few in
          let P : Vec Record Global → Type 0 = λ v. length v.items ≤ order_limit in
          subst (λ (vs : List (Vec Record Global)). All P vs) (sym items) (All-push P c.loop-feed.feeds.items c.in-Some.list small listed)),
      λ there e. rw items (feeds_push there c.args.rack c.loop-feed.feeds.items c.in-Some.list c.loop-feed.feed size (have there e)
          (rw c.in-Some.is at c.in_ok-list.ensures.list there (same ∙ e))),
    )

pub returns-in_err-list-clause-why : goal.returns-in_err-list-clause-why
returns-in_err-list-clause-why g c =
    let (same, calm, size, small, have) = c.loop-feed.invariant in
    let p = err_from_is_err_and c.from_residual.result c.from_residual.ensures.1 in
    rw (p.1, p.2) (λ there e. feed_explains c.in_err-list.field-0.0 there
    (g.I.Shelf.files c.loop-feed.input) c.args.rack c.loop-feed.feeds.items c.loop-feed.feed _ _ (same ∙ e) size c.loop-feed-test.true
    (have there e) c.in_err-list.ensures.fault)

pub returns-in-None-clause-lists : goal.returns-in-None-clause-lists
returns-in-None-clause-lists g c = λ there e.
    let (same, calm, size, small, have) = c.loop-feed.invariant in (
      have there e,
      ap (λ n. there (list_name c.args.rack n)) size ∙ absent (there (list_name c.args.rack c.loop-feed.feed))
          (rw c.in-None.is at c.in_ok-list.ensures.list there (same ∙ e)),
    )

pub returns-then-branch-clause-why : goal.returns-then-branch-clause-why
returns-then-branch-clause-why g c = λ there e.
    let (same, calm, size, small, have) = c.loop-feed.invariant in
    fifth_explains there c.args.rack c.loop-feed.feeds.items c.loop-feed.feed size
    (omega (arith, c.loop-feed-test.false, c.loop-feed.auto.feed-end)) (have there e)
    (c.in_ok-has_list.ensures.has there (same ∙ e) ∙ c.if-branch.true)

pub returns-clause-lists : goal.returns-clause-lists
returns-clause-lists g c = λ there e.
    let (same, calm, size, small, have) = c.loop-feed.invariant in
    let all : length c.loop-feed.feeds.items ≡ 4 = omega (arith, size, c.loop-feed-test.false, c.loop-feed.auto.feed-end) in (
      have there e,
      ap (λ n. there (list_name c.args.rack n)) all ∙ not_some (there (list_name c.args.rack 4))
          (c.in_ok-has_list.ensures.has there (same ∙ e) ∙ c.if-branch.false),
    )
