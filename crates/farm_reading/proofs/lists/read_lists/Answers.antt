use Rattle.std.proofs.Common.{◌≡◌, ◌<◌, ◌≤◌, ◌∙◌, ◌∷◌, ◌==◌, [], ℕ, zero, suc, true, false, true≢false, List, arith, ap, sym, length, subst}
use Rattle.farm_orders.specs.Limits.{order_limit}
use Rattle.std.proofs.Common.{All, Vec, Global}
use Rattle.std.proofs.lemmas.Bool.Decides.{nat_tests}
use Rattle.std.proofs.lemmas.List.{length-append, length-map}
use Rattle.std.proofs.lemmas.List.Elements.{All-push}
use Rattle.std.proofs.lemmas.Result.{err_from_is_err_and}
use Rattle.farm_lists.specs.declared.listing.Record.{Record}
use Rattle.farm_lists.specs.Names.{list_name}
use Rattle.farm_reading.specs.Reading.{AreFeeds}
use Rattle.farm_reading.proofs.ReadRacks.{feeds_all, have_rack_more, lists_few, many_explain, none_at, not_some, rack_explains}
use Rattle.farm_reading.proofs.ReadRacks.{racks_all, records}
use Rattle.farm_reading.proofs.lists.read_lists.Goals as goal

abbrev Feeds : Type 0
Feeds = Vec (Vec Record Global) Global

abbrev Rack : Type 0
Rack = List (List Record)

some_of : (n : ℕ) → false ≡ (n == 0) → 0 < n
some_of zero said = absurd (true≢false (sym said))
some_of (suc n) said = omega arith

none_of : (n : ℕ) → true ≡ (n == 0) → n ≡ 0
none_of n said = grind (arith, nat_tests)

pub returns-in_err-feeds-clause-why : goal.returns-in_err-feeds-clause-why
returns-in_err-feeds-clause-why g c =
    let (same, calm, size, few, small, have) = c.loop-rack.invariant in
    let p = err_from_is_err_and c.from_residual.result c.from_residual.ensures.1 in
    rw (p.1, p.2) (λ there e. rack_explains c.in_err-feeds.field-0.0 there c.loop-rack.racks.items c.loop-rack.rack size
    c.loop-rack-test.true (have there e) (c.in_err-feeds.ensures.why there (same ∙ e)))

pub loop-rack-preserved : goal.loop-rack-preserved
loop-rack-preserved g c =
    let (same, calm, size, few, small, have) = c.loop-rack.invariant in
    let items = c.in_ok-push.ensures.items in
    let here : Feeds = c.in_ok-feeds.feeds in
    let rack : Rack = c.from_checked.result in
    let is : rack ≡ records here = c.from_checked.ensures in
    let sized : length rack ≡ length here.items =
    ap (λ (ls : Rack). length ls) is ∙ length-map here.items (λ (v : Vec Record Global). v.items) in
    let some : 0 < length here.items = let more = some_of _ c.if-is_empty.ensures in omega (arith, more, c.in_ok-feeds.feeds.ok.0) in (
      c.in_ok-feeds.ensures.same ∙ same,
      c.in_ok-feeds.ensures.calm ∙ calm,
      ap length items ∙ omega (arith, size, length-append c.loop-rack.racks.items (rack ∷ [])),
      (let P : Rack → Type 0 = λ feeds. (0 < length feeds) × (length feeds ≤ 4) in
          subst (λ (vs : List Rack). All P vs) (sym items)
          (All-push P c.loop-rack.racks.items rack few (omega (arith, sized, some), omega (arith, sized, c.in_ok-feeds.ensures.feeds)))),
      (let P : Rack → Type 0 = λ feeds. All (λ (list : List Record). length list ≤ order_limit) feeds in
          subst (λ (vs : List Rack). All P vs) (sym items)
          (All-push P c.loop-rack.racks.items rack small (subst P (sym is) (lists_few here.items c.in_ok-feeds.ensures.orders)))),
      λ there e.
          let (read, none) = c.in_ok-feeds.ensures.lists there (same ∙ e) in
          rw items (have_rack_more there 0 c.loop-rack.racks.items rack c.loop-rack.rack (omega (arith, size)) (have there e)
          (subst (λ (ls : Rack). AreFeeds there c.loop-rack.rack ls) (sym is)
          (feeds_all there c.loop-rack.rack here read none some c.in_ok-feeds.ensures.feeds))),
    )

pub returns-then-rack-eq0-clause-why : goal.returns-then-rack-eq0-clause-why
returns-then-rack-eq0-clause-why g c = λ there e.
    let (same, calm, size, few, small, have) = c.loop-rack.invariant in
    let empty : length c.in_ok-feeds.feeds.items ≡ 0 = let none =
    none_of _ c.if-is_empty.ensures in omega (arith, none, c.in_ok-feeds.feeds.ok.0) in
    ap (λ n. there (list_name n 0)) (sym c.if-rack-eq0.true)
    ∙ none_at there c.loop-rack.rack c.in_ok-feeds.feeds (c.in_ok-feeds.ensures.lists there (same ∙ e)).1 empty

pub returns-then-is_empty-clause-lists : goal.returns-then-is_empty-clause-lists
returns-then-is_empty-clause-lists g c = λ there e.
    let (same, calm, size, few, small, have) = c.loop-rack.invariant in
    let empty : length c.in_ok-feeds.feeds.items ≡ 0 = let none =
    none_of _ c.if-is_empty.ensures in omega (arith, none, c.in_ok-feeds.feeds.ok.0) in
    racks_all there c.loop-rack.racks.items c.loop-rack.rack size (omega (arith, c.if-rack-eq0.false))
    (omega (arith, c.loop-rack-test.true)) (have there e)
    (none_at there c.loop-rack.rack c.in_ok-feeds.feeds (c.in_ok-feeds.ensures.lists there (same ∙ e)).1 empty)

pub returns-then-branch-clause-why : goal.returns-then-branch-clause-why
returns-then-branch-clause-why g c = λ there e.
    let (same, calm, size, few, small, have) = c.loop-rack.invariant in
    many_explain there c.loop-rack.racks.items c.loop-rack.rack size (omega (arith, c.loop-rack-test.false, c.loop-rack.auto.rack-end))
    (have there e) (c.in_ok-has_list.ensures.has there (same ∙ e) ∙ c.if-branch.true)

pub returns-clause-lists : goal.returns-clause-lists
returns-clause-lists g c = λ there e.
    let (same, calm, size, few, small, have) = c.loop-rack.invariant in
    let all : c.loop-rack.rack ≡ 16 = omega (arith, c.loop-rack-test.false, c.loop-rack.auto.rack-end) in
    racks_all there c.loop-rack.racks.items c.loop-rack.rack size (omega (arith, all)) (omega (arith, all)) (have there e)
    (ap (λ n. there (list_name n 0)) all ∙ not_some (there (list_name 16 0))
    (c.in_ok-has_list.ensures.has there (same ∙ e) ∙ c.if-branch.false))
