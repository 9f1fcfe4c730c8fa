use Rattle.std.proofs.Common.{arith, ◌≡◌, ◌∙◌, ◌<◌, ◌≤◌, ◌==◌, ℕ, zero, suc, false, true, true≢false, List, length, map, refl, sym, ap}
use Rattle.std.proofs.Common.{subst, inl, inr, Vec, Global}
use Rattle.std.proofs.lemmas.Bool.{cases_lt}
use Rattle.std.proofs.lemmas.Bool.Decides.{nat_tests}
use mathlib.Core.Option.{some}
use lib.ListN.{get_elem?}
use Rattle.list_members.proofs.Lists.{at_below, at_map, from_map}
use Rattle.farm_orders.specs.declared.orders.RackList.{RackList}
use Rattle.farm_orders.specs.FedLists.{IsFewFeeds, AreFeeds}
use Rattle.farm_orders.proofs.Members.{map_length, place_is, there}
use Rattle.farm_orders.proofs.feeds.Feeds.new.Goals as goal
use Rattle.farm_orders.proofs.feeds.Feeds.new.Goals.{then-is_empty-via-then-is_empty}
use Rattle.farm_orders.proofs.feeds.Feeds.new.Goals.{then-is_empty-via-else-is_empty+then-len-gt-MOST_FEEDS}

abbrev Rack : Type 0
Rack = Vec RackList Global

some_of : (n : ℕ) → false ≡ (n == 0) → 0 < n
some_of zero said = absurd (true≢false (sym said))
some_of (suc n) said = omega arith

none_of : (n : ℕ) → true ≡ (n == 0) → n ≡ 0
none_of n said = grind (arith, nat_tests)

-- all racks have few feeds, if each of those before the last has
all_few : (racks : List Rack) (n : ℕ) → length racks ≤ n → length racks ≤ 16
    → ((k : ℕ) (rack : Rack) → k < n → get_elem? racks k ≡ some rack → IsFewFeeds rack.items) → AreFeeds (map (λ rack. rack.items) racks)
all_few racks n long few each = (
  (let a = map_length (λ (r : Rack). r.items) racks in omega arith),
  λ k x at. let r = from_map (λ (r : Rack). r.items) racks k x at in subst IsFewFeeds r.2
      (each k r.0 (let low = at_below racks k r.0 r.1 in omega arith) r.1),
)

pub loop-rack-preserved : goal.loop-rack-preserved
loop-rack-preserved c = λ k rack low at. elim (cases_lt k c.loop-rack.rack-index) [
  | inl old ↦ c.loop-rack.invariant k rack old at
  | inr new ↦
      (let here : c.loop-rack.rack-index ≡ k = omega arith in
      let same : c.rack-item.result ≡ rack = c.rack-item.is
      ∙ place_is c.as_slice-rack-items.result.now c.loop-rack.rack-index rack c.rack-item.result
      (subst (λ i. get_elem? c.as_slice-rack-items.result.now i ≡ some rack) (sym here) at) in
      let some_in = some_of _ c.if-is_empty.ensures in
      let a = c.rack-item.result.ok in let b = c.if-len-gt-MOST_FEEDS.false in let d = c.len-else-is_empty.ensures in
      let few : IsFewFeeds c.rack-item.result.items = (omega arith, omega arith) in
      subst (λ (r : Rack). IsFewFeeds r.items) same few)
]

pub returns-then-is_empty-clause-refused : goal.returns-then-is_empty-clause-refused
returns-then-is_empty-clause-refused c = (
  refl,
  (let a = c.if-len-gt-MOST_RACKS.false in let b = c.len.ensures in let d = c.args.racks.ok in omega arith),
  λ each.
      let items = c.as_slice-rack-items.result.now in
      let x = there items c.loop-rack.rack-index c.loop-rack-test.true in
      let same : c.rack-item.result ≡ x.0 = c.rack-item.is ∙ place_is items c.loop-rack.rack-index x.0 c.rack-item.result x.1 in
      let few : IsFewFeeds x.0.items = each c.loop-rack.rack-index x.0.items
      (at_map (λ (r : Rack). r.items) c.args.racks.items c.loop-rack.rack-index x.0
      (subst (λ (l : List Rack). get_elem? l c.loop-rack.rack-index ≡ some x.0) c.as_slice-rack-items.ensures.value x.1)) in
      let mine : IsFewFeeds c.rack-item.result.items = subst (λ (r : Rack). IsFewFeeds r.items) (sym same) few in
      let p = mine.0 in let q = mine.1 in let o = c.rack-item.result.ok in
      elim c.then-is_empty.branch [
        | then-is_empty-via-then-is_empty w ↦ (let e = none_of _ (sym w.if-is_empty.true ∙ c.is_empty.ensures) in omega arith)
        | then-is_empty-via-else-is_empty+then-len-gt-MOST_FEEDS w ↦
            (let e = w.if-len-gt-MOST_FEEDS.true in let f = w.len-else-is_empty.ensures in omega arith)
      ],
)

pub from_checked-requires : goal.from_checked-requires
from_checked-requires c =
    all_few c.args.racks.items c.loop-rack.rack-index
    (let a = c.loop-rack-test.false in let b = ap (λ (l : List Rack). length l) c.as_slice-rack-items.ensures.value in omega arith)
    (let a = c.if-len-gt-MOST_RACKS.false in let b = c.len.ensures in let d = c.args.racks.ok in omega arith)
    (λ k rack low at. c.loop-rack.invariant k rack low (subst (λ (l : List Rack). get_elem? l k ≡ some rack)
    (sym c.as_slice-rack-items.ensures.value) at))

pub returns-clause-few : goal.returns-clause-few
returns-clause-few c =
    rw c.from_checked.ensures
    (all_few c.args.racks.items c.loop-rack.rack-index
    (let a = c.loop-rack-test.false in let b = ap (λ (l : List Rack). length l) c.as_slice-rack-items.ensures.value in omega arith)
    (let a = c.if-len-gt-MOST_RACKS.false in let b = c.len.ensures in let d = c.args.racks.ok in omega arith)
    (λ k rack low at. c.loop-rack.invariant k rack low (subst (λ (l : List Rack). get_elem? l k ≡ some rack)
    (sym c.as_slice-rack-items.ensures.value) at)))
