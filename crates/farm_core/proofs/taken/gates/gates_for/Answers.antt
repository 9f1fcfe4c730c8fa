use Rattle.std.proofs.Common.{rules, arith, ◌≡◌, ◌∙◌, List, [], ◌∷◌, ◌++◌, length, get_or, vec_items, sym, ap, subst, ⊎_elim}
use mathlib.Core.Option.{some}
use lib.ListN.{get_elem?}
use Rattle.list_members.proofs.Lists.{at_below, at_snoc_or}
use Rattle.farm_lanes.specs.GateView.{GateName}
use Rattle.farm_orders.specs.declared.orders.Order.{Order}
use Rattle.farm_core.specs.declared.taken.gates.RackSeats.{RackSeats}
use Rattle.farm_core.specs.Ready.{IsNewGate}
use Rattle.farm_threads.specs.RunFeeds.{lists_of}
use Rattle.farm_orders.proofs.Members.{place_is}
use Rattle.farm_threads.proofs.Joined.{snoc_old, snoc_new}
use Rattle.farm_core.proofs.taken.gates.gates_for.Goals as goal

pub loop-rack-preserved : goal.loop-rack-preserved
loop-rack-preserved c =
    let was = c.loop-rack.invariant in let g = c.in_ok-gate in
    let gates = vec_items c.loop-rack.gates in let all = vec_items c.loop-rack.all in
    let gates_len : length gates ≡ c.loop-rack.rack = (let a = c.loop-rack.gates.ok in let b = was.0 in omega arith) in
    let all_len : length all ≡ c.loop-rack.rack = (let a = c.loop-rack.all.ok in let b = was.2 in omega arith) in (
      search rules,
      search rules,
      search rules,
      search rules,
      λ k feeds gate own at_l at_g at_o.
          let at_g' : get_elem? (gates ++ g.gate ∷ []) k ≡ some gate =
          subst (λ (l : List GateName). get_elem? l k ≡ some gate) c.push_reserved.ensures.items at_g in
          let at_o' : get_elem? (all ++ g.own ∷ []) k ≡ some own =
          subst (λ (l : List RackSeats). get_elem? l k ≡ some own) c.push_reserved-in-loop-rack.ensures.items at_o in
          ⊎_elim
          (λ old. let low = at_below gates k gate old in was.4 k feeds gate own at_l old (snoc_old all g.own own k (omega arith) at_o'))
          (λ (new : (k ≡ length gates) × (g.gate ≡ gate)).
          let here : k ≡ c.loop-rack.rack = new.0 ∙ gates_len in
          let same : c.feeds-feeds.result.now ≡ feeds = c.feeds-feeds.ensures.all
          ∙ (ap (λ i. get_or (lists_of c.args.lists) i []) (sym here) ∙ place_is (lists_of c.args.lists) k feeds [] at_l) in
          let P : List (List Order) × GateName × RackSeats → Type 0 = λ p. IsNewGate (length p.0) p.1 p.2 in
          subst P (λ i. (same i, new.1 i, snoc_new all g.own own k (here ∙ sym all_len) at_o' i)) g.ensures)
          (at_snoc_or gates g.gate gate k at_g'),
    )
