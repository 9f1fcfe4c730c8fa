-- All ends of small lanes.
use Rattle.std.proofs.Common.{◌≡◌, ℕ, zero, suc, ◌<◌, List, [], ◌∷◌, length, get_or, refl, sym, ap, subst, ◌∙◌, arith}
use mathlib.Core.Option.{some, some-ne-none, some-injective}
use lib.ListN.{get_elem?}
use Rattle.list_members.specs.Lists.{EachAt}
use Rattle.list_members.proofs.Lists.{at_below}
use Rattle.farm_lanes.specs.LaneEnds.{LaneName, PutView, TakeView, AreNewEnds, AreAllEnds}

module _ {A : Type 0} where
  read_at : (xs : List A) (k : ℕ) (x d : A) → get_elem? xs k ≡ some x → get_or xs k d ≡ x
  read_at [] k x d at = absurd (some-ne-none x (sym at))
  read_at (y ∷ ys) zero x d at = some-injective _ _ at
  read_at (y ∷ ys) (suc k) x d at = read_at ys k x d at

  at_or : (xs : List A) (k : ℕ) (d : A) → k < length xs → get_elem? xs k ≡ some (get_or xs k d)
  at_or [] k d below = absurd (omega arith)
  at_or (y ∷ ys) zero d below = refl
  at_or (y ∷ ys) (suc k) d below = at_or ys k d (omega arith)

module _ {T : Type 0} where
  -- the end is of this lane and of this sender
  abbrev IsPutOf : LaneName T → ℕ → PutView T → Type 0
  IsPutOf lane s e = (e.lane ≡ lane) × (e.sender ≡ s)

  abbrev IsTakeOf : LaneName T → ℕ → TakeView T → Type 0
  IsTakeOf lane t e = e.lane ≡ lane

  pub one_and_one : (lane : LaneName T) (p : PutView T) (t : TakeView T) → lane.ends ≡ 2 → (p.lane ≡ lane) × (p.sender ≡ 0) → t.lane ≡ lane
      → AreAllEnds (p ∷ []) (t ∷ [])
  one_and_one lane p t ends puts takes = record {
    lane = lane;
    all = omega arith;
    some_put = omega arith;
    each_put = at_put;
    each_take = at_take;
  }
    where
      at_put : EachAt (IsPutOf lane) (p ∷ [])
      at_put zero e at = subst (IsPutOf lane 0) (some-injective _ _ at) puts
      at_put (suc k) e at = absurd (some-ne-none e (sym at))

      at_take : EachAt (IsTakeOf lane) (t ∷ [])
      at_take zero e at = subst (IsTakeOf lane 0) (some-injective _ _ at) takes
      at_take (suc k) e at = absurd (some-ne-none e (sym at))

  -- all ends of a lane that were new, once each put end has put and each take end has taken
  pub all_ends : (p t : ℕ) (puts ended : List (PutView T)) (takes taken : List (TakeView T)) → AreNewEnds p t puts takes → 0 < p
      → length ended ≡ length puts → length taken ≡ length takes
      → ((i : ℕ) (d e : PutView T) → i < length puts → ((get_or ended i d).lane ≡ (get_or puts i e).lane)
      × ((get_or ended i d).sender ≡ (get_or puts i e).sender))
      → ((i : ℕ) (d e : TakeView T) → i < length takes → (get_or taken i d).lane ≡ (get_or takes i e).lane)
      → AreAllEnds ended taken
  all_ends p t puts ended takes taken o few n m same also_same = record {
    lane = o.lane;
    all = let a = o.put_ends.count in let b = o.take_ends.count in let c = o.ends in omega arith;
    some_put = let a = o.put_ends.count in omega arith;
    each_put = at_put;
    each_take = at_take;
  }
    where
      at_put : EachAt (IsPutOf o.lane) ended
      at_put k e at =
          let below = at_below ended k e at in
          let is = ap (λ (q : PutView T). q.lane) (read_at ended k e e at) in
          let sends = ap (λ (q : PutView T). q.sender) (read_at ended k e e at) in
          let w = same k e e (omega arith) in
          let new = o.put_ends.each k (get_or puts k e) (at_or puts k e (omega arith)) in
          (sym is ∙ (w.0 ∙ ap (λ (q : PutView T). q.lane) new), sym sends ∙ (w.1 ∙ ap (λ (q : PutView T). q.sender) new))

      at_take : EachAt (IsTakeOf o.lane) taken
      at_take k e at =
          let below = at_below taken k e at in
          let is = ap (λ (q : TakeView T). q.lane) (read_at taken k e e at) in
          let new = o.take_ends.each k (get_or takes k e) (at_or takes k e (omega arith)) in
          sym is ∙ (also_same k e e (omega arith) ∙ ap (λ (q : TakeView T). q.lane) new)
