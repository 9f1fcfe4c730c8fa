use Rattle.std.proofs.Common.{◌≡◌, ◌<◌, length, get_or, set, take, drop, None, subst, sym, ap, ◌∙◌, arith, inl, inr, ◌≢◌}
use Rattle.std.proofs.lemmas.Bool.{cases_lt}
use Rattle.std.proofs.lemmas.List.{get_or-set_other, get_or-set_same, get_or_read}
use Rattle.std.proofs.lemmas.List.Elements.{All-map}
use Rattle.stores.specs.Shown.{shown_of}
use Rattle.store_repair.proofs.WindowLemmas.{map_alike, shown_at, shown_length}
use Rattle.store_repair.proofs.windows.read_window.Goals as goal

pub loop-index-preserved : goal.loop-index-preserved
loop-index-preserved g c =
    let shown = g.F.Fragment.shown in
    let fragments = c.args.fragments.now in
    let rooms = c.loop-index.rooms in
    let i = c.loop-index.index in
    let room = c.read_into.new.room in
    let size = c.args.size in
    let lt : i < length rooms = omega arith in
    let fragment_lt : i < length fragments = omega arith in
    record {
      sizes = λ k d more. elim (cases_lt k i) as (λ _.
          length (get_or (set rooms i room) k d).items ≢ 0 → length (get_or (set rooms i room) k d).items ≡ size) [
            | inl less ↦ subst (λ r. length r.items ≢ 0 → length r.items ≡ size)
                (sym (get_or-set_other rooms i k room d (omega (arith, less)))) (c.loop-index.invariant.sizes k d less)
            | inr le ↦ subst (λ j. length (get_or (set rooms i room) j d).items ≢ 0 → length (get_or (set rooms i room) j d).items ≡ size)
                (omega (arith, le, more))
                (subst (λ r. length r.items ≢ 0 → length r.items ≡ size) (sym (get_or-set_same rooms i room d lt))
                c.in_default.ensures.size)
          ];
      read = λ at are k d e more. elim (cases_lt k i) as (λ _.
          (get_or (set rooms i room) k d).items ≡ take size (drop c.args.from (get_or at k e))) [
            | inl less ↦ ap (λ r. r.items) (get_or-set_other rooms i k room d (omega (arith, less)))
                ∙ c.loop-index.invariant.read at are k d e less
            | inr le ↦ subst (λ j. (get_or (set rooms i room) j d).items ≡ take size (drop c.args.from (get_or at j e)))
                (omega (arith, le, more))
                (ap (λ r. r.items) (get_or-set_same rooms i room d lt)
                ∙ c.in_default.ensures.bytes (get_or at i e)
                (ap (shown_of shown) (get_or_read fragments i c.index-fragments-index.result fragment_lt c.index-fragments-index.is None)
                ∙ shown_at shown fragments at are i None e fragment_lt))
          ];
    }

pub returns-clause-sizes : goal.returns-clause-sizes
returns-clause-sizes g c = All-map (λ xs. length xs ≢ 0 → length xs ≡ c.args.size) (λ room. room.items) c.loop-index.rooms
    (λ k d lt. c.loop-index.invariant.sizes k d (omega (arith, lt)))

pub returns-clause-window : goal.returns-clause-window
returns-clause-window g c = λ at are.
    let shown = g.F.Fragment.shown in
    let many = shown_length shown c.args.fragments.now at are in
    map_alike (λ room. room.items) (λ xs. take c.args.size (drop c.args.from xs)) c.loop-index.rooms at (omega (arith, many))
    (λ k d e lt. c.loop-index.invariant.read at are k d e (omega (arith, lt)))
