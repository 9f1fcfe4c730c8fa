use Rattle.std.proofs.Common.{◌≡◌, ℕ, ◌+◌, ◌-◌, [], sym, ◌∙◌, subst, arith}
use Rattle.std.proofs.lemmas.Grind.{common_steps}
use Rattle.crossbeam_channel.specs.Claims.{IsSeatAt, view}
use Rattle.crossbeam_channel.specs.Ends.{sends_on, receives_on}
use Rattle.farm_lanes.specs.LaneEnds.{new_take}
use Rattle.farm_lanes.specs.LaneRule.{end_record}
use Rattle.list_members.proofs.Lists.{all_last, all_front, more_items}
use Rattle.farm_lanes.proofs.Opens.{cut_take_is, left_take_is, take_ends_more}
use Rattle.farm_lanes.proofs.lane.opening.deal_takes.Goals as goal

pub new-requires-clause-seated : goal.new-requires-clause-seated
new-requires-clause-seated g c =
    let was = c.loop-taker.invariant in
    let same = all_last (λ r. receives_on r ≡ sends_on c.args.sends.now) c.loop-taker.copies.items c.pop.new.self.items c.in-Some.copy
    c.in-Some.ensures.items was.copies_same in
    subst (λ q. IsSeatAt q c.cut_take-mine.result) (sym same) c.cut_take-mine.ensures.seated.1

pub new-requires-clause-cut : goal.new-requires-clause-cut
new-requires-clause-cut g c =
    let was = c.loop-taker.invariant in
    let E : ℕ = c.args.putters + c.args.takers in
    let left : ℕ = c.args.takers - c.loop-taker.taker in
    let cut = cut_take_is (view c.loop-taker.pass) (view c.cut_take-mine.result) E left was.rest c.cut_take-mine.ensures.cut in
    cut ∙ (λ i. end_record (sym cut i).ends 1 [] [])

pub loop-taker-preserved : goal.loop-taker-preserved
loop-taker-preserved g c =
    let was = c.loop-taker.invariant in
    let E : ℕ = c.args.putters + c.args.takers in
    let left : ℕ = c.args.takers - c.loop-taker.taker in
    let seat = c.cut_take-mine.ensures.seated.1 in
    let cut = cut_take_is (view c.loop-taker.pass) (view c.cut_take-mine.result) E left was.rest c.cut_take-mine.ensures.cut in record {
      seated = c.cut_take-mine.ensures.seated.0;
      rest = left_take_is (view c.loop-taker.pass) (view c.cut_take-mine.new.pass) E left
          (c.args.takers - (c.loop-taker.taker + 1)) was.rest (omega (arith, c.loop-taker-test.true)) c.cut_take-mine.ensures.rest;
      copies_left = omega (
        arith,
        was.copies_left,
        more_items c.pop.new.self.items c.loop-taker.copies.items c.in-Some.copy
            c.in-Some.ensures.items,
      );
      copies_same = all_front (λ s. receives_on s ≡ sends_on c.args.sends.now) c.loop-taker.copies.items c.pop.new.self.items c.in-Some.copy
          c.in-Some.ensures.items was.copies_same;
      room = grind (arith, common_steps);
      made = take_ends_more _ c.loop-taker.taker c.loop-taker.takes.items c.push_reserved.new.self.items c.new.result was.made
          c.push_reserved.ensures.items
          (c.new.ensures ∙ (λ i. new_take record { queue = (seat.0 i, seat.1 i); ends = (cut i).ends }));
    }
