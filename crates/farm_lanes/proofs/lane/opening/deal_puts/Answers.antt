use Rattle.std.proofs.Common.{◌≡◌, ℕ, ◌+◌, ◌-◌, [], ◌∷◌, sym, ◌∙◌, subst, arith}
use Rattle.std.proofs.lemmas.Grind.{common_steps}
use Rattle.crossbeam_channel.specs.Claims.{IsSeatAt, view}
use Rattle.crossbeam_channel.specs.Ends.{sends_on}
use Rattle.farm_lanes.specs.LaneEnds.{new_put}
use Rattle.farm_lanes.specs.LaneRule.{end_record}
use Rattle.list_members.proofs.Lists.{all_last, all_front, more_items}
use Rattle.farm_lanes.proofs.Opens.{cut_is, left_is, put_ends_more}
use Rattle.farm_lanes.proofs.lane.opening.deal_puts.Goals as goal

pub new-requires-clause-seated : goal.new-requires-clause-seated
new-requires-clause-seated g c =
    let was = c.loop-sender.invariant in
    let same = all_last (λ s. sends_on s ≡ sends_on c.args.sends.now) c.loop-sender.copies.items c.pop.new.self.items c.in-Some.copy
    c.in-Some.ensures.items was.copies_same in
    subst (λ q. IsSeatAt q c.cut_put-mine.result) (sym same) c.cut_put-mine.ensures.seated.1

pub new-requires-clause-cut : goal.new-requires-clause-cut
new-requires-clause-cut g c =
    let was = c.loop-sender.invariant in
    let E : ℕ = c.args.putters + c.args.takers in
    let left : ℕ = c.args.putters - c.loop-sender.sender in
    let cut = cut_is (view c.loop-sender.pass) (view c.cut_put-mine.result) E (left + c.args.takers) c.loop-sender.sender left was.rest
    (omega (arith, c.loop-sender-test.true)) c.cut_put-mine.ensures.cut in
    cut ∙ (λ i. end_record (sym cut i).ends 1 ((c.loop-sender.sender, []) ∷ []) [])

pub loop-sender-preserved : goal.loop-sender-preserved
loop-sender-preserved g c =
    let was = c.loop-sender.invariant in
    let E : ℕ = c.args.putters + c.args.takers in
    let left : ℕ = c.args.putters - c.loop-sender.sender in
    let seat = c.cut_put-mine.ensures.seated.1 in
    let cut = cut_is (view c.loop-sender.pass) (view c.cut_put-mine.result) E (left + c.args.takers) c.loop-sender.sender left was.rest
    (omega (arith, c.loop-sender-test.true)) c.cut_put-mine.ensures.cut in record {
      seated = c.cut_put-mine.ensures.seated.0;
      rest = left_is (view c.loop-sender.pass) (view c.cut_put-mine.new.pass) E (left + c.args.takers) c.loop-sender.sender left
          (c.args.putters - (c.loop-sender.sender + 1)) ((c.args.putters - (c.loop-sender.sender + 1)) + c.args.takers) was.rest
          (omega (arith, c.loop-sender-test.true)) (omega (arith, c.loop-sender-test.true)) c.cut_put-mine.ensures.rest;
      copies_left = omega (
        arith,
        was.copies_left,
        more_items c.pop.new.self.items c.loop-sender.copies.items c.in-Some.copy
            c.in-Some.ensures.items,
      );
      copies_same = all_front (λ s. sends_on s ≡ sends_on c.args.sends.now) c.loop-sender.copies.items c.pop.new.self.items c.in-Some.copy
          c.in-Some.ensures.items was.copies_same;
      room = grind (arith, common_steps);
      made = put_ends_more _ c.loop-sender.sender c.loop-sender.puts.items c.push_reserved.new.self.items c.new.result was.made
          c.push_reserved.ensures.items
          (c.new.ensures ∙ (λ i. new_put record { queue = (seat.0 i, seat.1 i); ends = (cut i).ends } c.loop-sender.sender));
    }
