use Rattle.std.proofs.Common.{◌≡◌, [], ◌∷◌, ◌++◌, ap, sym, ◌∙◌, subst, arith, refl}
use Rattle.crossbeam_channel.specs.Claims.{view}
use Rattle.crossbeam_channel.specs.Ends.{sends_on}
use Rattle.farm_lanes.specs.LaneEnds.{LaneName, PutView, TakeView}
use Rattle.farm_lanes.specs.LaneNames.{lane_of, lane_on}
use Rattle.farm_lanes.specs.LaneRule.{put_of}
use Rattle.list_members.proofs.Lists.{popped, nil_of}
use Rattle.farm_lanes.proofs.Settles.{Gathering, LanesAre, starts, puts_more, takes_more, all_parts, some_parts, finishes, same_lanes}
use Rattle.farm_lanes.proofs.lane.settling.settle.Goals as goal

pub loop-end-init : goal.loop-end-init
loop-end-init g c =
    let inv = c.into_parts-sends.ensures in
    let p = c.into_parts-sends.result.1 in
    let e : PutView g.row.T.Denot = record { lane = lane_of p; sender = c.into_parts-sends.result.2; put = put_of (view p) } in
    let is = c.in-Some.ensures.items ∙ ap (λ x. c.pop.new.self.items ++ x ∷ []) c.into_parts-sends.ensures.own in
    let same = same_lanes c.args.ended.items c.args.takers.items c.requires c.pop.new.self.items e is in
    let seat = inv.seated in record {
      seated = inv.seated;
      lanes = subst (LanesAre c.args.ended.items c.args.takers.items)
          (λ i. record { queue = (seat.0 i, seat.1 i); ends = (view p).ends }) same.0;
      gathering = starts c.args.ended.items c.args.takers.items c.pop.new.self.items e
          (view p) c.into_parts-sends.result.3 is record {
            puts = inv.counted.puts;
            taken = inv.counted.taken;
            parts = inv.counted.parts;
            last = inv.last;
          } record { count_is = inv.counted.counted; small = inv.small } same.1 inv.counted.few;
    }

pub take_in-requires-clause-seated : goal.take_in-requires-clause-seated
take_in-requires-clause-seated g c =
    let was = c.loop-end.invariant in
    let p = c.into_parts-other.result.1 in
    let e : PutView g.row.T.Denot = record { lane = lane_of p; sender = c.into_parts-other.result.2; put = put_of (view p) } in
    let is = c.in-Some-pop.ensures.items ∙ ap (λ x. c.pop-in-loop-end.new.self.items ++ x ∷ []) c.into_parts-other.ensures.own in
    let at = popped c.args.ended.items c.loop-end.ended.items c.pop-in-loop-end.new.self.items was.gathering.done_puts e
    was.gathering.puts_are is in
    let same = was.lanes.puts at.0 e at.1 in
    let at_other = c.into_parts-other.ensures.seated.2 in
    (was.seated, (ap (λ (l : LaneName _). l.queue.0) same, ap (λ (l : LaneName _). l.queue.1) same, at_other, was.seated.3))

pub take_in-requires-clause-part : goal.take_in-requires-clause-part
take_in-requires-clause-part g c = some_parts _ _ _ _ _ _ _ c.loop-end.invariant.gathering

pub loop-end-preserved : goal.loop-end-preserved
loop-end-preserved g c =
    let was = c.loop-end.invariant in
    let inv = c.into_parts-other.ensures in
    let p = c.into_parts-other.result.1 in
    let e : PutView g.row.T.Denot = record { lane = lane_of p; sender = c.into_parts-other.result.2; put = put_of (view p) } in
    let is = c.in-Some-pop.ensures.items ∙ ap (λ x. c.pop-in-loop-end.new.self.items ++ x ∷ []) c.into_parts-other.ensures.own in
    let both = c.take_in.ensures.both in record {
      seated = c.take_in.ensures.seated;
      lanes = subst (λ n. LanesAre c.args.ended.items c.args.takers.items (lane_on (sends_on c.into_parts-sends.result.0) n))
          (sym (ap (λ v. v.ends) both)) was.lanes;
      gathering = subst (λ v. Gathering c.args.ended.items c.args.takers.items c.pop-in-loop-end.new.self.items c.args.takers.items v
          c.saturating_add-put.result 0) (sym both)
          (puts_more c.args.ended.items c.args.takers.items c.loop-end.ended.items c.pop-in-loop-end.new.self.items c.args.takers.items e
          (view p) (view c.loop-end.pass) c.loop-end.put 0 c.into_parts-other.result.3 c.saturating_add-put.result was.gathering is
          record { puts = inv.counted.puts; taken = inv.counted.taken; parts = inv.counted.parts; last = inv.last } record {
            count_is = inv.counted.counted;
            small = inv.small;
          } c.saturating_add-put.ensures);
    }

pub loop-end-2-init : goal.loop-end-2-init
loop-end-2-init g c =
    let was = c.loop-end.invariant in
    let empty : c.loop-end.ended.items ≡ [] = nil_of c.loop-end.ended.items
    (omega (arith, c.loop-end.ended.ok.0, c.in_default-pop.ensures.cases.0)) in record {
      seated = was.seated;
      lanes = was.lanes;
      gathering = subst (λ l. Gathering c.args.ended.items c.args.takers.items l c.args.takers.items
          (view c.loop-end.pass) c.loop-end.put 0) empty was.gathering;
    }

pub take_in-requires-in-Some-pop-2-clause-seated :
    goal.take_in-requires-in-Some-pop-2-clause-seated
take_in-requires-in-Some-pop-2-clause-seated g c =
    let was = c.loop-end-2.invariant in
    let p = c.into_parts-other-in-Some-pop-2.result.1 in
    let e : TakeView g.row.T.Denot = record { lane = lane_of p; taken = (view p).taken } in
    let own = c.into_parts-other-in-Some-pop-2.ensures.own in
    let is = c.in-Some-pop-2.ensures.items ∙ ap (λ x. c.pop-in-loop-end-2.new.self.items ++ x ∷ []) own in
    let at = popped c.args.takers.items c.loop-end-2.takers.items c.pop-in-loop-end-2.new.self.items was.gathering.done_takes e
    was.gathering.takes_are is in
    let same = was.lanes.takes at.0 e at.1 in (
      was.seated,
      (
        ap (λ (l : LaneName _). l.queue.0) same,
        ap
            (λ (l : LaneName _). l.queue.1) same,
        c.into_parts-other-in-Some-pop-2.ensures.seated.2,
        was.seated.3,
      ),
    )

pub take_in-requires-in-Some-pop-2-clause-part : goal.take_in-requires-in-Some-pop-2-clause-part
take_in-requires-in-Some-pop-2-clause-part g c = some_parts _ _ _ _ _ _ _ c.loop-end-2.invariant.gathering

pub loop-end-2-preserved : goal.loop-end-2-preserved
loop-end-2-preserved g c =
    let was = c.loop-end-2.invariant in
    let inv = c.into_parts-other-in-Some-pop-2.ensures in
    let p = c.into_parts-other-in-Some-pop-2.result.1 in
    let e : TakeView g.row.T.Denot = record { lane = lane_of p; taken = (view p).taken } in
    let own = c.into_parts-other-in-Some-pop-2.ensures.own in
    let is = c.in-Some-pop-2.ensures.items ∙ ap (λ x. c.pop-in-loop-end-2.new.self.items ++ x ∷ []) own in
    let both = c.take_in-in-Some-pop-2.ensures.both in record {
      seated = c.take_in-in-Some-pop-2.ensures.seated;
      lanes = subst (λ n. LanesAre c.args.ended.items c.args.takers.items (lane_on (sends_on c.into_parts-sends.result.0) n))
          (sym (ap (λ v. v.ends) both)) was.lanes;
      gathering = subst (λ v. Gathering c.args.ended.items c.args.takers.items [] c.pop-in-loop-end-2.new.self.items v c.loop-end.put
          c.saturating_add-taken.result) (sym both)
          (takes_more c.args.ended.items c.args.takers.items c.loop-end-2.takers.items c.pop-in-loop-end-2.new.self.items [] e (view p)
          (view c.loop-end-2.pass) c.loop-end.put c.loop-end-2.taken c.into_parts-other-in-Some-pop-2.result.2 c.saturating_add-taken.result
          was.gathering is
          record { puts = inv.puts; taken = refl; parts = inv.parts; rises = inv.rises } inv.counted c.saturating_add-taken.ensures);
    }

pub learn-requires-clause-seated : goal.learn-requires-clause-seated
learn-requires-clause-seated g c = c.loop-end-2.invariant.seated

pub learn-requires-clause-all : goal.learn-requires-clause-all
learn-requires-clause-all g c =
    let empty : c.loop-end-2.takers.items ≡ [] = nil_of c.loop-end-2.takers.items
    (omega (arith, c.loop-end-2.takers.ok.0, c.in_default-pop-2.ensures.cases.0)) in
    all_parts c.args.ended.items c.args.takers.items (view c.loop-end-2.pass) c.loop-end.put c.loop-end-2.taken
    (subst (λ l. Gathering c.args.ended.items c.args.takers.items [] l
    (view c.loop-end-2.pass) c.loop-end.put c.loop-end-2.taken) empty c.loop-end-2.invariant.gathering)

pub returns-clause-settled : goal.returns-clause-settled
returns-clause-settled g c =
    let empty : c.loop-end-2.takers.items ≡ [] = nil_of c.loop-end-2.takers.items
    (omega (arith, c.loop-end-2.takers.ok.0, c.in_default-pop-2.ensures.cases.0)) in
    let known = c.learn.ensures.whole in
    finishes c.args.ended.items c.args.takers.items (view c.loop-end-2.pass) known.0 c.loop-end.put c.loop-end-2.taken c.requires
    (subst (λ l. Gathering c.args.ended.items c.args.takers.items [] l
    (view c.loop-end-2.pass) c.loop-end.put c.loop-end-2.taken) empty c.loop-end-2.invariant.gathering) known.1
