use Rattle.std.proofs.Common.{rules, arith, ◌≡◌, ◌∙◌, ◌++◌, ◌∷◌, List, [], length, map, vec_items, sym, ap, subst, append_assoc}
use Rattle.std.proofs.lemmas.List.{length_push}
use Rattle.farm_lanes.specs.declared.gate.record.SeatRecord.{SeatRecord}
use Rattle.farm_lanes.specs.GateView.{SeatView, GateId}
use Rattle.farm_lanes.specs.LaneEnds.{PutView}
use Rattle.list_members.specs.Lists.{Each}
use Rattle.farm_lanes.specs.SeatChanges.{joined}
use Rattle.farm_threads.specs.declared.feeder.Fed.{Fed}
use Rattle.farm_threads.specs.declared.jobs.Job.{Job}
use Rattle.farm_threads.specs.Feed.{right_back, IsJoint, IsOfGate}
use Rattle.farm_core.proofs.Joints.{rights_of, rights_snoc, rights_own, all_back, map_snoc, joint_more, joint_turn, rack_drawn}
use Rattle.farm_threads.proofs.Middles.{each_middle, whole_front}
use Rattle.farm_core.proofs.threads.closing.close_rack.Goals as goal

abbrev seats : Fed → SeatRecord
seats f = f.seat.has

pub learn_sound-joined-requires-clause-own : goal.learn_sound-joined-requires-clause-own
learn_sound-joined-requires-clause-own c = (each_middle (IsOfGate c.args.gate.now.id) c.args.given_back.items c.pop.new.self.items []
    c.in-Some.last c.in-Some.ensures.items c.requires.own).0

pub join-joined-requires : goal.join-joined-requires
join-joined-requires c =
    let was = c.loop-fed.invariant in let done = c.loop-fed.yielded in
    let rest : c.pop.new.self.items ≡ done ++ c.in-Some-fed.fed ∷ _ =
    sym c.into_iter-fed-iterator.ensures.into_iter_gives.0 ∙ (was.0 ∙ ap (λ (t : List Fed). done ++ t) c.in-Some-fed.ensures.steps.0) in
    record {
      own = (
        was.1,
        (each_middle (IsOfGate c.args.gate.now.id) c.args.given_back.items done _ c.in-Some-fed.fed
            (c.in-Some.ensures.items ∙ (ap (λ (t : List Fed). t ++ c.in-Some.last ∷ []) rest
            ∙ append_assoc done (c.in-Some-fed.fed ∷ _) (c.in-Some.last ∷ []))) c.requires.own).0,
      );
    }

pub loop-fed-preserved : goal.loop-fed-preserved
loop-fed-preserved c =
    let was = c.loop-fed.invariant in let done = c.loop-fed.yielded in let fed = c.in-Some-fed.fed in
    let s = c.loop-fed.joined.has in let t = fed.seat.has in (
      rw append_assoc (was.0 ∙ ap (λ (t : List Fed). done ++ t) c.in-Some-fed.ensures.steps.0),
      ap (λ (q : SeatView). q.gate) c.join-joined.ensures.joined ∙ was.1,
      (λ parts h.
          subst (λ (q : SeatView). IsJoint q.has (parts ++ map seats (done ++ fed ∷ []))) (sym c.join-joined.ensures.joined)
          (subst (λ (l : List SeatRecord). IsJoint (joined s t) l)
          (append_assoc parts (map seats done) (t ∷ []) ∙ ap (λ (l : List SeatRecord). parts ++ l) (sym (map_snoc seats done fed)))
          (joint_more s t (parts ++ map seats done) (was.2 parts h)))),
      c.join-joined.ensures.sound,
      c.push_reserved.ensures.items ∙ (ap (λ (l : List (PutView Job)). l ++ fed.jobs ∷ []) was.4
          ∙ (append_assoc (vec_items c.args.put_ends.now) (map (λ (f : Fed). f.jobs) done) (fed.jobs ∷ [])
          ∙ ap (λ (l : List (PutView Job)). vec_items c.args.put_ends.now ++ l) (sym (map_snoc (λ (f : Fed). f.jobs) done fed)))),
      c.keep.ensures.rights ∙ (ap (λ (l : List GateId). l ++ right_back fed.right) was.5 ∙ sym (rights_snoc done fed)),
      search rules,
      search rules,
      search rules,
      (let a = length_push done fed in let b = was.9 in let d = c.in-Some-fed.ensures.steps.1 in omega arith),
    )

pub spend_all-requires-clause-own : goal.spend_all-requires-clause-own
spend_all-requires-clause-own c =
    let was = c.loop-fed.invariant in let done = c.loop-fed.yielded in let last = c.in-Some.last in
    let whole : done ≡ c.pop.new.self.items = whole_front c.pop.new.self.items done _
    (sym c.into_iter-fed-iterator.ensures.into_iter_gives.0 ∙ was.0)
    (let a = was.9 in let b = c.in-None.ensures.steps.0 in let d = c.into_iter-fed-iterator.ensures.into_iter_gives.1 in
    let e = c.pop.new.self.ok in omega arith) in
    let all_is : done ++ last ∷ [] ≡ c.args.given_back.items = ap (λ (l : List Fed). l ++ last ∷ []) whole ∙ sym c.in-Some.ensures.items in
    let rights_are = c.keep-2.ensures.rights ∙ (ap (λ (l : List GateId). l ++ right_back last.right) was.5
    ∙ (sym (rights_snoc done last) ∙ ap rights_of all_is)) in (
      was.1,
      subst (λ (l : List GateId). Each (λ r. r ≡ c.args.gate.now.id) l) (sym rights_are)
          (rights_own c.args.gate.now.id c.args.given_back.items c.requires.own),
    )

pub returns-clause-drawn : goal.returns-clause-drawn
returns-clause-drawn c = λ rack lists fed.
    let was = c.loop-fed.invariant in let done = c.loop-fed.yielded in let last = c.in-Some.last in let s = c.loop-fed.joined.has in
    let whole : done ≡ c.pop.new.self.items = whole_front c.pop.new.self.items done _
    (sym c.into_iter-fed-iterator.ensures.into_iter_gives.0 ∙ was.0)
    (let a = was.9 in let b = c.in-None.ensures.steps.0 in let d = c.into_iter-fed-iterator.ensures.into_iter_gives.1 in
    let e = c.pop.new.self.ok in omega arith) in
    let all_is : done ++ last ∷ [] ≡ c.args.given_back.items = ap (λ (l : List Fed). l ++ last ∷ []) whole ∙ sym c.in-Some.ensures.items in
    let rights_are = c.keep-2.ensures.rights ∙ (ap (λ (l : List GateId). l ++ right_back last.right) was.5
    ∙ (sym (rights_snoc done last) ∙ ap rights_of all_is)) in
    rack_drawn c.args.gate.now rack lists c.args.given_back.items fed s (length c.keep-2.new.rights.items)
    (subst (λ (l : List SeatRecord). IsJoint s l) (sym (map_snoc seats done last) ∙ ap (map seats) all_is)
    (joint_turn s last.seat.has (map seats done) (was.2 (last.seat.has ∷ []) c.learn_sound-joined.ensures.same)))
    was.3
    (λ back. ap (λ (l : List GateId). length l) rights_are ∙ all_back c.args.given_back.items back)
    c.spend_all.ensures
