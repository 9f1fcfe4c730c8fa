use Rattle.std.proofs.Common.{◌≡◌, ℕ, ap, ◌∙◌, arith, rules, [], List}
use Rattle.std.proofs.lemmas.Grind.{common_steps}
use Rattle.farm_lanes.specs.declared.gate.record.SeatRecord.{SeatRecord}
use Rattle.farm_lanes.specs.SeatChanges.{without}
use Rattle.farm_lanes.proofs.Shares.{dealt}
use Rattle.farm_lanes.proofs.gate.Gate.deal_seats.Goals as goal

with_slots : (s t : SeatRecord) (c : List (ℕ × ℕ)) → s ≡ t → c ≡ [] → (let x : SeatRecord × List (ℕ × ℕ) = (s, c) in x) ≡ (t, [])
with_slots s t c p q i = (p i, q i)

pub loop-left-preserved : goal.loop-left-preserved
loop-left-preserved g c =
    let was = c.loop-left.invariant.me in
    let less = dealt c.args.share c.loop-left.left c.args.self.now.size.rights c.loop-left-test.true in record {
      left_in = grind (arith, common_steps);
      dealt = grind (arith, common_steps);
      room = grind (arith, common_steps);
      own = search rules;
      me = c.raw_cut-raw.ensures.own.1 ∙ with_slots _ _ _ (ap (λ m. without m.0 c.args.share 0) was ∙ less) (ap (λ m. m.1) was);
    }
