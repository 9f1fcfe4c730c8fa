use Rattle.std.proofs.Common.{◌≡◌, ◌+◌, ◌*◌, ◌≤◌, length, [], false}
use Rattle.std.specs.Prelude.{replicate, vec_capacity}
use Rattle.farm_lanes.specs.GateView.{opened}
use Rattle.farm_lanes.specs.SeatChanges.{fresh}
use Rattle.farm_lanes.proofs.gate.Gate.deal_seats.Given as goal

abbrev pub ghosts-raw_cut : goal.ghosts-raw_cut
ghosts-raw_cut g a = record { size = a.gate.now.key; share = a.share; held = a.held }

abbrev pub invariant-loop-left : goal.invariant-loop-left
invariant-loop-left g l = record {
  left_in : length l.list.items + l.left ≡ l.count;
  dealt : l.list.items ≡ replicate (length l.list.items) (opened l.self.id l.share);
  room : l.count ≤ vec_capacity l.list;
  own : l.first.table_id ≡ l.self.id;
  me : l.first.me ≡ (fresh (l.share * l.left) l.self.size.rights false, []);
}

abbrev pub decreases-loop-left : goal.decreases-loop-left
decreases-loop-left g l = l.left
