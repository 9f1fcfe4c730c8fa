use Rattle.farm_core.proofs.taken.gates.open_gate.Goals as goal

pub returns-in-Ok : goal.returns-in-Ok
returns-in-Ok c = let opened = c.in-Ok.ensures in record {
  size = opened.gate;
  seats = opened.seats;
  rights = opened.rights;
  space = c.in_ok-space.ensures;
}
