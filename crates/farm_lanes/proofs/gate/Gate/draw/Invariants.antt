use Rattle.farm_lanes.proofs.gate.Gate.draw.Given as goal

abbrev pub ghosts-raw_draw : goal.ghosts-raw_draw
ghosts-raw_draw g a = record { size = a.gate.now.key; share = 0; held = 0 }
