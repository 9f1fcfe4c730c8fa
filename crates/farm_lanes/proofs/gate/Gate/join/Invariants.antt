use Rattle.farm_lanes.proofs.gate.Gate.join.Given as goal

abbrev pub ghosts-raw_look : goal.ghosts-raw_look
ghosts-raw_look g a = record { size = a.gate.now.key; share = 0; held = 0 }
