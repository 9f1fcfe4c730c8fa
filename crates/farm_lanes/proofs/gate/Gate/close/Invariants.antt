use Rattle.farm_lanes.proofs.gate.Gate.close.Given as goal

abbrev pub ghosts-raw_close : goal.ghosts-raw_close
ghosts-raw_close g a = record { size = a.gate.now.key; share = 0; held = 0 }
