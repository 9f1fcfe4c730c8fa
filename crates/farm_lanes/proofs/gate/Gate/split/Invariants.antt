use Rattle.farm_lanes.proofs.gate.Gate.split.Given as goal

abbrev pub ghosts-raw_cut : goal.ghosts-raw_cut
ghosts-raw_cut g a = record { size = a.gate.now.key; share = a.share; held = a.held }
