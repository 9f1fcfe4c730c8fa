use Rattle.farm_lanes.proofs.lane.opening.make_ends.Given as goal

abbrev pub ghosts-name_ends : goal.ghosts-name_ends
ghosts-name_ends g a = record { ends = a.ends; putters = a.putters }
