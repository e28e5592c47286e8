use Rattle.bao_check.proofs.text_lanes.+outline_lanes.Given as goal

abbrev pub decreases-outline_lanes : goal.decreases-outline_lanes
decreases-outline_lanes l = l.pairs
