use Rattle.bao_check.proofs.text_lanes.+text_lanes.Given as goal

abbrev pub decreases-text_lanes : goal.decreases-text_lanes
decreases-text_lanes l = l.chunks
