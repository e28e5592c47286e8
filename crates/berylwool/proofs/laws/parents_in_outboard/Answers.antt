use Rattle.berylwool.proofs.OutboardParts.{parents_in_outboard}
use Rattle.berylwool.proofs.laws.parents_in_outboard.Goals as goal

pub returns : goal.returns
returns c = parents_in_outboard
