use Rattle.std.proofs.Common.{◌≡◌, ℕ, List, [], map, subst, take}
use Rattle.bao_text.specs.declared.choice.Choice.{Choice}
use Rattle.bao_text.specs.Choice.{of_outboard}
use Rattle.bao_text.specs.Nodes.{subtree_nodes}
use Rattle.berylwool.specs.declared.nodes.BwPlaced.{BwPlaced}
use Rattle.berylwool.specs.Placed.{placed_of}
use Rattle.berylwool.proofs.Beside.{all_among}
use Rattle.berylwool.proofs.nodes.bw_slice_nodes.Goals as goal

pub returns-clause-nodes : goal.returns-clause-nodes
returns-clause-nodes c = λ _.
    let total : ℕ = c.args.total in
    let all : List BwPlaced = take c.in-Some.all c.put_subtree.new.out in
    subst (λ (choice : Choice). all ≡ map (placed_of total) (subtree_nodes choice 0 total [] 8)) c.of_slice-choice.ensures
    (c.in-Some.ensures.nodes total (of_outboard total) [] (all_among total))
