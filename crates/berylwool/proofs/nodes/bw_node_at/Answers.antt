use Rattle.std.proofs.Common.{◌≡◌, ℕ, ◌-◌, List, [], arith, subst}
use Rattle.std.specs.Option.{option_map, unwrap_or}
use Rattle.std.proofs.lemmas.Bool.{le-ltb, lt-ltb}
use Rattle.std.proofs.lemmas.Result.{IfErr-weaker, IfOk-weaker}
use Rattle.bao_text.specs.declared.choice.Choice.{Choice}
use Rattle.bao_text.specs.Choice.{of_outboard}
use Rattle.bao_text.specs.Nodes.{TreeNode, subtree_nodes}
use Rattle.berylwool.specs.Placed.{node_over, over_no_byte, placed_of}
use Rattle.berylwool.proofs.Beside.{all_among}
use Rattle.berylwool.proofs.PlacesOfNodes.{search_told}
use Rattle.berylwool.proofs.nodes.bw_node_at.Goals as goal

pub returns-then-at-first-clause-node : goal.returns-then-at-first-clause-node
returns-then-at-first-clause-node c = λ _. rw (lt-ltb c.args.at 8 (omega (arith, c.if-at-first.true))) c.over_no_byte.ensures

pub returns-clause-node : goal.returns-clause-node
returns-clause-node c = λ _.
    let total : ℕ = c.args.total in
    let at : ℕ = c.args.at - 8 in
    let nodes : List TreeNode = subtree_nodes c.of_slice-choice.result 0 total [] 8 in
    rw (le-ltb c.args.at 8 (omega (arith, c.if-at-first.false)))
    (subst (λ (choice : Choice). c.found_or_none.result ≡ unwrap_or (option_map (placed_of total) (node_over (subtree_nodes choice 0 total [] 8) at)) (over_no_byte 3 0)) c.of_slice-choice.ensures
    (search_told total nodes at c.find_node-found.result c.found_or_none.result
    (IfOk-weaker c.find_node-found.result _ _ (λ it found. found total (of_outboard total) [] [] (all_among total)) c.find_node-found.ensures.found)
    (IfErr-weaker c.find_node-found.result _ _ (λ rest after. after [] []) c.find_node-found.ensures.after)
    c.found_or_none.ensures.found c.found_or_none.ensures.none))
