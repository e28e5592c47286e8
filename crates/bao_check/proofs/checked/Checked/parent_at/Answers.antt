use Rattle.std.proofs.Common.{◌≡◌, ℕ, ◌≤◌, ◌+◌, List, [], length, Option, IfSome, sym, subst, ◌∙◌}
use Rattle.bao_text.specs.Nodes.{TreeNode, placed_nodes, subtree_nodes}
use Rattle.bao_check.specs.Checked.{piece_places, piece_text}
use Rattle.bao_check.specs.Parents.{parent_place}
use Rattle.bao_check.proofs.Locating.{accepted_within}
use Rattle.bao_check.proofs.Parenting.{parent_place-within}
use Rattle.bao_check.proofs.checked.Checked.parent_at.Goals as goal

pub returns-clause-within : goal.returns-clause-within
returns-clause-within c =
    let places : List (ℕ × TreeNode) = piece_places c.args.self.now in
    let text : List ℕ = piece_text c.args.self.now in
    let value : c.find_parent.result ≡ parent_place places c.args.m =
    c.find_parent.ensures [] 8 ∙ (λ i. parent_place (placed_nodes 8 (subtree_nodes (c.choice.ensures i) 0 (c.claimed.ensures i) [] 8)) c.args.m) in
    subst (λ (o : Option ℕ). IfSome o (λ at. at + 64 ≤ length text)) (sym value)
    (parent_place-within (length text) places c.args.m (accepted_within c.args.self.now.accepted))
