use Rattle.std.proofs.Common.{◌≡◌, ℕ, ◌≤◌, ◌+◌, List, [], length, Option, IfSome, sym, ap, subst, ◌∙◌}
use Rattle.bao_text.specs.Choice.{of_outboard}
use Rattle.bao_text.specs.Nodes.{placed_nodes, subtree_nodes}
use Rattle.bao_check.specs.Accepted.{outboard_nodes, places_of}
use Rattle.bao_check.specs.Outline.{outline_text}
use Rattle.bao_check.specs.Parents.{parent_place}
use Rattle.bao_check.proofs.Locating.{accepted_within}
use Rattle.bao_check.proofs.Parenting.{parent_place-within}
use Rattle.bao_check.proofs.outline.Outline.parent_at.Goals as goal

pub returns-clause-within : goal.returns-clause-within
returns-clause-within c =
    let text : List ℕ = outline_text c.args.self.now in
    let places = places_of (outboard_nodes text) in
    let value : c.find_parent.result ≡ parent_place places c.args.m =
    c.find_parent.ensures [] 8 ∙ (λ i. parent_place (placed_nodes 8 (subtree_nodes ((c.of_outboard.ensures ∙ ap of_outboard c.claimed.ensures) i) 0 (c.claimed-2.ensures i) [] 8)) c.args.m) in
    subst (λ (o : Option ℕ). IfSome o (λ at. at + 64 ≤ length text)) (sym value)
    (parent_place-within (length text) places c.args.m (accepted_within c.args.self.now.accepted))
