use Rattle.std.proofs.Common.{◌≡◌, ℕ, ◌≤◌, ◌+◌, List, [], length, Option, IfSome, sym, subst, ◌∙◌}
use Rattle.bao_text.specs.Nodes.{TreeNode, placed_nodes, subtree_nodes}
use Rattle.bao_check.specs.declared.locate.Span.{Span}
use Rattle.bao_check.specs.Checked.{piece_places, piece_text}
use Rattle.bao_check.specs.Spans.{chunk_place}
use Rattle.bao_check.proofs.Locating.{accepted_within, chunk_place-within}
use Rattle.bao_check.proofs.checked.Checked.span.Goals as goal

pub returns-clause-within : goal.returns-clause-within
returns-clause-within c =
    let places : List (ℕ × TreeNode) = piece_places c.args.self.now in
    let text : List ℕ = piece_text c.args.self.now in
    let value : c.find_chunk.result ≡ chunk_place places c.args.i =
    c.find_chunk.ensures [] 8 ∙ (λ i. chunk_place (placed_nodes 8 (subtree_nodes (c.choice.ensures i) 0 (c.claimed.ensures i) [] 8)) c.args.i) in
    subst (λ (o : Option Span). IfSome o (λ span. span.at + span.len ≤ length text)) (sym value)
    (chunk_place-within (length text) places c.args.i (accepted_within c.args.self.now.accepted))
