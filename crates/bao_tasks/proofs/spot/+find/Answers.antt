use Rattle.std.proofs.Common.{◌≡◌, ℕ, ◌+◌, ◌-◌, ◌/◌, ◌<◌, List, [], ◌∷◌, ◌++◌, subst, sym, ◌∙◌, arith}
use Rattle.b3tree.specs.Tree.{left_len}
use Rattle.bao_text.specs.Nodes.{TreeNode, left, right, subtree_nodes, subtree_size}
use Rattle.bao_text.proofs.SubtreeNodes.{parent_node, subtree_nodes-parent, subtree_nodes-unwanted}
use Rattle.bao_tasks.specs.declared.spot.Walk.TheVariants.{Past, Met}
use Rattle.bao_tasks.specs.Spots.{IsMet}
use Rattle.bao_tasks.proofs.Spots.{met_left, met_node, met_right, past_none}
use Rattle.bao_tasks.proofs.spot.+find.Goals as goal

pub returns-then-not-wants-clause-met : goal.returns-then-not-wants-clause-met
returns-then-not-wants-clause-met t c = λ sides from.
    past_none c.args.at c.args.here (subtree_nodes c.args.choice.now c.args.number c.args.n sides from)
    (subtree_nodes-unwanted c.args.choice.now c.args.number c.args.n sides from (sym c.wants.ensures ∙ c.if-not-wants.true))

pub returns-then-here-from-clause-met : goal.returns-then-here-from-clause-met
returns-then-here-from-clause-met t c = λ sides from.
    let near : List TreeNode = subtree_nodes c.args.choice.now c.args.number (left_len c.args.n) (sides ++ left ∷ []) (from + 64) in
    let far : List TreeNode = subtree_nodes c.args.choice.now (c.args.number + left_len c.args.n / 1024) (c.args.n - left_len c.args.n) (sides ++ right ∷ []) (from + 64 + subtree_size (left_len c.args.n)) in
    met_node c.args.at c.args.here (parent_node c.args.number c.args.n sides from) (near ++ far) (subtree_nodes c.args.choice.now c.args.number c.args.n sides from) c.spot_met.result
    (subtree_nodes-parent c.args.choice.now c.args.number c.args.n sides from (sym c.wants.ensures ∙ c.if-not-wants.false) (omega (arith, c.if-n.false)))
    (omega (arith, c.if-here-from.true, c.from.ensures)) c.spot_met.ensures

pub returns-in-Past-clause-met : goal.returns-in-Past-clause-met
returns-in-Past-clause-met t c = λ sides from.
    let choice = c.args.choice.now in
    let parted : c.left_len-left_len.result ≡ left_len c.args.n = c.left_len-left_len.ensures.value in
    let from_far : ℕ = from + 64 + subtree_size (left_len c.args.n) in
    let near : List TreeNode = subtree_nodes choice c.args.number (left_len c.args.n) (sides ++ left ∷ []) (from + 64) in
    let far : List TreeNode = subtree_nodes choice (c.args.number + left_len c.args.n / 1024) (c.args.n - left_len c.args.n) (sides ++ right ∷ []) from_far in
    let in_near : IsMet c.args.at (c.args.here + 64) near (Past c.in-Past.after) =
    subst (λ (l : ℕ). IsMet c.args.at (c.args.here + 64) (subtree_nodes choice c.args.number l (sides ++ left ∷ []) (from + 64)) (Past c.in-Past.after)) parted
    (c.in-Past.ensures.met (sides ++ left ∷ []) (from + 64)) in
    let in_far : IsMet c.args.at c.in-Past.after far c.find-in-Past.result =
    subst (λ (l : ℕ). IsMet c.args.at c.in-Past.after (subtree_nodes choice (c.args.number + l / 1024) (c.args.n - l) (sides ++ right ∷ []) from_far) c.find-in-Past.result) parted
    (c.find-in-Past.ensures.met (sides ++ right ∷ []) from_far) in
    let before : c.args.here < c.args.at = omega (arith, c.if-here-from.false, c.from.ensures) in
    subst (λ (nodes : List TreeNode). IsMet c.args.at c.args.here nodes c.find-in-Past.result)
    (sym (subtree_nodes-parent choice c.args.number c.args.n sides from (sym c.wants.ensures ∙ c.if-not-wants.false) (omega (arith, c.if-n.false))))
    (met_right c.args.at c.args.here c.args.number c.args.n sides from near far c.in-Past.after c.find-in-Past.result before in_near in_far)

pub returns-in-Met-clause-met : goal.returns-in-Met-clause-met
returns-in-Met-clause-met t c = λ sides from.
    let choice = c.args.choice.now in
    let parted : c.left_len-left_len.result ≡ left_len c.args.n = c.left_len-left_len.ensures.value in
    let near : List TreeNode = subtree_nodes choice c.args.number (left_len c.args.n) (sides ++ left ∷ []) (from + 64) in
    let far : List TreeNode = subtree_nodes choice (c.args.number + left_len c.args.n / 1024) (c.args.n - left_len c.args.n) (sides ++ right ∷ []) (from + 64 + subtree_size (left_len c.args.n)) in
    let in_near : IsMet c.args.at (c.args.here + 64) near (Met c.in-Met.spot) =
    subst (λ (l : ℕ). IsMet c.args.at (c.args.here + 64) (subtree_nodes choice c.args.number l (sides ++ left ∷ []) (from + 64)) (Met c.in-Met.spot)) parted
    (c.in-Met.ensures.met (sides ++ left ∷ []) (from + 64)) in
    let before : c.args.here < c.args.at = omega (arith, c.if-here-from.false, c.from.ensures) in
    subst (λ (nodes : List TreeNode). IsMet c.args.at c.args.here nodes (Met c.in-Met.spot))
    (sym (subtree_nodes-parent choice c.args.number c.args.n sides from (sym c.wants.ensures ∙ c.if-not-wants.false) (omega (arith, c.if-n.false))))
    (met_left c.args.at c.args.here c.args.number c.args.n sides from near far c.in-Met.spot before in_near)
