use Rattle.std.proofs.Common.{ℕ, ◌<◌, ◌+◌, ◌-◌, ◌≤◌, List, [], ◌∷◌, ◌++◌, Bool, true, false, Ok, sym, ◌∙◌, arith}
use Rattle.std.proofs.lemmas.Result.{IfOk-weaker}
use Rattle.b3tree.specs.Tree.{left_len}
use Rattle.bao_text.specs.declared.choice.Choice.{Choice}
use Rattle.bao_text.specs.Choice.{wants}
use Rattle.bao_text.proofs.Halves.{near_nodes}
use Rattle.bao_text.specs.Nodes.{TreeNode, Side, left, right, subtree_nodes, subtree_size}
use Rattle.bao_text.proofs.SubtreeNodes.{parent_node, subtree_nodes-parent, subtree_nodes-unwanted}
use Rattle.bao_text.proofs.SubtreeText.{Parts, left_len-Parts}
use Rattle.bao_text.specs.Cut.{Cuts}
use Rattle.bao_text.proofs.Cuts.{Cuts-none, Cuts-run, Cuts-short, Cuts-then}
use Rattle.bao_text.proofs.Runs.{IsRun, run-chunk, run-one, run-subtree}
use Rattle.bao_text.proofs.cut.+append_nodes.Goals as goal
use Rattle.bao_text.proofs.cut.+append_nodes.Goals.{then-n-via-then-n, then-n-via-else-n+then-covers}

-- the parent, and then its left part
with_left : (Holds : List ℕ → Type 0) (choice : Choice) (number n : ℕ) (sides : List Side) (at : ℕ) (old mid new : List ℕ) (whole : Bool) → 1024 < n
    → Cuts Holds old mid (parent_node number n sides at ∷ []) 64 true → Cuts Holds mid new (near_nodes choice number n sides at) (left_len n) whole
    → Cuts Holds old new (parent_node number n sides at ∷ near_nodes choice number n sides at) n whole
with_left Holds choice number n sides at old mid new whole more parent part =
    let parts : Parts n (left_len n) = left_len-Parts n more in
    Cuts-then Holds old mid new (parent_node number n sides at ∷ []) (near_nodes choice number n sides at) 64 (left_len n) n whole (omega arith) (omega (arith, parts.some)) parent part

pub returns-then-not-wants-clause-cuts : goal.returns-then-not-wants-clause-cuts
returns-then-not-wants-clause-cuts g t c = λ sides.
    Cuts-none (g.P.Places.holds c.args.places.now) c.args.into.now.items _ c.args.n
    (subtree_nodes-unwanted c.args.choice.now c.args.number c.args.n sides c.args.at (sym c.wants.ensures ∙ c.if-not-wants.true))

pub returns-then-n-clause-cuts : goal.returns-then-n-clause-cuts
returns-then-n-clause-cuts g t c = λ sides.
    let choice = c.args.choice.now in
    let at : ℕ = c.args.at in
    let n : ℕ = c.args.n in
    let run : IsRun at (subtree_size n) (subtree_nodes choice c.args.number n sides at) =
    elim c.then-n.branch [
      | then-n-via-then-n w ↦
          run-chunk choice c.args.number n sides at w.if-n.true c.requires.chunks (sym c.wants.ensures ∙ c.if-not-wants.false)
      | then-n-via-else-n+then-covers w ↦
          let both = w.covers.ensures.0 w.if-covers.true in
          run-subtree choice c.requires.chunks c.args.number n sides at both.0 both.1
    ] in
    let least : n ≤ c.subtree_size.result = omega (arith, c.subtree_size.ensures) in
    Cuts-run _ (g.P.Places.holds c.args.places.now) c.args.into.now.items _ at c.subtree_size.result n _ c.append.result (rw c.subtree_size.ensures run) least
    c.append.ensures.part c.append.ensures.whole c.append.ensures.few

pub returns-then-not-branch-clause-cuts : goal.returns-then-not-branch-clause-cuts
returns-then-not-branch-clause-cuts g t c = λ sides.
    let node : TreeNode = parent_node c.args.number c.args.n sides c.args.at in
    let parent = Cuts-run ℕ _ _ _ c.args.at 64 64 _ (Ok c.in_ok-append.field-0) (run-one node) (omega arith) c.in_ok-append.ensures.part c.in_ok-append.ensures.whole c.in_ok-append.ensures.few in
    rw (subtree_nodes-parent c.args.choice.now c.args.number c.args.n sides c.args.at (sym c.wants.ensures ∙ c.if-not-wants.false) c.if-n.false)
    (Cuts-short _ _ _ (node ∷ []) _ 64 _ (omega arith) (rw c.if-not-branch.true at parent))

pub returns-then-not-branch-2-clause-cuts : goal.returns-then-not-branch-2-clause-cuts
returns-then-not-branch-2-clause-cuts g t c = λ sides.
    let choice = c.args.choice.now in
    let node : TreeNode = parent_node c.args.number c.args.n sides c.args.at in
    let parent = Cuts-run ℕ _ _ _ c.args.at 64 64 _ (Ok c.in_ok-append.field-0) (run-one node) (omega arith) c.in_ok-append.ensures.part c.in_ok-append.ensures.whole c.in_ok-append.ensures.few in
    let part = rw (c.left_len-left_len.ensures.value, c.if-not-branch-2.true) at (c.in_ok-append_nodes.ensures.cuts (sides ++ left ∷ [])) in
    let both = with_left _ choice c.args.number c.args.n sides c.args.at _ _ _ false c.if-n.false (rw c.if-not-branch.false at parent) part in
    rw (subtree_nodes-parent choice c.args.number c.args.n sides c.args.at (sym c.wants.ensures ∙ c.if-not-wants.false) c.if-n.false)
    (Cuts-short _ _ _ (node ∷ near_nodes choice c.args.number c.args.n sides c.args.at) _ c.args.n _ (omega arith) both)

pub returns-clause-cuts : goal.returns-clause-cuts
returns-clause-cuts g t c = λ sides.
    let choice = c.args.choice.now in
    let node : TreeNode = parent_node c.args.number c.args.n sides c.args.at in
    let parent = Cuts-run ℕ _ _ _ c.args.at 64 64 _ (Ok c.in_ok-append.field-0) (run-one node) (omega arith) c.in_ok-append.ensures.part c.in_ok-append.ensures.whole c.in_ok-append.ensures.few in
    let part = rw (c.left_len-left_len.ensures.value, c.if-not-branch-2.false) at (c.in_ok-append_nodes.ensures.cuts (sides ++ left ∷ [])) in
    let both = with_left _ choice c.args.number c.args.n sides c.args.at _ _ _ true c.if-n.false (rw c.if-not-branch.false at parent) part in
    let parts : Parts c.args.n (left_len c.args.n) = left_len-Parts c.args.n c.if-n.false in
    IfOk-weaker c.append_nodes-2.result _ _
    (λ whole last.
    rw (subtree_nodes-parent choice c.args.number c.args.n sides c.args.at (sym c.wants.ensures ∙ c.if-not-wants.false) c.if-n.false)
    (Cuts-then _ _ _ _ _ _ c.args.n (c.args.n - left_len c.args.n) _ whole (omega arith) (omega (arith, parts.below)) both (rw (c.subtree_size-2.ensures, c.left_len-left_len.ensures.value) at last)))
    (c.append_nodes-2.ensures.cuts (sides ++ right ∷ []))
