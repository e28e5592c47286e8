use Rattle.std.proofs.Common.{◌≡◌, ◌∙◌, ℕ, ◌+◌, ◌*◌, ◌≤◌, List, [], ◌∷◌, ◌++◌, max, true, arith, subst, sym}
use Rattle.std.proofs.lemmas.Option.{IfSome_then}
use Rattle.bao_text.specs.Cut.{has_all}
use Rattle.bao_text.specs.Nodes.{TreeNode, left, right, subtree_nodes, subtree_size}
use Rattle.bao_text.proofs.Runs.{IsRun, run-chunk, run-subtree}
use Rattle.bao_text.proofs.SubtreeNodes.{subtree_nodes-unwanted}
use Rattle.berylwool.proofs.Parts.{leaf_there, part_none, part_parent, part_run, run_there}
use Rattle.berylwool.proofs.ranges.+put_nodes.Goals as goal
use Rattle.berylwool.proofs.ranges.+put_nodes.Goals.{then-n-via-then-n, then-n-via-else-n+then-covers}

pub returns-then-not-wants-clause-parts : goal.returns-then-not-wants-clause-parts
returns-then-not-wants-clause-parts t c = λ sides text long.
    part_none text _ _ (subtree_nodes-unwanted c.args.choice.now c.args.number c.args.n sides c.args.at (sym c.wants.ensures ∙ c.if-not-wants.true))

pub returns-then-n-clause-parts : goal.returns-then-n-clause-parts
returns-then-n-clause-parts t c =
    let choice = c.args.choice.now in
    let n : ℕ = c.args.n in
    let at : ℕ = c.args.at in
    IfSome_then c.put_range.result c.put_range.ensures.parts (λ k then sides text long.
    let nodes : List TreeNode = subtree_nodes choice c.args.number n sides at in
    let run : IsRun at (subtree_size n) nodes = elim c.then-n.branch [
      | then-n-via-then-n w ↦ run-chunk choice c.args.number n sides at w.if-n.true c.requires.chunks (sym c.wants.ensures ∙ c.if-not-wants.false)
      | then-n-via-else-n+then-covers w ↦
          let both : (choice.start ≤ 1024 * c.args.number) × (1024 * c.args.number + max n 1 ≤ choice.end) = w.covers.ensures.0 w.if-covers.true in
          run-subtree choice c.requires.chunks c.args.number n sides at both.0 both.1
    ] in
    let there : has_all text nodes ≡ true = elim c.then-n.branch [
      | then-n-via-then-n w ↦ leaf_there choice c.args.number n sides at text w.if-n.true c.requires.chunks (sym c.wants.ensures ∙ c.if-not-wants.false) (omega (arith, long))
      | then-n-via-else-n+then-covers w ↦ run_there text at (subtree_size n) nodes run (omega (arith, w.if-n.false)) long
    ] in
    part_run text _ _ at c.subtree_size.result nodes (subst (λ (k : ℕ). IsRun at k nodes) (sym c.subtree_size.ensures) run) there (then text))

pub returns-clause-parts : goal.returns-clause-parts
returns-clause-parts t c =
    IfSome_then c.put_nodes-2.result c.put_nodes-2.ensures.parts (λ k third sides text long.
    part_parent c.args.choice.now c.args.number c.args.n sides c.args.at c.left_len-left_len.result c.subtree_size-2.result text _ _ _ _ (omega (arith, c.if-n.false))
    (sym c.wants.ensures ∙ c.if-not-wants.false) c.left_len-left_len.ensures.value c.subtree_size-2.ensures long (c.in_ok-upper.ensures.parts text)
    (c.in_ok-near.ensures.parts (sides ++ left ∷ []) text) (third (sides ++ right ∷ []) text))
