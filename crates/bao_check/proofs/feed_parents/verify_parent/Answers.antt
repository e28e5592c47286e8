use Rattle.std.proofs.Common.{◌≡◌, ℕ, List, [], ◌++◌, take, subst}
use Rattle.std.proofs.lemmas.Result.{err_from_is_err_and}
use Rattle.b3tree.specs.declared.mode.Mode.{Mode}
use Rattle.bao_text.specs.Choice.{of_outboard}
use Rattle.bao_text.specs.Cut.{claimed}
use Rattle.bao_text.specs.Nodes.{placed_nodes, subtree_nodes}
use Rattle.bao_check.specs.declared.asked.Asked.{Asked}
use Rattle.bao_check.specs.Walk.{asked_root}
use Rattle.bao_check.specs.Verified.{AsksAt, nth_parent_at, parents_of}
use Rattle.bao_check.proofs.Outlines.{outboard-WantsParents}
use Rattle.bao_check.proofs.Verifying.{good_next, stop_next}
use Rattle.bao_check.proofs.feed_parents.verify_parent.Goals as goal

-- what the way down from the root says of parent k
from_root : (mode : Mode) (root text : List ℕ) (k total : ℕ) (top own : Asked) → total ≡ claimed text → top ≡ asked_root root → (more : List ℕ)
    → AsksAt top [] mode (take (nth_parent_at k) text ++ more) (placed_nodes 8 (subtree_nodes (of_outboard total) 0 total [] 8)) (nth_parent_at k) own
    → AsksAt (asked_root root) [] mode (take (nth_parent_at k) text ++ more) (parents_of text) (nth_parent_at k) own
from_root mode root text k total top own total_is top_is more h =
    subst (λ (T : Type 0). T)
    (λ i. AsksAt (top_is i) [] mode (take (nth_parent_at k) text ++ more) (placed_nodes 8 (subtree_nodes (of_outboard (total_is i)) 0 (total_is i) [] 8)) (nth_parent_at k) own) h

pub returns-clause-ok : goal.returns-clause-ok
returns-clause-ok c =
    let mode : Mode = c.args.mode.now in
    let root : List ℕ = c.args.root.now.0 in
    let text : List ℕ = c.args.text.now in
    let own : Asked = c.asked_of-asked.result in
    good_next mode root text c.args.k own c.requires.there c.requires.good
    (λ more. from_root mode root text c.args.k c.claimed.result c.of_root.result own c.claimed.ensures c.of_root.ensures more
    (c.asked_of-asked.ensures mode (of_outboard c.claimed.result) 0 [] 8 more (outboard-WantsParents c.claimed.result)))
    c.in_ok-check_parent.ensures.meets

pub returns-in_err-check_parent-clause-err : goal.returns-in_err-check_parent-clause-err
returns-in_err-check_parent-clause-err c =
    let p = err_from_is_err_and c.from_residual.result c.from_residual.ensures.1 in
    let mode : Mode = c.args.mode.now in
    let root : List ℕ = c.args.root.now.0 in
    let text : List ℕ = c.args.text.now in
    let own : Asked = c.asked_of-asked.result in
    rw (p.1, p.2)
    (stop_next mode root text c.args.k own c.requires.there c.requires.good
    (λ more. from_root mode root text c.args.k c.claimed.result c.of_root.result own c.claimed.ensures c.of_root.ensures more
    (c.asked_of-asked.ensures mode (of_outboard c.claimed.result) 0 [] 8 more (outboard-WantsParents c.claimed.result)))
    c.in_err-check_parent.field-0.0 c.in_err-check_parent.ensures.err)
