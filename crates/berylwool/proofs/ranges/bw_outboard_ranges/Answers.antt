use Rattle.std.proofs.Common.{◌≡◌, ◌++◌, ℕ, ◌/◌, List, [], subst, sym, take}
use Rattle.std.specs.List.{flat_map}
use Rattle.bao_check.specs.Beside.{node_beside}
use Rattle.bao_text.specs.declared.choice.Choice.{Choice}
use Rattle.bao_text.specs.Choice.{of_outboard, of_slice}
use Rattle.bao_text.specs.Cut.{claimed}
use Rattle.bao_text.specs.Nodes.{subtree_nodes}
use Rattle.berylwool.specs.declared.ranges.BwRange.{BwRange}
use Rattle.berylwool.specs.Outlines.{HasParentsAt}
use Rattle.berylwool.specs.Ranges.{parts}
use Rattle.berylwool.proofs.Beside.{all_at, parents_are}
use Rattle.berylwool.proofs.ranges.bw_outboard_ranges.Goals as goal

pub returns-clause-parts : goal.returns-clause-parts
unfolding parts
returns-clause-parts c = λ _ text is.
    let head : List BwRange = take c.in-Some.first c.put_range.new.out in
    let all : List BwRange = take c.in-Some-put_parents.ranges c.put_parents.new.out in
    let first : ℕ = c.args.start / 1024 in
    let has : HasParentsAt text (of_outboard (claimed text)) 0 c.args.total [] 8 8 =
    subst (λ (n : ℕ). HasParentsAt text (of_outboard (claimed text)) 0 n [] 8 8) is (all_at text) in
    let then : parts text all ≡ parts text head ++ flat_map (node_beside text first []) (subtree_nodes (of_slice c.args.total c.args.start c.args.len) 0 c.args.total [] 8) =
    subst (λ (choice : Choice). parts text all ≡ parts text head ++ flat_map (node_beside text first []) (subtree_nodes choice 0 c.args.total [] 8)) c.of_slice-choice.ensures
    (c.in-Some-put_parents.ensures.parts (of_outboard (claimed text)) first [] 8 text has) in
    parents_are text c.args.start c.args.len (parts text head) (parts text all) (c.in-Some.ensures.parts text)
    (subst (λ (n : ℕ). parts text all ≡ parts text head ++ flat_map (node_beside text first []) (subtree_nodes (of_slice n c.args.start c.args.len) 0 n [] 8)) (sym is) then)
