use Rattle.std.proofs.Common.{List, [], arith, subst, take}
use Rattle.bao_text.specs.declared.choice.Choice.{Choice}
use Rattle.bao_text.specs.Nodes.{subtree_nodes}
use Rattle.berylwool.specs.declared.ranges.BwRange.{BwRange}
use Rattle.berylwool.specs.Ranges.{HavePart}
use Rattle.berylwool.proofs.Parts.{slice_parts}
use Rattle.berylwool.proofs.ranges.bw_slice_ranges.Goals as goal

pub returns-clause-parts : goal.returns-clause-parts
returns-clause-parts c = λ _ text is long.
    let head : List BwRange = take c.in-Some.head c.put_range.new.out in
    let all : List BwRange = take c.in-Some-put_nodes.ranges c.put_nodes.new.out in
    slice_parts text c.args.start c.args.len c.args.total head all is (omega (arith, long)) (c.in-Some.ensures.parts text)
    (subst (λ (choice : Choice). HavePart text head all (subtree_nodes choice 0 c.args.total [] 8)) c.of_slice-choice.ensures (c.in-Some-put_nodes.ensures.parts [] text long))
