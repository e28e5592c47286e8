use Rattle.std.proofs.Common.{◌≡◌, ◌++◌, ◌+◌, ◌-◌, List, Option, Some, arith}
use Rattle.std.specs.Option.{option_to_list}
use Rattle.bao_text.specs.declared.choice.Choice.{Choice}
use Rattle.bao_text.specs.declared.walk.WaitingSubtree.{WaitingSubtree}
use Rattle.bao_text.specs.NodeNames.{AreWaiting}
use Rattle.bao_text.proofs.NodeNaming.{Taken, parted, taken_last}
use Rattle.bao_text.proofs.walk.next_node.Goals as goal

-- the subtree that was popped
taken_by_pop : (choice : Choice) (old new : List WaitingSubtree) (popped : Option WaitingSubtree) (x : WaitingSubtree) → AreWaiting choice 54 old → old ≡ new ++ option_to_list popped → popped ≡ Some x
    → Taken choice old new x
taken_by_pop choice old new popped x all items was = taken_last choice old new x all (rw was at items)

pub returns-then-len-clause-subtrees : goal.returns-then-len-clause-subtrees
returns-then-len-clause-subtrees c = (taken_by_pop c.args.choice.now _ _ _ _ c.requires.subtrees c.pop.ensures.items c.in_ok-number.was).waiting

pub overflow_add-middle : goal.overflow_add-middle
overflow_add-middle c =
    let taken = taken_by_pop c.args.choice.now _ _ _ _ c.requires.subtrees c.pop.ensures.items c.in_ok-number.was in
    omega (arith, (parted _ _ _ _ _ taken c.if-len.false c.left_len-left_len.ensures.value c.left_len-left_len.ensures.largest).middle)

pub push_wanted-requires-clause-fits : goal.push_wanted-requires-clause-fits
push_wanted-requires-clause-fits c =
    let taken = taken_by_pop c.args.choice.now _ _ _ _ c.requires.subtrees c.pop.ensures.items c.in_ok-number.was in
    let p = parted _ _ _ _ _ taken c.if-len.false c.left_len-left_len.ensures.value c.left_len-left_len.ensures.largest in
    (omega (arith, p.room), p.middle, p.far_levels)

pub push_wanted-requires-clause-subtrees : goal.push_wanted-requires-clause-subtrees
push_wanted-requires-clause-subtrees c = (taken_by_pop c.args.choice.now _ _ _ _ c.requires.subtrees c.pop.ensures.items c.in_ok-number.was).waiting
