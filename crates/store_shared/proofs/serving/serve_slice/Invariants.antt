use Rattle.bao_text.specs.Rest.{rest_of}
use Rattle.store_shared.proofs.Slices.{AreBelow, IsServing, left_count}
use Rattle.store_steps.specs.Words.{IsGripOf}
use Rattle.store_shared.proofs.serving.serve_slice.Given as goal

abbrev pub invariant-nodes : goal.invariant-nodes
invariant-nodes l = IsGripOf l.words l.grip
    × IsServing l.fn.grip.view l.grip.view l.start l.len l.next (rest_of l.rest) l.out.items
    × AreBelow l.words.fixed.capacity l.next (rest_of l.rest)

abbrev pub decreases-nodes : goal.decreases-nodes
decreases-nodes l = left_count l.next (rest_of l.rest)
