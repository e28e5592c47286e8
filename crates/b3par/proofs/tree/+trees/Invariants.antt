use Rattle.b3par.proofs.tree.+trees.Given as goal

abbrev pub decreases-tree_over : goal.decreases-tree_over
decreases-tree_over g l = l.len
