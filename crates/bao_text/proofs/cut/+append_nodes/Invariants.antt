use Rattle.bao_text.proofs.cut.+append_nodes.Given as goal

abbrev pub decreases-append_nodes : goal.decreases-append_nodes
decreases-append_nodes g l = l.n
