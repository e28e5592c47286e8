use Rattle.store_steps.proofs.words.Words.load_node.Given as goal

abbrev pub ghosts-load_node_asked : goal.ghosts-load_node_asked
ghosts-load_node_asked a = record { node = a.node.now; last = a.last; start = a.start; len = a.len }
