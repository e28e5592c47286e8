-- The rest of a walk over a slice's nodes.
use Rattle.std.specs.Prelude.{List}
use Rattle.bao_text.specs.declared.walk.Node.{Node}
use Rattle.bao_text.specs.declared.walk.Nodes.{Nodes}
use Rattle.bao_text.specs.NodeNames.{waiting_names}

-- the nodes that are still to come
abbrev pub rest_of : Nodes → List Node
rest_of walk = waiting_names walk.choice walk.waiting.items
