-- Nodes as C has them.
use Rattle.std.specs.Prelude.{if◌then◌else◌, nat_eq}
use Rattle.bao_text.specs.declared.walk.Node.{Node}
use Rattle.bao_text.specs.declared.walk.Node.TheVariants.{Chunk, Parent}
use Rattle.berylwool.specs.declared.serving.BwNode.{BwNode}

-- the node that it shows: kind 0 is a parent
abbrev pub node_of : BwNode → Node
node_of shown = if nat_eq shown.kind 0 then Parent shown.number else Chunk shown.number
