-- The encoding of a slice, assembled from what a store holds.
use Rattle.std.specs.Prelude.{ℕ, List, [], ◌∷◌, ◌++◌, Option, None, Some}
use Rattle.bao_text.specs.declared.walk.Node.{Node}
use Rattle.bao_text.specs.declared.walk.Node.TheVariants.{Chunk, Parent}
use Rattle.bao_text.specs.NodeNames.{slice_names}
use Rattle.bao_text.specs.Texts.{length_text}
use Rattle.store_core.specs.declared.history.Serving.{Serving}
use Rattle.store_core.specs.declared.history.Serving.TheVariants.{Lacking, NoLength, Text}
use Rattle.store_core.specs.States.{State}

-- the bytes that a store holds of a node
abbrev pub node_held : State → Node → Option (List ℕ)
node_held s (Chunk c) = s.held c
node_held s (Parent m) = s.parents m

-- these bytes before the rest of an encoding, or what is missing
abbrev pub after_bytes : List ℕ → Serving → Serving
after_bytes bytes NoLength = NoLength
after_bytes bytes (Lacking node) = Lacking node
after_bytes bytes (Text text) = Text (bytes ++ text)

-- a node's bytes before the rest of an encoding, or the node itself if it isn't held
abbrev pub node_and : Node → Option (List ℕ) → Serving → Serving
node_and node None rest = Lacking node
node_and node (Some bytes) rest = after_bytes bytes rest

-- the bytes of nodes one after another, or the first node that isn't held
abbrev pub served : State → List Node → Serving
served s [] = Text []
served s (node ∷ nodes) = node_and node (node_held s node) (served s nodes)

-- the encoding of the slice (start, len) of a blob of this length
abbrev pub serving_of : Option ℕ → State → ℕ → ℕ → Serving
serving_of None s start len = NoLength
serving_of (Some l) s start len = after_bytes (length_text l) (served s (slice_names l start len))

-- the encoding by the recorded length
abbrev pub serving : State → ℕ → ℕ → Serving
serving s start len = serving_of s.recorded s start len
