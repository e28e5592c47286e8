-- The compression inputs of a blob, an encoding and a certificate, and collisions: two different inputs with
-- the same chaining value.
use Rattle.std.specs.Prelude.{◌≡◌, ◌≢◌, ℕ, zero, suc, ◌+◌, ◌-◌, ◌/◌, List, [], ◌∷◌, ◌++◌, length, map, take, drop, nat_le, Contains, Bool, true, false, if◌then◌else◌}
use Rattle.std.specs.List.{flat_map, range_with_len}
use Rattle.b3word.specs.declared.input.Input.{Input}
use Rattle.b3word.specs.Compression.{cv}
use Rattle.b3tree.specs.declared.mode.Mode.{Mode}
use Rattle.b3tree.specs.Chunk.{block_count, chunk_input, last_chunk_input}
use Rattle.b3tree.specs.Tree.{left_len, parent_input, subtree_cv}
use Rattle.b3tree.specs.Hashing.{rooted}
use Rattle.bao_text.specs.Nodes.{TreeNode, Side, left, right}
use Rattle.bao_check.specs.Accepted.{bytes_at, part_value}
use Rattle.bao_check.specs.Certificate.{Certificate, Step, step_input}

-- the input, with ROOT if it is the top one
abbrev pub marked : Bool → Input → Input
marked top x = if top then rooted x else x

-- all inputs of a chunk, the last with ROOT if it is the top one
abbrev pub whole_chunk : Bool → Mode → ℕ → List ℕ → List Input
whole_chunk top mode number s =
    map (chunk_input mode number s) (range_with_len 0 (block_count (length s) - 1)) ++ marked top (last_chunk_input mode number s) ∷ []

-- the inputs of the chunks and parents of the tree over s, which begins with chunk `first` and has at most so
-- many levels of parents
unfoldable pub inputs_within : ℕ → Bool → Mode → ℕ → List ℕ → List Input
inputs_within zero top mode first s = whole_chunk top mode first s
inputs_within (suc levels) top mode first s =
    let l = left_len (length s) in
    if nat_le (length s) 1024 then whole_chunk top mode first s
    else marked top (parent_input mode (subtree_cv mode first (take l s)) (subtree_cv mode (first + l / 1024) (drop l s)))
    ∷ (inputs_within levels false mode first (take l s) ++ inputs_within levels false mode (first + l / 1024) (drop l s))

-- the inputs of a blob: all those of each chunk, and that of each parent, the top one with ROOT
unfoldable pub blob_inputs : Mode → List ℕ → List Input
blob_inputs mode blob = inputs_within (length blob / 1024) true mode 0 blob

-- whether a node is the top one
abbrev pub is_top : List Side → Bool
is_top [] = true
is_top (side ∷ sides) = false

-- the inputs of the node at a place of an encoding
abbrev pub place_inputs : Mode → List ℕ → ℕ × TreeNode → List Input
place_inputs mode text place =
    if place.1.is_chunk then whole_chunk (is_top place.1.sides) mode place.1.number (bytes_at text place)
    else marked (is_top place.1.sides) (parent_input mode (part_value left (bytes_at text place)) (part_value right (bytes_at text place))) ∷ []

-- the inputs of an encoding: all those of each chunk, and that of each parent, the first node's with ROOT
abbrev pub text_inputs : Mode → List ℕ → List (ℕ × TreeNode) → List Input
text_inputs mode text places = flat_map (place_inputs mode text) places

-- the inputs of a path down to a chunk: that of each parent, then all those of the chunk, the top one with ROOT
abbrev pub way_inputs : Bool → Mode → List Step → ℕ → List ℕ → List Input
way_inputs top mode [] number bytes = whole_chunk top mode number bytes
way_inputs top mode (step ∷ steps) number bytes = marked top (step_input mode step) ∷ way_inputs false mode steps number bytes

-- the inputs of a certificate, the top one with ROOT
abbrev pub certificate_inputs : {mode : Mode} {root : List ℕ} {number : ℕ} {bytes : List ℕ} → Certificate mode root number bytes → List Input
certificate_inputs {mode = mode} {number = number} {bytes = bytes} certificate = way_inputs true mode certificate.steps number bytes

-- x is in the first list and y in the second; they differ, and have the same chaining value
pub record Names (ours theirs : List Input) (x y : Input) : Type 0 where
  pub our : Contains ours x
  pub their : Contains theirs y
  pub differ : x ≢ y
  pub same : cv x ≡ cv y

-- a blob and an encoding with these nodes have a collision
abbrev pub NamesCollision : Mode → List ℕ → List ℕ → List (ℕ × TreeNode) → Type 0
NamesCollision mode blob text places = (x : Input) × ((y : Input) × Names (blob_inputs mode blob) (text_inputs mode text places) x y)
