-- What an encoding has of the blob: the bytes of its chunks, one after another, without the length and the
-- parents (Bao specification, on decoding).
use Rattle.std.specs.Prelude.{◌≡◌, ℕ, List, [], ◌∷◌, ◌++◌, take, drop, map, sum_by, Bool, if◌then◌else◌}
use Rattle.bao_text.specs.declared.choice.Choice.{Choice}
use Rattle.bao_text.specs.Nodes.{TreeNode, size, subtree_nodes}
use Rattle.bao_check.specs.declared.part.WaitingPart.{WaitingPart}
use Rattle.bao_check.specs.Accepted.{slice_nodes}

-- a node as it appears in an encoding: whether it is a chunk, and its length in bytes
abbrev pub Kind : Type 0
Kind = Bool × ℕ

abbrev pub kind : TreeNode → Kind
kind node = (node.is_chunk, size node)

-- the total length in bytes of nodes of these kinds
abbrev pub kinds_size : List Kind → ℕ
kinds_size kinds = sum_by (λ (k : Kind). k.1) kinds

-- the bytes of the chunks among nodes of these kinds, which follow one another in `bytes`
abbrev pub chunk_bytes : List Kind → List ℕ → List ℕ
chunk_bytes [] bytes = []
chunk_bytes (node ∷ later) bytes = (if node.0 then take node.1 bytes else []) ++ chunk_bytes later (drop node.1 bytes)

-- the blob's bytes in the encoding of the slice (start, len), which begins with the length
abbrev pub decoded : List ℕ → ℕ → ℕ → List ℕ
decoded text start len = chunk_bytes (map kind (slice_nodes text start len)) (drop 8 text)

-- the kinds of the wanted nodes of a subtree, and of waiting parts, the last of them first
abbrev pub subtree_kinds : Choice → ℕ → ℕ → List Kind
subtree_kinds choice number n = map kind (subtree_nodes choice number n [] 0)

abbrev pub waiting_kinds : Choice → List WaitingPart → List Kind
waiting_kinds choice [] = []
waiting_kinds choice (part ∷ later) = waiting_kinds choice later ++ subtree_kinds choice part.number part.len

-- Nodes with these bytes of chunks were accepted: the chunks of `before` are these bytes, followed by the
-- chunks of the parts that still wait.
abbrev pub Decodes : Choice → List WaitingPart → List WaitingPart → List ℕ → List ℕ → Type 0
Decodes choice before after taken bytes =
    (more : List ℕ) → chunk_bytes (waiting_kinds choice before) (taken ++ more) ≡ bytes ++ chunk_bytes (waiting_kinds choice after) more
