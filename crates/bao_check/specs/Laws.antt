-- The laws of accepted encodings.
use Rattle.std.specs.Prelude.{◌≡◌, ℕ, ◌+◌, ◌-◌, ◌*◌, ◌^◌, ◌<◌, ◌≤◌, ◌⊎◌, ◌↔◌, List, ◌++◌, length, Some, Contains, Option, if◌then◌else◌}
use Rattle.std.specs.List.{flat_map}
use Rattle.b3word.specs.declared.input.Input.{Input}
use Rattle.b3tree.specs.declared.mode.Mode.{Mode}
use Rattle.b3tree.specs.Hashing.{hash}
use Rattle.b3tree.specs.Valid.{AreBytes, IsKeyed}
use Rattle.bao_text.specs.Choice.{chunk_count}
use Rattle.bao_text.specs.Cut.{claimed}
use Rattle.bao_text.specs.Nodes.{TreeNode, nodes}
use Rattle.bao_text.specs.Texts.{combined_text, length_text, outboard_text, slice_text}
use Rattle.bao_check.specs.Accepted.{IsAccepted, outboard_nodes, places_of, slice_nodes}
use Rattle.bao_check.specs.Bare.{AreBare, bare_part}
use Rattle.bao_check.specs.Beside.{beside_text}
use Rattle.bao_check.specs.Certificate.{Certificate, IsLast}
use Rattle.bao_check.specs.Inputs.{Names, NamesCollision, blob_inputs, certificate_inputs}
use Rattle.bao_text.specs.NodeNames.{boundary}
use Rattle.bao_check.specs.Parents.{parent_in, parent_of}
use Rattle.bao_check.specs.Pieces.{chunk_in, chunk_of}

-- The bytes are the blob's chunk of that index, and if it is the last of the length that the encoding claims,
-- that length is the blob's; or a collision is exhibited, one input from the blob and one from the encoding.
abbrev pub BindsChunk : Mode → List ℕ → ℕ → ℕ → List ℕ → ℕ → List ℕ → Type 0
BindsChunk mode text start len blob number bytes =
    ((chunk_of blob number ≡ Some bytes) × (number + 1 ≡ chunk_count (claimed text) → claimed text ≡ length blob))
    ⊎ NamesCollision mode blob text (places_of (slice_nodes text start len))

-- For every certificate under a root, and every blob with that root: its bytes are the blob's chunk of that
-- index, and if its path goes right at every parent, the blob ends with them; or a collision is exhibited, one
-- input from the blob and one from the certificate.
abbrev pub CertificateBinds : Type 0
CertificateBinds = (mode : Mode) (root blob : List ℕ) (number : ℕ) (bytes : List ℕ) (certificate : Certificate mode root number bytes)
    → IsKeyed mode → AreBytes blob → hash mode blob ≡ root
    → ((chunk_of blob number ≡ Some bytes) × (IsLast certificate → 1024 * number + length bytes ≡ length blob))
    ⊎ ((x : Input) × ((y : Input) × Names (blob_inputs mode blob) (certificate_inputs certificate) x y))

-- For every encoding accepted as a slice under a root, and every blob with that root: each chunk of the
-- encoding is the blob's, or a collision is exhibited.
abbrev pub AcceptedBinds : Type 0
AcceptedBinds = (mode : Mode) (root text blob : List ℕ) (start len number : ℕ) (bytes : List ℕ)
    → IsKeyed mode → AreBytes blob → AreBytes text → hash mode blob ≡ root
    → IsAccepted mode root text (slice_nodes text start len) → chunk_in text (places_of (slice_nodes text start len)) number ≡ Some bytes
    → BindsChunk mode text start len blob number bytes

-- For every blob of less than 2 ^ 64 bytes: each slice of it is accepted under its hash, and so are its
-- combined encoding, as the slice of everything, and its outboard encoding.
abbrev pub WrittenAccepted : Type 0
WrittenAccepted = (mode : Mode) (blob : List ℕ) → IsKeyed mode → length blob < 2 ^ 64
    → ((start len : ℕ) → IsAccepted mode (hash mode blob) (slice_text mode blob start len) (slice_nodes (slice_text mode blob start len) start len))
    × IsAccepted mode (hash mode blob) (combined_text mode blob) (slice_nodes (combined_text mode blob) 0 (2 ^ 64 - 1))
    × IsAccepted mode (hash mode blob) (outboard_text mode blob) (outboard_nodes (outboard_text mode blob))

-- For every accepted outline of less than 2 ^ 64 bytes and every range of its chunks: the chunks are accepted
-- beside it exactly if the slice that they make with it is.
abbrev pub BareAccepted : Type 0
BareAccepted = (mode : Mode) (root outline chunks : List ℕ) (first count : ℕ)
    → IsAccepted mode root outline (outboard_nodes outline) → claimed outline < 2 ^ 64 → 1 ≤ count → first + count ≤ chunk_count (claimed outline)
    → AreBare mode root outline first count chunks
    ↔ IsAccepted mode root (beside_text outline (1024 * first) (bare_part count) chunks)
    (slice_nodes (beside_text outline (1024 * first) (bare_part count) chunks) (1024 * first) (bare_part count))

-- For every encoding accepted as a slice under a root, and every blob with that root and the length that the
-- encoding claims: each parent of the encoding is the blob's, or a collision is exhibited.
abbrev pub ParentBinds : Type 0
ParentBinds = (mode : Mode) (root text blob : List ℕ) (start len m : ℕ) (bytes : List ℕ)
    → IsKeyed mode → AreBytes blob → AreBytes text → hash mode blob ≡ root
    → IsAccepted mode root text (slice_nodes text start len) → claimed text ≡ length blob
    → parent_in text (places_of (slice_nodes text start len)) m ≡ Some bytes
    → (parent_of mode blob m ≡ Some bytes) ⊎ NamesCollision mode blob text (places_of (slice_nodes text start len))

-- what is known of a node of a blob: a chunk by its index, a parent by its boundary
abbrev pub known_at : (ℕ → Option (List ℕ)) → (ℕ → Option (List ℕ)) → TreeNode → Option (List ℕ)
known_at chunks parents node = if node.is_chunk then chunks node.number else parents (boundary node)

-- The length of a blob, followed by the blob's bytes for each node of a slice in order, is the slice's
-- encoding.
abbrev pub NodesMakeSlice : Type 0
NodesMakeSlice = (mode : Mode) (blob : List ℕ) (start len : ℕ) (bytes : TreeNode → List ℕ)
    → ((node : TreeNode) → Contains (nodes (length blob) start len) node → known_at (chunk_of blob) (parent_of mode blob) node ≡ Some (bytes node))
    → length_text (length blob) ++ flat_map bytes (nodes (length blob) start len) ≡ slice_text mode blob start len
