-- Outlines, which are outboard encodings that handles keep, and the slices made from them and chunks.
use Rattle.std.specs.Prelude.{◌≡◌, ℕ, ◌+◌, ◌*◌, ◌<◌, ◌≤◌, List}
use Rattle.b3tree.specs.declared.mode.Mode.{Mode}
use Rattle.bao_check.specs.Accepted.{outboard_nodes, places_of}
use Rattle.bao_check.specs.Bare.{AreBare, bare_part}
use Rattle.bao_check.specs.Beside.{beside_text}
use Rattle.bao_check.specs.Leaves.{WantsParents}
use Rattle.bao_check.specs.Parents.{parent_place}
use Rattle.bao_text.specs.declared.choice.Choice.{Choice}
use Rattle.bao_text.specs.Choice.{chunk_count}
use Rattle.bao_text.specs.Cut.{claimed}
use Rattle.bao_text.specs.Nodes.{Side, TreeNode, placed_nodes, subtree_nodes}
use Rattle.holders.specs.declared.fixed.Fixed.{Fixed}
use Rattle.holders.specs.declared.piece.Piece.{Piece}
use Rattle.berylwool.specs.declared.outlined.Outlined.{Outlined}
use Rattle.berylwool.specs.Calls.{slice_piece}
use Rattle.berylwool.specs.Status.{IsBareRefused}

abbrev pub outlined_mode : Outlined → Mode
outlined_mode it = it.mode

-- the root under which the encoding was accepted, 32 bytes
abbrev pub outlined_root : Outlined → List ℕ
outlined_root it = it.root.0

-- the encoding
abbrev pub outlined_text : Outlined → List ℕ
outlined_text it = it.text.items

-- the outline is this encoding, accepted under the root in the mode
pub record IsOutlined (mode : Mode) (root text : List ℕ) (it : Outlined) : Type 0 where
  pub mode_is : outlined_mode it ≡ mode
  pub root_is : outlined_root it ≡ root
  pub text_is : outlined_text it ≡ text

-- `count` is at least 1, and the length that an outboard encoding claims has all of the `count` chunks from
-- chunk `first` on
abbrev pub HasChunks : List ℕ → ℕ → ℕ → Type 0
HasChunks text first count = (1 ≤ count) × (first + count ≤ chunk_count (claimed text))

-- the length that the outline claims has these chunks, and by the outline `chunks` are their bytes
abbrev pub AreBeside : ℕ → ℕ → List ℕ → Outlined → Type 0
AreBeside first count chunks it =
    HasChunks (outlined_text it) first count × AreBare (outlined_mode it) (outlined_root it) (outlined_text it) first count chunks

-- the status and the offset are those of the first fault of these chunks
abbrev pub AreNotBeside : ℕ → ℕ → List ℕ → ℕ → ℕ → Outlined → Type 0
AreNotBeside first count chunks status at it =
    IsBareRefused (outlined_mode it) (outlined_root it) (outlined_text it) first count chunks status at

-- the slice that an outboard encoding and the bytes of chunks make
abbrev pub bare_text : List ℕ → ℕ → ℕ → List ℕ → List ℕ
bare_text text first count chunks = beside_text text (1024 * first) (bare_part count) chunks

-- the accepted slice that an outboard encoding and the bytes of chunks make, in a store from chunk `base` of
-- the blob on
abbrev pub bare_piece : ℕ → List ℕ → ℕ → ℕ → List ℕ → Piece
bare_piece base text first count chunks = slice_piece base (bare_text text first count chunks) (1024 * first) (bare_part count)

-- the outline is of the store's root and mode
abbrev pub IsOfStore : Fixed → Outlined → Type 0
IsOfStore fixed it = (it.root ≡ fixed.root) × (it.mode ≡ fixed.mode)

-- The parents of the subtree over n bytes from chunk `number` on are among the nodes at these offsets, from
-- offset `at` on: each parent that the subtree has is found there.
pub record HasParentsAmong (places : List (ℕ × TreeNode)) (own : Choice) (number n : ℕ) (sides : List Side) (source at : ℕ) : Type 0 where
  pub wants : WantsParents own number n
  pub same : (m : ℕ) → number < m → m < number + chunk_count n
      → parent_place places m ≡ parent_place (placed_nodes at (subtree_nodes own number n sides source)) m

-- the parents of the subtree are among the nodes of an outboard encoding, from offset `at` on
abbrev pub HasParentsAt : List ℕ → Choice → ℕ → ℕ → List Side → ℕ → ℕ → Type 0
HasParentsAt text own number n sides source at = HasParentsAmong (places_of (outboard_nodes text)) own number n sides source at
