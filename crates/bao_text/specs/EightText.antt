-- The encoding of eight whole chunks, by their parents.
use Rattle.std.specs.Prelude.{ℕ, ◌+◌, List, ◌++◌}
use Rattle.b3tree.specs.declared.eight.EightParents.{EightParents}
use Rattle.b3tree.specs.declared.eight.FourParents.{FourParents}
use Rattle.b3tree.specs.declared.eight.Parts.{Parts}
use Rattle.b3tree.specs.Bytes.{bytes_of}
use Rattle.b3tree.specs.Pieces.{piece}
use Rattle.bao_text.specs.declared.choice.Choice.{Choice}
use Rattle.bao_text.specs.Texts.{chunk_text}

-- the bytes of a parent
abbrev pub parts_text : Parts → List ℕ
parts_text parent = bytes_of parent.left.0 ++ bytes_of parent.right.0

-- the encoding of the two chunks of s from place `at` on
abbrev pub pair_text : Choice → Parts → List ℕ → ℕ → List ℕ
pair_text choice parent s at = parts_text parent ++ chunk_text choice (piece s at 2048)

-- the encoding of the four chunks of s from place `at` on
abbrev pub four_text : Choice → FourParents → List ℕ → ℕ → List ℕ
four_text choice parents s at =
    parts_text parents.top ++ (pair_text choice parents.left s at ++ pair_text choice parents.right s (at + 2048))

-- the encoding of the eight chunks of s
abbrev pub eight_text : Choice → EightParents → List ℕ → List ℕ
eight_text choice parents s =
    parts_text parents.top ++ (four_text choice parents.left s 0 ++ four_text choice parents.right s 4096)
