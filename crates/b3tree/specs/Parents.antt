-- The parents of eight whole chunks, each as the chaining values of its two parts.
use Rattle.std.specs.Prelude.{◌≡◌, ℕ, ◌+◌, ◌*◌, ◌<◌, List, length}
use Rattle.b3tree.specs.declared.mode.Mode.{Mode}
use Rattle.b3tree.specs.declared.eight.EightParents.{EightParents}
use Rattle.b3tree.specs.declared.eight.FourParents.{FourParents}
use Rattle.b3tree.specs.declared.eight.Parts.{Parts}
use Rattle.b3tree.specs.Pieces.{piece}
use Rattle.b3word.specs.Compression.{cv}
use Rattle.b3tree.specs.Tree.{parent_input, subtree_cv}

-- the chaining value of the subtree of n chunks that begins a chunks after the first
abbrev pub value_at : Mode → ℕ → List ℕ → ℕ → ℕ → List ℕ
value_at mode first s n a = subtree_cv mode (first + a) (piece s (1024 * a) (1024 * n))

-- v j is the chaining value of chunk j of the bytes s, whose first chunk has the index `first`
abbrev pub AreChunkValues : Mode → ℕ → List ℕ → (ℕ → List ℕ) → Type 0
AreChunkValues mode first s v = (j : ℕ) → 1024 * j < length s → v j ≡ value_at mode first s 1 j

-- the two children, of n chunks each, of the subtree that begins a chunks after the first
abbrev pub parts_at : Mode → ℕ → List ℕ → ℕ → ℕ → Parts
parts_at mode first s n a = record {
  left = record { 0 = value_at mode first s n a };
  right = record { 0 = value_at mode first s n (a + n) };
}

-- the parents over the four chunks that begin a chunks after the first
abbrev pub four_parents : Mode → ℕ → List ℕ → ℕ → FourParents
four_parents mode first s a = record {
  top = parts_at mode first s 2 a;
  left = parts_at mode first s 1 a;
  right = parts_at mode first s 1 (a + 2);
}

abbrev pub eight_parents : Mode → ℕ → List ℕ → EightParents
eight_parents mode first s = record {
  top = parts_at mode first s 4 0;
  left = four_parents mode first s 0;
  right = four_parents mode first s 4;
}

-- the parent of values j and j + 1; then the value of the parent of values 2 * j and 2 * j + 1
abbrev pub parts_of : (ℕ → List ℕ) → ℕ → Parts
parts_of values j = record { left = record { 0 = values j }; right = record { 0 = values (j + 1) } }

abbrev pub paired_values : Mode → (ℕ → List ℕ) → ℕ → List ℕ
paired_values mode values j = cv (parent_input mode (values (2 * j)) (values (2 * j + 1)))

-- the parents of eight values
abbrev pub lane_parents : Mode → (ℕ → List ℕ) → EightParents
lane_parents mode values =
    let pairs = paired_values mode values in
    record {
      top = parts_of (paired_values mode pairs) 0;
      left = record { top = parts_of pairs 0; left = parts_of values 0; right = parts_of values 2 };
      right = record { top = parts_of pairs 2; left = parts_of values 4; right = parts_of values 6 };
    }
