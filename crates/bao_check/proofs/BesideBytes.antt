-- What chunks beside an outline make is of bytes, where they are.
use Rattle.std.proofs.Common.{arith, arith, ℕ, List, [], ◌∷◌}
use Rattle.std.specs.List.{flat_map}
use Rattle.std.specs.Option.{unwrap_or}
use Rattle.std.proofs.lemmas.Bool.{cases_Bool}
use Rattle.b3tree.specs.Valid.{AreBytes}
use Rattle.b3tree.proofs.BlockWords.{AreBytes-append, AreBytes-drop, AreBytes-nil, AreBytes-take}
use Rattle.bao_text.specs.Nodes.{TreeNode}
use Rattle.bao_check.specs.Beside.{beside_text, node_beside}
use Rattle.bao_check.specs.Parents.{parent_in}

-- those of a parent
parent_bytes : (text : List ℕ) (places : List (ℕ × TreeNode)) (m : ℕ) → AreBytes text → AreBytes (unwrap_or (parent_in text places m) [])
parent_bytes text [] m valid = AreBytes-nil
parent_bytes text (place ∷ places) m valid = grind (arith, cases_Bool, AreBytes-take, AreBytes-drop, parent_bytes text places m valid)

node_bytes : (outline : List ℕ) (first : ℕ) (chunks : List ℕ) (node : TreeNode) → AreBytes outline → AreBytes chunks → AreBytes (node_beside outline first chunks node)
node_bytes outline first chunks node parents bytes = grind (arith, cases_Bool, AreBytes-take, AreBytes-drop, parent_bytes)

nodes_bytes : (outline : List ℕ) (first : ℕ) (chunks : List ℕ) (ns : List TreeNode) → AreBytes outline → AreBytes chunks
    → AreBytes (flat_map (node_beside outline first chunks) ns)
nodes_bytes outline first chunks [] parents bytes = AreBytes-nil
nodes_bytes outline first chunks (node ∷ ns) parents bytes = grind (arith, AreBytes-append, node_bytes, nodes_bytes outline first chunks ns parents bytes)

pub beside_bytes : (outline : List ℕ) (start len : ℕ) (chunks : List ℕ) → AreBytes outline → AreBytes chunks → AreBytes (beside_text outline start len chunks)
beside_bytes outline start len chunks parents bytes = search (arith, AreBytes-append, AreBytes-take, nodes_bytes, AreBytes-drop)
