-- Being accepted has at most one proof, so a ghost field may state it.
use Rattle.std.specs.Prelude.{◌≡◌, ℕ, List, length}
use Rattle.std.specs.List.{AllByRecursion-prop}
use Rattle.std.specs.Coded.{×_prop, Π_prop, le_prop, Coded-set, coded_ℕ, coded_list}
use Rattle.b3tree.specs.declared.mode.Mode.{Mode}
use Rattle.bao_text.specs.Nodes.{TreeNode}
use Rattle.bao_check.specs.Accepted.{IsAccepted, IsAsked, IsGoodNode, places_of, text_end}

-- an equation of two numbers has at most one proof
same_number-prop : (a b : ℕ) → IsProp (a ≡ b)
same_number-prop a b = Coded-set coded_ℕ a b

-- an equation of two lists has at most one proof
same_list-prop : (a b : List ℕ) → IsProp (a ≡ b)
same_list-prop a b = Coded-set (coded_list coded_ℕ) a b

-- that a node has the value required there has at most one proof
pub IsAsked-prop : (mode : Mode) (root text : List ℕ) (places : List (ℕ × TreeNode)) (place : ℕ × TreeNode) → IsProp (IsAsked mode root text places place)
IsAsked-prop mode root text places place =
    ×_prop (Π_prop (λ _. same_list-prop _ _)) (Π_prop (λ above. Π_prop (λ side. Π_prop (λ _. Π_prop (λ _. same_list-prop _ _)))))

-- that a node is complete and has its value has at most one proof
pub IsGoodNode-prop : (mode : Mode) (root text : List ℕ) (places : List (ℕ × TreeNode)) (place : ℕ × TreeNode) → IsProp (IsGoodNode mode root text places place)
IsGoodNode-prop mode root text places place = ×_prop le_prop (IsAsked-prop mode root text places place)

pub IsAccepted-prop : (mode : Mode) (root text : List ℕ) (nodes : List TreeNode) → IsProp (IsAccepted mode root text nodes)
IsAccepted-prop mode root text nodes =
    let good = AllByRecursion-prop (IsGoodNode mode root text (places_of nodes)) (IsGoodNode-prop mode root text (places_of nodes)) (places_of nodes) in
    let ends = same_number-prop (length text) (text_end nodes) in
    Prim.hlevel (le_prop, good, ends)
