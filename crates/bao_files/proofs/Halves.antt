-- What two threads make of the halves of a subtree.
use Rattle.std.proofs.Common.{◌≡◌, ℕ, ◌+◌, ◌-◌, ◌*◌, ◌/◌, List, [], ◌++◌, Option, refl, sym, subst}
use Rattle.b3word.specs.declared.input.Input.{Input}
use Rattle.b3word.specs.Compression.{cv}
use Rattle.b3tree.specs.declared.mode.Mode.{Mode}
use Rattle.b3tree.specs.Tree.{parent_input}
use Rattle.bao_text.specs.declared.choice.Choice.{Choice}
use Rattle.bao_text.specs.Choice.{wants}
use Rattle.b3par.specs.Encodings.{GainsText}
use Rattle.b3par.proofs.Parents.{SplitsAt, own_text, text_of_parts}

-- the texts of the halves, behind that of their parent, are the text of the subtree
pub halves : (contents : Option (List ℕ)) (choice : Choice) (mode : Mode) (first len l : ℕ) (left right : Input) (parent near far : List ℕ) → SplitsAt mode first len l
    → GainsText contents choice mode first l [] near left → GainsText contents choice mode (first + l / 1024) (len - l) [] far right
    → parent ≡ own_text (wants choice (1024 * first) len) left right
    → GainsText contents choice mode first len [] (parent ++ (near ++ far)) (parent_input mode (cv left) (cv right))
halves contents choice mode first len l left right parent near far splits a b own =
    subst (λ (t : List ℕ). GainsText contents choice mode first len [] t (parent_input mode (cv left) (cv right)))
    (λ i. sym own i ++ (sym a.text i ++ sym b.text i))
    (text_of_parts contents choice mode first len l left right [] (wants choice (1024 * first) len) splits refl a.top b.top)
