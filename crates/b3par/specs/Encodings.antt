-- Encodings of the bytes that reads by position returned.
use Rattle.std.specs.Prelude.{◌≡◌, ℕ, List, ◌++◌, length, Option}
use Rattle.b3word.specs.declared.input.Input.{Input}
use Rattle.b3tree.specs.declared.mode.Mode.{Mode}
use Rattle.b3par.specs.Given.{IsHashOf, IsTopInputOf}
use Rattle.bao_text.specs.declared.choice.Choice.{Choice}
use Rattle.bao_text.specs.Choice.{of_combined, of_outboard, of_slice}
use Rattle.bao_text.specs.Texts.{chosen_text, subtree_text}

-- The input is the top of the tree over `len` bytes of the contents, which begin with chunk `first`, and the
-- text has grown by what the choice wants of this tree.
pub record GainsText (contents : Option (List ℕ)) (choice : Choice) (mode : Mode) (first len : ℕ) (old new : List ℕ) (input : Input) : Type 0 where
  pub top : IsTopInputOf contents mode first len input
  pub text : new ≡ old ++ subtree_text choice mode first top.bytes

-- There are `len` bytes, the answer is their hash, and the text is their encoding for the choice.
pub record IsTextOf (choice : ℕ → Choice) (mode : Mode) (len : ℕ) (bytes answer text : List ℕ) : Type 0 where
  pub hash_is : IsHashOf mode len bytes answer
  pub text_is : text ≡ chosen_text (choice (length bytes)) mode bytes

-- the text is the outboard encoding of the bytes
abbrev pub IsOutboardOf : Mode → ℕ → List ℕ → List ℕ → List ℕ → Type 0
IsOutboardOf mode len bytes answer text = IsTextOf of_outboard mode len bytes answer text

-- the text is the combined encoding of the bytes
abbrev pub IsCombinedOf : Mode → ℕ → List ℕ → List ℕ → List ℕ → Type 0
IsCombinedOf mode len bytes answer text = IsTextOf of_combined mode len bytes answer text

-- the text is the slice (start, count) of the bytes
abbrev pub IsSliceOf : Mode → ℕ → ℕ → ℕ → List ℕ → List ℕ → List ℕ → Type 0
IsSliceOf mode len start count bytes answer text = IsTextOf (λ total. of_slice total start count) mode len bytes answer text
