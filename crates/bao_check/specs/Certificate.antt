-- The evidence that bytes are a certain chunk of the blob with a root: a path down the tree.
use Rattle.std.specs.Prelude.{◌≡◌, ℕ, List, [], ◌∷◌, length}
use Rattle.std.specs.List.{AllByRecursion}
use Rattle.b3word.specs.declared.input.Input.{Input}
use Rattle.b3word.specs.Compression.{cv}
use Rattle.b3tree.specs.declared.mode.Mode.{Mode}
use Rattle.b3tree.specs.Bytes.{words_of}
use Rattle.b3tree.specs.Chunk.{last_chunk_input}
use Rattle.b3tree.specs.Tree.{parent_input}
use Rattle.b3tree.specs.Hashing.{rooted}
use Rattle.b3tree.specs.Valid.{AreBytes}
use Rattle.bao_text.specs.Nodes.{Side, left, right}
use Rattle.bao_check.specs.Accepted.{part_value}

-- A parent on the path, by its bytes, and the side on which the path continues. They are one list: of two lists of
-- values the first could have all 16 words, which leaves the second free, and any bytes would have a certificate.
pub record Step : Type 0 where
  pub parent : List ℕ
  pub side : Side

-- 64 bytes: the chaining values of its two children
abbrev pub IsParent : Step → Type 0
IsParent step = (length step.parent ≡ 64) × AreBytes step.parent

-- the compression input of the parent
abbrev pub step_input : Mode → Step → Input
step_input mode step = parent_input mode (part_value left step.parent) (part_value right step.parent)

-- the half of the parent that the side names
abbrev pub half : Step → List ℕ
half step = part_value step.side step.parent

-- each input on the path has the value that the half before it requires, down to the chunk's last input
abbrev pub Follows : Mode → List ℕ → List Step → Input → Type 0
Follows mode value [] last = cv last ≡ value
Follows mode value (step ∷ steps) last = (cv (step_input mode step) ≡ value) × Follows mode (half step) steps last

-- the first input of the path, with ROOT, has the value of the root
abbrev pub Begins : Mode → List ℕ → List Step → Input → Type 0
Begins mode root [] last = cv (rooted last) ≡ words_of 8 root
Begins mode root (step ∷ steps) last = (cv (rooted (step_input mode step)) ≡ words_of 8 root) × Follows mode (half step) steps last

-- a certificate that the bytes are chunk `number` of the blob with this root
pub record Certificate (mode : Mode) (root : List ℕ) (number : ℕ) (bytes : List ℕ) : Type 0 where
  pub steps : List Step
  pub parents : AllByRecursion IsParent steps
  pub chunk : AreBytes bytes
  pub holds : Begins mode root steps (last_chunk_input mode number bytes)

-- the path goes right at every parent, so the chunk is the last one
abbrev pub IsLast : {mode : Mode} {root : List ℕ} {number : ℕ} {bytes : List ℕ} → Certificate mode root number bytes → Type 0
IsLast certificate = AllByRecursion (λ step. step.side ≡ right) certificate.steps
