-- What reads by position return of a source.
use Rattle.std.specs.Prelude.{◌≡◌, ◌≢◌, ℕ, ◌*◌, ◌<◌, ◌≤◌, List, Option, IfSome, length, take}
use Rattle.b3word.specs.declared.input.Input.{Input}
use Rattle.b3tree.specs.declared.mode.Mode.{Mode}
use Rattle.b3tree.specs.Hashing.{hash, stream}
use Rattle.b3tree.specs.Pieces.{piece}
use Rattle.b3tree.specs.Tree.{top_input}
use Rattle.b3tree.specs.Valid.{AreBytes}

-- A read at offset `at` returned the first n bytes of `buf`: those of the contents there. n is 0 only at or
-- past their end, or for an empty buffer.
abbrev pub ReadsAt : Option (List ℕ) → ℕ → ℕ → List ℕ → Type 0
ReadsAt contents at n buf = IfSome contents (λ s. (take n buf ≡ piece s at n) × (n ≡ 0 → 0 < length buf → length s ≤ at))

-- the bytes are those of the contents from `at` on, if the contents are known
abbrev pub GivenAt : Option (List ℕ) → ℕ → List ℕ → Type 0
GivenAt contents at bytes = IfSome contents (λ s. bytes ≡ piece s at (length bytes))

-- As far as is known, a source with these contents, faultless or not, lacks a byte before offset `end`.
abbrev pub Lacks : Option (List ℕ) → Type 0 → ℕ → Type 0
Lacks contents faultless end = IfSome contents (λ s. faultless → length s < end)

-- As far as is known, a source with these contents, faultless or not, has fewer or more than `len` bytes.
abbrev pub HasOther : Option (List ℕ) → Type 0 → ℕ → Type 0
HasOther contents faultless len = IfSome contents (λ s. faultless → length s ≢ len)

-- the input is the top of the tree over `len` bytes (numbers below 256) of the contents, which begin with chunk `first`
pub record IsTopInputOf (contents : Option (List ℕ)) (mode : Mode) (first len : ℕ) (input : Input) : Type 0 where
  pub bytes : List ℕ
  pub are : AreBytes bytes
  pub given : GivenAt contents (1024 * first) bytes
  pub len_is : length bytes ≡ len
  pub top : input ≡ top_input mode first bytes

-- There are `len` bytes (numbers below 256), and the answer is their hash: the first 32 bytes of their output
-- stream.
pub record IsHashOf (mode : Mode) (len : ℕ) (bytes answer : List ℕ) : Type 0 where
  pub are : AreBytes bytes
  pub len_is : length bytes ≡ len
  pub hash_is : answer ≡ hash mode bytes
  pub stream_is : answer ≡ stream mode bytes 0 32
