-- Blobs that were gathered for one root.
use Rattle.std.specs.Prelude.{◌≡◌, ◌≢◌, ◌⊎◌, ℕ, Bool, List, Some, Result, Ok, Err, length}
use Rattle.b3tree.specs.declared.mode.Mode.{Mode}
use Rattle.b3tree.specs.Hashing.{hash}
use Rattle.bao_files.specs.Disks.{FileState, Puts}
use Rattle.bao_files.specs.declared.fault.FileFault.TheVariants.{Memory}
use Rattle.bao_tasks.specs.declared.gathered_fault.GatheredFault.{GatheredFault}
use Rattle.b3tree.specs.Valid.{AreBytes}
use Rattle.bao_tasks.specs.declared.gathered_fault.GatheredFault.TheVariants.{File, Outboard, Gather}
use Rattle.bao_tasks.specs.declared.gathering.Gathering.{Gathering}
use Rattle.bao_tasks.specs.Gathered.{gathered_text}
use Rattle.bao_windows.specs.declared.fault.GatherFault.TheVariants.{NotTheRoot}
use Rattle.determined_texts.specs.Agreeing.{AgreeBy}
use Rattle.determined_program.specs.Files.{SameWhereKnown}

-- Both gather one blob, with one capacity, and write the same of it. Their workers, their grain and what they note may differ.
pub record AreAlike (how other : Gathering) : Type 0 where
  pub root : how.wanted.root ≡ other.wanted.root
  pub mode : how.wanted.mode ≡ other.wanted.mode
  pub encode : how.encode ≡ other.encode
  pub long : how.long ≡ other.long
  pub capacity : how.capacity ≡ other.capacity

-- The two blobs that were put at the path, or whose encodings were, are different, and have one hash: a collision.
pub record PutCollision (mode : Mode) (root : List ℕ) (encode : Bool) (before one other : List ℕ → FileState) (path : List ℕ) (m n : ℕ) : Type 0 where
  pub ours : List ℕ
  pub theirs : List ℕ
  pub apart : ours ≢ theirs
  pub our_bytes : AreBytes ours
  pub their_bytes : AreBytes theirs
  pub our_hash : hash mode ours ≡ root
  pub their_hash : hash mode theirs ≡ root
  pub our_count : m ≡ length ours
  pub their_count : n ≡ length theirs
  pub our_text : Puts before one path (Some (gathered_text encode mode ours))
  pub their_text : Puts before other path (Some (gathered_text encode mode theirs))

-- Where both put a blob, it is one, with one count, and what is at each path is the same; or the two are a collision. Where both were refused, what
-- is at each path is the same.
abbrev pub SamePut : Mode → List ℕ → Bool → (List ℕ → FileState) → (List ℕ → FileState) → (List ℕ → FileState) → List ℕ → Result ℕ GatheredFault → Result ℕ GatheredFault → Type 0
SamePut mode root encode before one other path (Ok m) (Ok n) = ((m ≡ n) × SameWhereKnown before one other) ⊎ PutCollision mode root encode before one other path m n
SamePut mode root encode before one other path (Ok m) (Err f) = Unit {0}
SamePut mode root encode before one other path (Err e) (Ok n) = Unit {0}
SamePut mode root encode before one other path (Err e) (Err f) = SameWhereKnown before one other

-- Where there is a blob with the root: both put one, with one count, and what is at each path is the same; and neither says that there is none (902).
abbrev pub SameRight : (List ℕ → FileState) → (List ℕ → FileState) → (List ℕ → FileState) → Result ℕ GatheredFault → Result ℕ GatheredFault → Type 0
SameRight before one other r s =
    AgreeBy (λ m n. (m ≡ n) × SameWhereKnown before one other) (λ e f. (e ≢ Gather NotTheRoot) × (f ≢ Gather NotTheRoot)) (λ e. e ≢ Gather NotTheRoot) (λ f. f ≢ Gather NotTheRoot) r s

-- Both were refused, for the same, or one for want of memory.
abbrev pub AreSameFaults : Result ℕ GatheredFault → Result ℕ GatheredFault → Type 0
AreSameFaults (Err e) (Err f) = (e ≡ File Memory) ⊎ (f ≡ File Memory) ⊎ (e ≡ f)
AreSameFaults one other = ⊥

-- Of an outboard encoding whose bytes are known: where both refuse it, it is for one fault, and where one has put a blob the other doesn't refuse it.
abbrev pub SameOutboard : Result ℕ GatheredFault → Result ℕ GatheredFault → Type 0
SameOutboard (Ok m) (Err (Outboard f)) = ⊥
SameOutboard (Err (Outboard e)) (Ok n) = ⊥
SameOutboard (Err (Outboard e)) (Err (Outboard f)) = e ≡ f
SameOutboard one other = Unit {0}
