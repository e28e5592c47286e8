-- Blobs that were written for one root.
use Rattle.std.specs.Prelude.{◌≡◌, ◌≢◌, ◌⊎◌, ℕ, ◌^◌, ◌<◌, ◌≤◌, IfErr, IfOk, List, Option, None, Some, Result, length}
use Rattle.std.specs.Io.KnownBytes.{Appends}
use Rattle.b3tree.specs.declared.mode.Mode.{Mode}
use Rattle.b3tree.specs.Hashing.{hash}
use Rattle.b3tree.specs.Valid.{AreBytes}
use Rattle.bao_check.specs.Outline.{outline_claimed}
use Rattle.bao_text.specs.Choice.{chunk_count}
use Rattle.bao_windows.specs.Copies.{HaveCopies, IsOwn}
use Rattle.bao_windows.specs.declared.fault.WindowsFault.{WindowsFault}
use Rattle.bao_windows.specs.declared.wanted.Wanted.{Wanted}
use Rattle.bao_windows.specs.Windows.{fixed_for}
use Rattle.bao_windows.specs.Written.{IsExcusedWrite}
use Rattle.bao_check.specs.declared.checked.Checked.{Checked}
use Rattle.determined_texts.specs.Agreeing.{AgreeBy}
use Rattle.determined_texts.specs.Texts.{SamePiece}
use Rattle.holders.specs.Available.{HaveSlices}
use Rattle.bao_windows.specs.declared.fault.GatherFault.{GatherFault}
use Rattle.bao_windows.specs.declared.fault.GatherFault.TheVariants.{Unfinished}
use Rattle.holders.specs.declared.form.Form.{Form}
use Rattle.holders.specs.declared.form.Form.TheVariants.{Slices, Bare}
use Rattle.holders.specs.Lists.{source_gives}
use Rattle.holders.specs.Blobs.{IsBlob}

-- The two blobs that were written are different, and have one hash: a collision.
pub record WroteCollision (mode : Mode) (root : List ℕ) (old a b : Option (List ℕ)) (m n : ℕ) : Type 0 where
  pub ours : List ℕ
  pub theirs : List ℕ
  pub apart : ours ≢ theirs
  pub our_bytes : AreBytes ours
  pub their_bytes : AreBytes theirs
  pub our_hash : hash mode ours ≡ root
  pub their_hash : hash mode theirs ≡ root
  pub our_count : m ≡ length ours
  pub their_count : n ≡ length theirs
  pub our_text : Appends old a ours
  pub their_text : Appends old b theirs

-- it is one blob, with one count, or a collision was written
abbrev pub SameBlob : Mode → List ℕ → Option (List ℕ) → Option (List ℕ) → Option (List ℕ) → ℕ → ℕ → Type 0
SameBlob mode root old a b m n = ((m ≡ n) × (a ≡ b)) ⊎ WroteCollision mode root old a b m n

-- sources have a blob between them: its slices, or its bytes beside its own outboard encoding
abbrev pub HaveBlob : {S : Type 0} → Form → Wanted → (S → Option (List ℕ)) → (S → Type 0) → List S → List ℕ → Type 0
HaveBlob Slices wanted contents faultless sources blob = HaveSlices wanted.grain (source_gives contents faultless) wanted.mode blob sources
HaveBlob (Bare outline) wanted contents faultless sources blob = IsOwn wanted (Bare outline) blob × HaveCopies wanted.grain contents faultless blob sources

-- so they have one with the root, of no more chunks than the capacity
pub record IsHad {S : Type 0} (wanted : Wanted) (contents : S → Option (List ℕ)) (faultless : S → Type 0) (sources : List S) (capacity : ℕ) (blob : List ℕ) : Type 0 where
  pub is : IsBlob (fixed_for wanted) blob
  pub short : length blob < 2 ^ 64
  pub few : chunk_count (length blob) ≤ capacity
  pub had : HaveBlob wanted.form wanted contents faultless sources blob

-- two answers are one: the same was written, and no fault is one of what was gathered from
abbrev pub IsOneAnswer : Option (List ℕ) → Option (List ℕ) → Result ℕ WindowsFault → Result ℕ WindowsFault → Type 0
IsOneAnswer a b r s = IfOk r (λ m. IfOk s (λ n. (m ≡ n) × (a ≡ b))) × IfErr r IsExcusedWrite × IfErr s IsExcusedWrite

-- two answers are one length, or none; memory may run out at any time
abbrev pub SameLength : Result ℕ GatherFault → Result ℕ GatherFault → Type 0
SameLength r s = AgreeBy (λ m n. m ≡ n) (λ fault other. Unit {0}) (λ fault. fault ≢ Unfinished) (λ fault. fault ≢ Unfinished) r s

-- both found nothing, or one slice
abbrev pub SameFound : Option Checked → Option Checked → Type 0
SameFound None None = Unit {0}
SameFound (Some x) (Some y) = SamePiece x y
SameFound one other = ⊥

-- plain copies are given, beside an outboard encoding that claims this length
abbrev pub IsClaimed : Form → ℕ → Type 0
IsClaimed Slices l = ⊥
IsClaimed (Bare outline) l = outline_claimed outline.now ≡ l
