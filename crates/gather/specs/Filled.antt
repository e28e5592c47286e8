-- What a worker's store is to come to: what it knows lasts, and it is filled.
use Rattle.std.specs.Prelude.{◌≡◌, ◌≢◌, ◌⊎◌, ℕ, ◌/◌, ◌%◌, ◌<◌, Bool, true, false, List, length, Option, Some}
use Rattle.bao_text.specs.Choice.{chunk_count}
use Rattle.gather.specs.Claims.{Among}
use Rattle.holders.specs.declared.piece.Piece.{Piece}
use Rattle.store_core.specs.Masks.{has_bit, in_mask}
use Rattle.holders.specs.Pieces.{length_of}
use Rattle.holders.specs.declared.form.Form.{Form}
use Rattle.holders.specs.Forms.{IsLengthOf}

-- the chunk is a wanted one of the group
abbrev pub IsWanted : ℕ → ℕ → ℕ → Type 0
IsWanted group want c = (c / 64 ≡ group) × (has_bit want (c % 64) ≡ true)

-- claims stay
abbrev pub Keeps : (ℕ → Bool) → (ℕ → Bool) → Type 0
Keeps old new = (c : ℕ) → old c ≡ true → new c ≡ true

-- but those of a mask
abbrev pub KeepsBut : ℕ → ℕ → (ℕ → Bool) → (ℕ → Bool) → Type 0
KeepsBut group mask old new = (c : ℕ) → old c ≡ true → in_mask group mask c ≡ false → new c ≡ true

-- What a seat knows lasts: a recorded length, a chunk and a parent that are held, and that a chunk was claimed. One that was claimed
-- from a later time on was so from an earlier one on, or it is held, where the seat claims nothing more than it did.
pub record Lasts {S : Type 0} (gained : (Piece → Type 0) → S → S → ℕ → ℕ → Type 0) (claims : S → ℕ → Bool) (records holds has_parent : S → ℕ → Type 0) (busy : S → S → ℕ → Type 0) : Type 1 where
  pub length : (handed : Piece → Type 0) (s t : S) (n q l : ℕ) → gained handed s t n q → records s l → records t l
  pub chunk : (handed : Piece → Type 0) (s t : S) (n q c : ℕ) → gained handed s t n q → holds s c → holds t c
  pub parent : (handed : Piece → Type 0) (s t : S) (n q m : ℕ) → gained handed s t n q → has_parent s m → has_parent t m
  pub frees : (handed : Piece → Type 0) (s t u : S) (n q c : ℕ) → gained handed s t n q → Among (claims s) (claims t) → busy t u c → busy s u c ⊎ holds t c
  pub later : (handed : Piece → Type 0) (s t u : S) (n q c : ℕ) → gained handed t u n q → busy s t c → busy s u c

-- the piece claims another length than the recorded one, if there is one
abbrev pub IsOfOtherLength : {S : Type 0} → (S → ℕ → Type 0) → S → Piece → Type 0
IsOfOtherLength records seat piece = (l : ℕ) → records seat l → l ≢ length_of piece

-- The length is recorded, and if it is the blob's, each chunk of the blob is held, or was claimed by somebody.
pub record IsFilled {S : Type 0} (records holds : S → ℕ → Type 0) (busy : S → S → ℕ → Type 0) (old new : S) (blob : List ℕ) : Type 0 where
  pub recorded : ℕ
  pub is : records new recorded
  pub chunks : recorded ≡ length blob → (c : ℕ) → c < chunk_count (length blob) → holds new c ⊎ busy old new c

-- The length is recorded, and if it is the blob's, each parent of the blob is held: there is one for each of its chunks but the
-- first, which its right part begins with.
pub record HasAllParents {S : Type 0} (records has_parent : S → ℕ → Type 0) (seat : S) (blob : List ℕ) : Type 0 where
  pub recorded : ℕ
  pub is : records seat recorded
  pub parents : recorded ≡ length blob → (m : ℕ) → 0 < m → m < chunk_count (length blob) → has_parent seat m

-- A length is recorded, and where the form is of it, it is answered.
pub record IsAgreed {S : Type 0} (records : S → ℕ → Type 0) (form : Form) (result : Option ℕ) (seat : S) : Type 0 where
  pub recorded : ℕ
  pub is : records seat recorded
  pub told : IsLengthOf form recorded → result ≡ Some recorded
