-- What a worker asks its holders for, and how what they give is checked.
use Rattle.std.specs.Prelude.{◌≡◌, ◌↔◌, ℕ, ◌+◌, ◌-◌, ◌*◌, ◌/◌, ◌^◌, ◌<◌, max, min, List, IfOk, IsOk, Result}
use Rattle.b3tree.specs.declared.mode.Mode.{Mode}
use Rattle.bao_check.specs.declared.checked.Checked.{Checked}
use Rattle.bao_check.specs.declared.fault.CheckFault.{CheckFault}
use Rattle.bao_check.specs.Accepted.{IsAccepted, slice_nodes}
use Rattle.bao_check.specs.Bare.{bare_part}
use Rattle.bao_check.specs.Beside.{bare_len, beside_text}
use Rattle.bao_check.specs.Checked.{IsPiece}
use Rattle.bao_check.specs.Outline.{outline_claimed, outline_mode, outline_root, outline_text}
use Rattle.bao_text.specs.Choice.{chunk_count}
use Rattle.holders.specs.declared.form.Form.{Form}
use Rattle.holders.specs.declared.form.Form.TheVariants.{Slices, Bare}
use Rattle.holders.specs.declared.form.ByteRange.{ByteRange}
use Rattle.holders.specs.declared.fixed.Fixed.{Fixed}
use Rattle.holders.specs.declared.piece.Piece.{Piece}

-- a blob of the outline's length has the chunk
abbrev pub HasChunk : Form → ℕ → Type 0
HasChunk Slices c = Unit {0}
HasChunk (Bare outline) c = c < chunk_count (outline_claimed outline.now)

-- or chunks in the group
abbrev pub HasGroup : Form → ℕ → Type 0
HasGroup Slices group = Unit {0}
HasGroup (Bare outline) group = 64 * group < chunk_count (outline_claimed outline.now)

-- how many chunks so many bytes are, at least one
abbrev pub chunks_of_part : ByteRange → ℕ
chunks_of_part part = max ((part.len + 1023) / 1024) 1

-- bytes of plain copies are whole chunks of a blob of the outline's length
abbrev pub IsPart : Form → ByteRange → Type 0
IsPart Slices part = Unit {0}
IsPart (Bare outline) part =
    let total = outline_claimed outline.now in (1024 * (part.start / 1024) ≡ part.start) × (part.start < max total 1) × (part.len ≡ bare_len total part.start (bare_part (chunks_of_part part)))

-- What is asked for the length. With the claimed length L of n chunks it is (1024 * (n - 1), L - 1024 * (n - 1)) of plain
-- copies: the last chunk.
abbrev pub IsEnd : Form → ByteRange → Type 0
IsEnd Slices part = (part.start ≡ 2 ^ 64 - 1) × (part.len ≡ 1)
IsEnd (Bare outline) part =
    let total = outline_claimed outline.now in let last = chunk_count total - 1 in (part.start ≡ 1024 * last) × (part.len ≡ total - 1024 * last)

-- what is asked for a group
abbrev pub IsGroup : Form → ℕ → ByteRange → Type 0
IsGroup Slices group part = (part.start ≡ 65536 * group) × (part.len ≡ 65536)
IsGroup (Bare outline) group part = (part.start ≡ 65536 * group) × (part.len ≡ min 65536 (outline_claimed outline.now - 65536 * group))

-- or for a chunk
abbrev pub IsChunk : Form → ℕ → ByteRange → Type 0
IsChunk Slices c part = (part.start ≡ 1024 * c) × (part.len ≡ 1024)
IsChunk (Bare outline) c part = (part.start ≡ 1024 * c) × (part.len ≡ min 1024 (outline_claimed outline.now - 1024 * c))

-- the piece that is made of what was given for a part
abbrev pub IsMade : Form → ByteRange → List ℕ → Piece → Type 0
IsMade Slices part text piece = (piece.start ≡ part.start) × (piece.len ≡ part.len) × (piece.text ≡ text)
IsMade (Bare outline) part text piece =
    (piece.start ≡ part.start) × (part.len ≡ bare_len (outline_claimed outline.now) piece.start piece.len) × (piece.text ≡ beside_text (outline_text outline.now) piece.start piece.len text)

-- How many bytes the slice has that is checked for a part, and its text. What plain copies give is checked as whole chunks,
-- with the outline's parents.
abbrev pub checked_len : Form → ByteRange → ℕ
checked_len Slices part = part.len
checked_len (Bare outline) part = bare_part (chunks_of_part part)

abbrev pub checked_text : Form → ByteRange → List ℕ → List ℕ
checked_text Slices part text = text
checked_text (Bare outline) part text = beside_text (outline_text outline.now) part.start (bare_part (chunks_of_part part)) text

-- in which mode and under which root: those of the store, or of the outline
abbrev pub form_mode : Form → Fixed → Mode
form_mode Slices fixed = fixed.mode
form_mode (Bare outline) fixed = outline_mode outline.now

abbrev pub form_root : Form → Fixed → List ℕ
form_root Slices fixed = fixed.root.0
form_root (Bare outline) fixed = outline_root outline.now

-- the slice is accepted exactly where it should be
abbrev pub IsSliceCheck : Form → Fixed → ByteRange → List ℕ → Result Checked CheckFault → Type 0
IsSliceCheck form fixed part text result =
    (IsOk result ↔ IsAccepted (form_mode form fixed) (form_root form fixed) (checked_text form part text) (slice_nodes (checked_text form part text) part.start (checked_len form part)))
    × IfOk result (λ piece. IsPiece piece (form_mode form fixed) (form_root form fixed) part.start (checked_len form part) (checked_text form part text))
