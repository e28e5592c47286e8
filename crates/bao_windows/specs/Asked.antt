-- What a source gives that is asked for a range.
use Rattle.std.specs.Prelude.{◌≡◌, ℕ, ◌<◌, ◌^◌, List, Option, None, IfSome}
use Rattle.b3tree.specs.declared.mode.Mode.{Mode}
use Rattle.b3tree.specs.Valid.{AreBytes}
use Rattle.bao_check.specs.Accepted.{IsAccepted}
use Rattle.bao_check.specs.declared.checked.Checked.{Checked}
use Rattle.bao_check.specs.Checked.{piece_mode, piece_nodes, piece_root, piece_text}
use Rattle.bao_check.specs.Outline.{outline_claimed, outline_mode, outline_root}
use Rattle.holders.specs.declared.form.Form.{Form}
use Rattle.holders.specs.declared.form.Form.TheVariants.{Slices, Bare}
use Rattle.holders.specs.declared.piece.Piece.{Piece}
use Rattle.holders.specs.Pieces.{nodes_of, piece_of}
use Rattle.bao_windows.specs.declared.wanted.Wanted.{Wanted}
use Rattle.bao_windows.specs.Available.{gives_in, slice_in, span_in}

-- in which mode and under which root it is checked: those that are wanted, or the outline's
abbrev pub mode_in : Form → Wanted → Mode
mode_in Slices wanted = wanted.mode
mode_in (Bare outline) wanted = outline_mode outline.now

abbrev pub root_in : Form → Wanted → List ℕ
root_in Slices wanted = wanted.root.0
root_in (Bare outline) wanted = outline_root outline.now

-- the slice that it makes
abbrev pub made_in : Form → ℕ → ℕ → List ℕ → Piece
made_in form at span text = slice_in form at (span_in form at span) text

-- the length that an outline claims is a number of 64 bits
abbrev pub ClaimsLess : Form → Type 0
ClaimsLess Slices = Unit {0}
ClaimsLess (Bare outline) = outline_claimed outline.now < 2 ^ 64

-- a slice is accepted there
abbrev pub IsAcceptedIn : Wanted → Piece → Type 0
IsAcceptedIn wanted piece = IsAccepted (mode_in wanted.form wanted) (root_in wanted.form wanted) piece.text (nodes_of piece)

-- a checked piece's encoding is of bytes, and accepted under this root in this mode
pub record IsSound (piece : Checked) (mode : Mode) (root : List ℕ) : Type 0 where
  pub mode_is : piece_mode piece ≡ mode
  pub root_is : piece_root piece ≡ root
  pub bytes : AreBytes (piece_text piece)
  pub accepted : IsAccepted (piece_mode piece) (piece_root piece) (piece_text piece) (piece_nodes piece)

-- What a source was asked for is found: the piece is the slice that what it gave makes, which is accepted. Or it isn't accepted, and nothing is found.
pub record IsAnswer {S : Type 0} (contents : S → Option (List ℕ)) (faultless : S → Type 0) (wanted : Wanted) (source : S) (at span : ℕ) (found : Option Checked) : Type 0 where
  pub less : ClaimsLess wanted.form
  pub text : List ℕ
  pub bytes : AreBytes text
  pub given : gives_in wanted.form contents faultless source at (span_in wanted.form at span) text
  pub some : IfSome found (λ piece. (piece_of 0 piece ≡ made_in wanted.form at span text) × IsSound piece (mode_in wanted.form wanted) (root_in wanted.form wanted))
  pub none : found ≡ None → IsAcceptedIn wanted (made_in wanted.form at span text) → ⊥
