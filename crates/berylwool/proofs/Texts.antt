-- Texts that a check accepted or refused, as C is told of them.
use Rattle.std.proofs.Common.{◌≡◌, ℕ, List, subst, sym}
use Rattle.b3tree.specs.declared.mode.Mode.{Mode}
use Rattle.b3tree.specs.declared.values.Hash.{Hash}
use Rattle.b3word.specs.declared.input.Input.{Input}
use Rattle.bao_bind.specs.declared.verdict.Verdict.{Verdict}
use Rattle.bao_bind.specs.declared.verdict.Verdict.TheVariants.{Collision}
use Rattle.bao_bind.specs.Verdict.{Says}
use Rattle.bao_check.specs.declared.checked.Checked.{Checked}
use Rattle.bao_check.specs.declared.fault.CheckFault.{CheckFault}
use Rattle.bao_check.specs.Checked.{IsPiece}
use Rattle.bao_check.specs.Faults.{IsFirstFault}
use Rattle.bao_text.specs.Nodes.{TreeNode}
use Rattle.holders.specs.declared.fixed.Fixed.{Fixed}
use Rattle.holders.specs.Pieces.{piece_of}
use Rattle.berylwool.specs.Calls.{slice_piece}
use Rattle.berylwool.specs.Pairs.{IsAudit}
use Rattle.berylwool.specs.Status.{IsRefused, IsStatusOf}

-- the first fault in the mode that C named
pub refused : (of mode : Mode) (root text : List ℕ) (nodes : List TreeNode) (fault : CheckFault) (status at : ℕ)
    → of ≡ mode → IsStatusOf fault status at → IsFirstFault of root text nodes fault → IsRefused mode root text nodes status at
refused of mode root text nodes fault status at is told first = subst (λ (m : Mode). IsRefused m root text nodes status at) is (fault, told, first)

-- and in a store's, under its root
pub refused_there : (fixed : Fixed) (mode : Mode) (root : Hash) (text : List ℕ) (nodes : List TreeNode) (fault : CheckFault) (status at : ℕ)
    → mode ≡ fixed.mode → root ≡ fixed.root → IsStatusOf fault status at → IsFirstFault mode root.0 text nodes fault → IsRefused fixed.mode fixed.root.0 text nodes status at
refused_there fixed mode root text nodes fault status at is_mode is_root told first =
    subst (λ (r : Hash). IsRefused fixed.mode r.0 text nodes status at) is_root (refused mode fixed.mode root.0 text nodes fault status at is_mode told first)

-- what an audit says, in the mode that C named
pub audited : (of mode : Mode) (root : List ℕ) (start len : ℕ) (text blob : List ℕ) (piece : Checked) (told verdict : Verdict)
    → of ≡ mode → told ≡ verdict → IsPiece piece of root start len text → Says blob piece told → IsAudit (record { mode = mode; root = root; start = start; len = len }) text blob verdict
audited of mode root start len text blob piece told verdict is is_told of_piece says =
    subst (λ (m : Mode). IsAudit (record { mode = m; root = root; start = start; len = len }) text blob verdict) is (piece, of_piece, subst (Says blob piece) is_told says)

-- a collision's inputs are those that are shown
pub collided : (first second ours theirs : Input) → ours ≡ first → theirs ≡ second → Collision first second ≡ Collision ours theirs
collided first second ours theirs is_first is_second = λ i. Collision (sym is_first i) (sym is_second i)

-- the piece that an accepted encoding is, by what C named
pub piece_is : (base : ℕ) (piece : Checked) (mode : Mode) (root : List ℕ) (start len : ℕ) (text : List ℕ) → IsPiece piece mode root start len text → piece_of base piece ≡ slice_piece base text start len
piece_is base piece mode root start len text of = λ i. record { base = base; start = of.start_is i; len = of.len_is i; text = of.text_is i }
