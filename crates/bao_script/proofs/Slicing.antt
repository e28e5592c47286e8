-- Slices and pieces, one more at a time.
use Rattle.std.proofs.Common.{◌≡◌, ◌∙◌, ℕ, ◌+◌, ◌<◌, zero, suc, List, [], ◌∷◌, ◌++◌, length, take, drop, get_or, ap, sym, subst, refl, arith}
use Rattle.std.proofs.lemmas.List.{take_more, take-append-drop}
use Rattle.std.proofs.Math.Seq.{drop-cons}
use Rattle.b3tree.specs.declared.mode.Mode.{Mode}
use Rattle.bao_check.specs.declared.checked.Checked.{Checked}
use Rattle.bao_check.specs.declared.fault.CheckFault.{CheckFault}
use Rattle.bao_check.specs.Accepted.{slice_nodes}
use Rattle.bao_check.specs.Faults.{IsFirstFault}
use Rattle.bao_script.specs.declared.numbered.NumberedLine.{NumberedLine}
use Rattle.bao_script.specs.Forms.{NamesFile}
use Rattle.bao_script.specs.Slices.{ArePieces, IsPieceOf, IsRefusedSlice, NameFiles, Slice}

pub names_at : (files : ℕ) (lines : List NumberedLine) (i : ℕ) (d : NumberedLine) → NameFiles files lines → i < length lines → NamesFile files (get_or lines i d).line
names_at files [] i d h below = absurd (omega arith)
names_at files (line ∷ lines) zero d h below = h.0
names_at files (line ∷ lines) (suc i) d h below = names_at files lines i d h.1 (omega arith)

pieces-append : (mode : Mode) (root : List ℕ) (slices : List Slice) (slice : Slice) (pieces : List Checked) (piece : Checked)
    → ArePieces mode root slices pieces → IsPieceOf mode root slice piece → ArePieces mode root (slices ++ slice ∷ []) (pieces ++ piece ∷ [])
pieces-append mode root [] slice pieces piece are is =
    let P : List Checked → Type 0 = λ all. ArePieces mode root (slice ∷ []) (all ++ piece ∷ []) in subst P (sym are) (piece, [], refl, is, refl)
pieces-append mode root (first ∷ slices) slice pieces piece (head, rest, pieces_are, head_is, others) is =
    (head, rest ++ piece ∷ [], ap (λ all. all ++ piece ∷ []) pieces_are, head_is, pieces-append mode root slices slice rest piece others is)

pub piece_more : (mode : Mode) (root : List ℕ) (slices : List Slice) (i : ℕ) (d : Slice) (old new : List Checked) (piece : Checked) → i < length slices → d ≡ get_or slices i d
    → ArePieces mode root (take i slices) old → IsPieceOf mode root d piece → new ≡ old ++ piece ∷ []
    → ArePieces mode root (take (i + 1) slices) new
piece_more mode root slices i d old new piece below item are is new_is =
    let P : Slice → Type 0 = λ slice. IsPieceOf mode root slice piece in
    let Q : List Checked → Type 0 = ArePieces mode root (take (i + 1) slices) in
    let R : List Slice → Type 0 = λ all. ArePieces mode root all (old ++ piece ∷ []) in
    subst Q (sym new_is)
    (subst R (sym (take_more slices i d below)) (pieces-append mode root (take i slices) (get_or slices i d) old piece are (subst P item is)))

pub refused_at : (mode : Mode) (root : List ℕ) (slices : List Slice) (i : ℕ) (d : Slice) (pieces : List Checked) (number : ℕ) (fault : CheckFault) → i < length slices
    → d ≡ get_or slices i d → ArePieces mode root (take i slices) pieces → number ≡ d.number
    → IsFirstFault mode root d.text (slice_nodes d.text d.start d.len) fault → IsRefusedSlice mode root slices number fault
refused_at mode root slices i d pieces number fault below item are number_is first = record {
  before = take i slices;
  slice = d;
  after = drop (suc i) slices;
  slices_are =
      sym (take-append-drop i slices)
      ∙ ap (λ rest. take i slices ++ rest) (drop-cons slices i d below ∙ ap (λ slice. slice ∷ drop (suc i) slices) (sym item));
  pieces = pieces;
  accepted = are;
  number_is = sym number_is;
  first = first;
}
