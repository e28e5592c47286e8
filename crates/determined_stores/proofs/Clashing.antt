-- One piece doesn't clash with itself.
use Rattle.std.proofs.Common.{◌≡◌, ◌∙◌, ℕ, List, Some, refl, sym, ap, inl, inr}
use Rattle.b3tree.specs.Tree.{parent_input}
use Rattle.bao_text.specs.declared.walk.Node.{Node}
use Rattle.bao_text.specs.Nodes.{left, right}
use Rattle.bao_check.specs.Accepted.{part_value}
use Rattle.bao_check.specs.Inputs.{marked}
use Rattle.holders.specs.declared.fixed.Fixed.{Fixed}
use Rattle.store_core.specs.declared.history.Event.{Event}
use Rattle.holders.specs.declared.piece.Piece.{Piece}
use Rattle.store_core.specs.Laws.{IsServed, IsUsed, PiecesClash, ServedAccepted}
use Rattle.store_core.specs.Laws.IsUsed.{of_chunk, of_length, of_parent}
use Rattle.store_core.specs.Laws.PiecesClash.{of_lengths, of_parents}
use Rattle.store_core.specs.Histories.{state_after}
use Rattle.holders.specs.Pieces.{length_of, parent_bytes}
use Rattle.determined_stores.specs.OnePiece.{OnePieceIsAccepted}

same_bytes : (x y : List ℕ) → Some x ≡ Some y → x ≡ y
same_bytes x y e = cc

no_clash : (fixed : Fixed) (history : List Event) (Among : Node → Type 0) (piece : Piece) → ((other : Piece) → IsUsed fixed history Among other → other ≡ piece)
    → PiecesClash fixed history Among → ⊥
no_clash fixed history Among piece one (of_lengths c l bytes from settled among recorded differ) =
    differ (ap length_of (one from.piece (of_chunk c bytes from among refl) ∙ sym (one settled.piece (of_length l settled recorded refl))))
no_clash fixed history Among piece one (of_parents m other among used clash) =
    let same : other ≡ clash.from.piece = one other used ∙ sym (one clash.from.piece (of_parent m clash.bytes clash.from among refl)) in
    let equal : clash.bytes ≡ clash.its = same_bytes clash.bytes clash.its (sym clash.from.has ∙ ap (λ (p : Piece). parent_bytes p m) (sym same) ∙ clash.has) in
    clash.pair.differ (ap (λ (b : List ℕ). marked clash.top (parent_input fixed.mode (part_value left b) (part_value right b))) equal)

pub one_is_accepted : ServedAccepted → OnePieceIsAccepted
one_is_accepted accepts fixed history start len text piece legal is one = elim (accepts fixed history start len text legal is) [
  | inl good ↦ good
  | inr clash ↦ absurd (no_clash fixed history (IsServed (state_after history) start len) piece one clash)
]
