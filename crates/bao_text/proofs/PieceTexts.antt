-- A subtree beside its parents' encoding: where it parts, and what its combined encoding is.
use Rattle.std.proofs.Common.{add-one, ◌≡◌, ℕ, suc, ◌+◌, ◌-◌, ◌*◌, ◌/◌, ◌^◌, ◌<◌, ◌≤◌, List, ◌++◌, length, take, drop, refl, ap, ◌∙◌, arith, length-drop}
use Rattle.std.proofs.lemmas.List.{append_assoc, drop_at, length-take-le, take_at}
use Rattle.std.proofs.lemmas.Slice.{take-put_mid}
use borrow.Rule.Slice.PartMut.{put_mid}
use Rattle.b3tree.specs.declared.mode.Mode.{Mode}
use Rattle.b3tree.specs.Tree.{IsLeftLen, left_len}
use Rattle.bao_text.specs.declared.choice.Choice.{Choice}
use Rattle.bao_text.specs.Choice.{of_combined, of_outboard}
use Rattle.bao_text.specs.Nodes.{subtree_size}
use Rattle.bao_text.specs.Pieces.{HasParents, HasParts, whole_text}
use Rattle.bao_text.specs.Texts.{parent_text, subtree_text}
use Rattle.bao_text.proofs.Everything.{length-parent_text, length-subtree_text, wants_all}
use Rattle.bao_text.proofs.NodeNaming.{left_levels}
use Rattle.bao_text.proofs.SubtreeText.{Parts, left_len-Parts, subtree_text-leaf, subtree_text-parent}

-- one chunk's encoding is its bytes
pub whole_text-chunk : (total : ℕ) (mode : Mode) (first : ℕ) (parents s : List ℕ) → HasParents total mode first parents s → length s ≤ 1024
    → whole_text total mode first s ≡ s
whole_text-chunk total mode first parents s h one =
    subtree_text-leaf (of_combined total) mode first s (wants_all (of_combined total) (1024 * first) (length s) refl h.start) one

pub length-whole_text : (total : ℕ) (mode : Mode) (first : ℕ) (parents s : List ℕ) → HasParents total mode first parents s
    → length (whole_text total mode first s) ≡ subtree_size (length s)
length-whole_text total mode first parents s h = length-subtree_text (length s) (of_combined total) mode first s (omega arith) refl h.start (omega (arith, h.end))

-- the left part has at most the half of twice a power of two
pub left_len-half : (n l k : ℕ) → IsLeftLen n l → n ≤ 65536 * 2 ^ (k + 1) → l ≤ 65536 * 2 ^ k
left_len-half n l k is within =
    let twice : n ≤ 65536 * 2 ^ suc k = rw add-one at within in
    let part : l ≤ 1024 * 2 ^ suc (suc (suc (suc (suc (suc k))))) = left_levels n l (suc (suc (suc (suc (suc (suc k)))))) is (omega arith) in
    omega arith

-- where the subtree parts
pub HasParents-parts : (total : ℕ) (mode : Mode) (first : ℕ) (parents s : List ℕ) → HasParents total mode first parents s → 1024 < length s
    → HasParts total mode first s (take 64 parents) (take (64 * (left_len (length s) / 1024 - 1)) (drop 64 parents)) (take (left_len (length s)) s)
    (drop (64 * (left_len (length s) / 1024 - 1)) (drop 64 parents)) (drop (left_len (length s)) s)
HasParents-parts total mode first parents s h more =
    let o : Choice = of_outboard total in
    let m : ℕ = left_len (length s) in
    let size : ℕ = 64 * (m / 1024 - 1) in
    let parts : Parts (length s) m = left_len-Parts (length s) more in
    let p : List ℕ = parent_text mode first s in
    let a : List ℕ = subtree_text o mode first (take m s) in
    let b : List ℕ = subtree_text o mode (first + m / 1024) (drop m s) in
    let near_len : length (take m s) ≡ m = length-take-le m s (omega (arith, parts.below)) in
    let far_len : length (drop m s) ≡ length s - m = length-drop m s in
    let whole : parents ≡ p ++ (a ++ b) = h.text ∙ subtree_text-parent o mode first s (wants_all o (1024 * first) (length s) refl h.start) more in
    let a_size : length a ≡ size =
    length-subtree_text (length (take m s)) o mode first (take m s) (omega arith) refl h.start (omega (arith, h.end, parts.below))
    ∙ omega (arith, near_len, parts.whole, parts.some) in
    let p_len : length p ≡ 64 = length-parent_text mode first s in
    let rest : drop 64 parents ≡ a ++ b = ap (drop 64) whole ∙ drop_at p (a ++ b) 64 p_len in
    record {
      right_first = first + m / 1024;
      near = record { start = h.start; end = omega (arith, h.end, parts.below); text = ap (take size) rest ∙ take_at a b size a_size };
      far = record {
        start = omega (arith, h.end, parts.whole, parts.below);
        end = omega (arith, h.end, parts.whole, parts.below);
        text = ap (drop size) rest ∙ drop_at a b size a_size;
      };
      text = rw (whole, take_at p (a ++ b) 64 p_len) (subtree_text-parent (of_combined total) mode first s (wants_all (of_combined total) (1024 * first) (length s) refl h.start) more);
    }

-- a parent that is put after the first bytes of the room, and the encodings of its parts after it
pub HasParts-put : (total : ℕ) (mode : Mode) (first : ℕ) (s parent left_parents left right_parents right : List ℕ) (lead : ℕ) (room put : List ℕ)
    → (parts : HasParts total mode first s parent left_parents left right_parents right) → put ≡ parent → length parent ≡ 64 → lead + 64 ≤ length room
    → (take (lead + 64) (put_mid lead (lead + 64 - lead) room put) ++ whole_text total mode first left) ++ whole_text total mode parts.right_first right
    ≡ take lead room ++ whole_text total mode first s
HasParts-put total mode first s parent left_parents left right_parents right lead room put parts is size fits =
    let front = take-put_mid lead (lead + 64 - lead) room put (lead + 64) (omega (arith, ap length is)) (omega arith) in
    rw (front, is, parts.text) (simp append_assoc)
