-- From comparing the parents of a piece with a blob's to what the audit of them says.
use Rattle.std.proofs.Common.{◌≡◌, ℕ, List, [], ◌∷◌, None, Some, Option, length, true, false, refl, sym, ap, subst, ◌∙◌, arith, inl, inr}
use Rattle.std.specs.Prelude.{Contains, ◌==◌}
use Rattle.std.proofs.lemmas.Bool.{cases_Bool, eqb-true}
use Rattle.std.proofs.lemmas.List.{take_all}
use Rattle.b3word.specs.declared.input.Input.{Input}
use Rattle.b3tree.specs.declared.mode.Mode.{Mode}
use Rattle.b3tree.specs.Bytes.{words_of}
use Rattle.b3tree.specs.Hashing.{hash}
use Rattle.b3tree.specs.Valid.{AreBytes, IsKeyed}
use Rattle.b3tree.proofs.Ranges.{words_of-hash}
use Rattle.bao_text.specs.declared.choice.Choice.{Choice}
use Rattle.bao_text.specs.Choice.{of_slice}
use Rattle.bao_text.specs.NodeNames.{boundary}
use Rattle.bao_text.specs.Nodes.{TreeNode, chosen_nodes}
use Rattle.bao_text.specs.Texts.{node_text}
use Rattle.bao_check.specs.declared.checked.Checked.{Checked}
use Rattle.bao_check.specs.Checked.{piece_claimed, piece_len, piece_mode, piece_nodes, piece_places, piece_root, piece_start, piece_text}
use Rattle.bao_check.specs.Inputs.{blob_inputs, text_inputs}
use Rattle.bao_check.specs.Parents.{is_parent_at, parent_in, parent_of}
use Rattle.bao_check.proofs.BlobNodes.{parent_of-boundary, parent_of-node}
use Rattle.bao_check.proofs.Forks.{part_whole}
use Rattle.bao_check.proofs.Lists.{Contains-head, Contains-tail}
use Rattle.bao_check.proofs.NodeBinding.{node_there}
use Rattle.bao_check.proofs.SubtreeInputs.{blob_inputs-subtree}
use Rattle.bao_bind.specs.declared.pair.Pair.{Pair}
use Rattle.bao_bind.specs.Apart.{AreOurs, HasParentsOver}
use Rattle.bao_bind.specs.Search.{FindsOnly, part_inputs}
use Rattle.bao_bind.specs.Verdict.{HasParentsOf}
use Rattle.bao_bind.proofs.Comparing.{FindsOnly-within, Told}
use Rattle.bao_bind.proofs.Walks.{part_subtree}

-- the place of a parent that an encoding has
record HasPlace (places : List (ℕ × TreeNode)) (m : ℕ) : Type 0 where
  place : ℕ × TreeNode
  there : Contains places place
  is_parent : is_parent_at m place.1 ≡ true

place_of : (text : List ℕ) (places : List (ℕ × TreeNode)) (m : ℕ) (bytes : List ℕ) → parent_in text places m ≡ Some bytes → HasPlace places m
place_of text [] m bytes there = let none : None ≡ Some bytes = there in cc
place_of text (place ∷ places) m bytes there = elim (cases_Bool (is_parent_at m place.1)) [
  | inl hit ↦ record { place = place; there = Contains-head places place; is_parent = hit }
  | inr miss ↦
      let w : HasPlace places m = place_of text places m bytes (rw miss at there) in
      record { place = w.place; there = Contains-tail places place w.place w.there; is_parent = w.is_parent }
]

is_parent_of : (m : ℕ) (node : TreeNode) → is_parent_at m node ≡ true → (node.is_chunk ≡ false) × (boundary node ≡ m)
is_parent_of m node is = elim (cases_Bool node.is_chunk) [
  | inl chunk ↦ let bad : false ≡ true = rw chunk at is in cc
  | inr parent ↦ let hit : (boundary node == m) ≡ true = rw parent at is in (parent, eqb-true (boundary node) m hit)
]

module _ (blob : List ℕ) (piece : Checked) (claims : piece_claimed piece ≡ length blob) where
  abbrev mode : Mode
  mode = piece_mode piece

  abbrev parents : ℕ → Option (List ℕ)
  parents = parent_in (piece_text piece) (piece_places piece)

  abbrev theirs : List Input
  theirs = text_inputs (piece_mode piece) (piece_text piece) (piece_places piece)

  abbrev choice : Choice
  choice = of_slice (piece_claimed piece) (piece_start piece) (piece_len piece)

  -- a node of the piece is one of the blob's tree
  of_blob : (node : TreeNode) → Contains (piece_nodes piece) node → Contains (chosen_nodes choice (length blob)) node
  of_blob node there = subst (λ (n : ℕ). Contains (chosen_nodes choice n) node) claims there

  from_ours : AreOurs parents mode blob (piece_nodes piece) → HasParentsOf blob piece
  from_ours all = λ m bytes there.
      let w : HasPlace (piece_places piece) m = place_of (piece_text piece) (piece_places piece) m bytes there in
      let node : TreeNode = w.place.1 in
      let at : (node.is_chunk ≡ false) × (boundary node ≡ m) = is_parent_of m node w.is_parent in
      let member : Contains (piece_nodes piece) node = node_there 8 (piece_nodes piece) w.place w.there in
      let is : bytes ≡ node_text mode blob node = all node bytes member at.0 (ap parents at.1 ∙ there) in
      parent_of-node mode blob choice m node (of_blob node member) w.is_parent ∙ ap Some (sym is)

  to_ours : HasParentsOf blob piece → AreOurs parents mode blob (piece_nodes piece)
  to_ours has = λ node bytes there parent known.
      let own : parent_of mode blob (boundary node) ≡ Some (node_text mode blob node) = parent_of-boundary mode blob choice node (of_blob node there) parent in
      let e : Some bytes ≡ Some (node_text mode blob node) = sym (has (boundary node) bytes known) ∙ own in cc

  abbrev over_blob : IsKeyed mode → AreBytes (piece_text piece) → hash mode blob ≡ piece_root piece → HasParentsOver parents theirs mode true blob 0 blob
  over_blob keyed valid is = record {
    text = piece_text piece;
    places = piece_places piece;
    choice = choice;
    n = piece_claimed piece;
    bytes = valid;
    size = sym claims;
    ours = sym (take_all (piece_claimed piece) blob (omega (arith, claims)));
    parents_are = λ m. refl;
    inputs_are = λ x h. h;
    value = words_of 8 (piece_root piece);
    value_is = sym (words_of-hash mode blob keyed) ∙ ap (words_of 8) is;
    part = part_whole mode (piece_root piece) (piece_text piece) (piece_start piece) (piece_len piece) piece.accepted;
  }

  -- what comparing all parents found
  pub audited : (r : Option Pair) (used : Mode) → used ≡ piece_mode piece → IsKeyed used → AreBytes (piece_text piece) → hash (piece_mode piece) blob ≡ piece_root piece
      → Told parents used true r 0 blob
      → FindsOnly (blob_inputs (piece_mode piece) blob) (text_inputs (piece_mode piece) (piece_text piece) (piece_places piece)) (HasParentsOf blob piece) r
  audited r used used_is keyed valid is told =
      let own : Told parents mode true r 0 blob = subst (λ (m : Mode). Told parents m true r 0 blob) used_is told in
      let inputs_are : part_inputs true mode 0 blob ≡ blob_inputs mode blob = sym (part_subtree true mode 0 blob) ∙ sym (blob_inputs-subtree mode blob) in
      FindsOnly-within (part_inputs true mode 0 blob) theirs (blob_inputs mode blob) theirs (AreOurs parents mode blob (piece_nodes piece)) (HasParentsOf blob piece) r
      (λ x h. subst (λ (xs : List Input). Contains xs x) inputs_are h) (λ y h. h) from_ours to_ours
      (own blob theirs (over_blob (subst IsKeyed used_is keyed) valid is))
