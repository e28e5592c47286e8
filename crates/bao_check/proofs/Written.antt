-- What is written is accepted.
use Rattle.std.proofs.Common.{◌≡◌, ◌⊎◌, ℕ, ◌+◌, ◌-◌, ◌*◌, ◌/◌, ◌^◌, ◌<◌, ◌≤◌, max, List, length, take, drop, true, refl, sym, subst, ◌∙◌, arith, inl, inr, length-drop}
use Rattle.std.proofs.lemmas.List.{drop_at, length-take-le, take_all, take_at}
use Rattle.std.proofs.lemmas.Nat.{from_le_bytes-to_le_bytes_8}
use Rattle.b3word.specs.Compression.{cv}
use Rattle.b3word.proofs.Ranges.{length-cv}
use Rattle.b3tree.specs.declared.mode.Mode.{Mode}
use Rattle.b3tree.specs.Hashing.{hash, rooted}
use Rattle.b3tree.specs.Tree.{left_len, subtree_cv, top_input}
use Rattle.b3tree.specs.Valid.{IsKeyed}
use Rattle.b3tree.proofs.LeftLen.{left_len-IsLeftLen}
use Rattle.b3tree.proofs.Ranges.{top_input-IsInput, words_of-cv, words_of-hash}
use Rattle.b3tree.proofs.TopInput.{top_input-chunk, top_input-parent}
use Rattle.bao_text.specs.declared.choice.Choice.{Choice}
use Rattle.bao_text.specs.Choice.{of_combined, of_slice, slice_end, slice_start, wants}
use Rattle.bao_text.specs.Cut.{claimed}
use Rattle.bao_text.specs.Nodes.{Side, chosen_nodes, left, nodes, right}
use Rattle.bao_text.specs.Texts.{chosen_text, combined_text, length_text, node_text, outboard_text, parent_text, slice_text}
use Rattle.bao_text.proofs.Everything.{length-parent_text}
use Rattle.bao_text.proofs.Laws.{chosen_text-nodes}
use Rattle.b3tree.proofs.HashOutput.{length-bytes_of}
use Rattle.bao_text.proofs.SubtreeText.{Parts, left_len-Parts}
use Rattle.bao_text.proofs.TextNodes.{length-span, span, span-left, span-right}
use Rattle.bao_check.specs.declared.asked.Asked.{Asked}
use Rattle.bao_check.specs.Accepted.{IsAccepted, outboard_nodes, part_value, slice_nodes}
use Rattle.bao_check.specs.Walk.{Meets, asked_root}
use Rattle.bao_check.proofs.NodesAsEncoding.{IsChunkMade, IsParentMade, made_accepted}
use Rattle.bao_text.proofs.Halves.{Far, Near}

-- the values in a parent's encoding
pub near_value : (mode : Mode) (first : ℕ) (s : List ℕ) → IsKeyed mode → 1024 < length s → 1024 * first + length s < 2 ^ 64
    → part_value left (parent_text mode first s) ≡ subtree_cv mode first (take (left_len (length s)) s)
unfolding part_value
near_value mode first s keyed more fits = grind (arith, left_len-Parts, length-take-le, length-bytes_of, length-cv, take_at, words_of-cv, top_input-IsInput)

pub far_value : (mode : Mode) (first : ℕ) (s : List ℕ) → IsKeyed mode → 1024 < length s → 1024 * first + length s < 2 ^ 64
    → part_value right (parent_text mode first s) ≡ subtree_cv mode (first + left_len (length s) / 1024) (drop (left_len (length s)) s)
unfolding part_value
far_value mode first s keyed more fits = grind (arith, left_len-Parts, length-drop, length-bytes_of, length-cv, drop_at, words_of-cv, top_input-IsInput)

module _ (choice : Choice) (mode : Mode) (blob : List ℕ) (keyed : IsKeyed mode) (bound : length blob < 2 ^ 64) where
  -- the subtree is of the blob, and has the value asked for
  abbrev IsOfBlob : Asked → ℕ → ℕ → List Side → ℕ → Type 0
  IsOfBlob asked number n sides source = (1024 * number + n ≤ length blob) × Meets asked (top_input mode number (span blob number n))

  chunk_written : (asked : Asked) (number n : ℕ) (sides : List Side) (source : ℕ) → IsOfBlob asked number n sides source → wants choice (1024 * number) n ≡ true → n ≤ 1024 → choice.chunks ≡ true
      → IsChunkMade (span blob number n) asked mode number n ⊎ ⊥
  chunk_written asked number n sides source is wanted one kept = search (arith, length-span, top_input-chunk)

  parent_written : (asked : Asked) (number n : ℕ) (sides : List Side) (source : ℕ) → IsOfBlob asked number n sides source → wants choice (1024 * number) n ≡ true → 1024 < n → Parts n (left_len n)
      → IsParentMade (parent_text mode number (span blob number n)) asked mode (λ a. Near (IsOfBlob a) number n sides source) (λ a. Far (IsOfBlob a) number n sides source) ⊎ ⊥
  parent_written asked number n sides source is wanted more parts =
      search (arith, length-span, left_len-Parts, near_value, far_value, span-left, span-right, top_input-parent, left_len-IsLeftLen, length-parent_text)

  -- the encoding of a blob for a choice is accepted under the blob's hash
  pub written_accepted : IsAccepted mode (hash mode blob) (chosen_text choice mode blob) (chosen_nodes choice (length blob))
  written_accepted =
      let whole : span blob 0 (length blob) ≡ blob = take_all (length blob) blob (omega arith) in
      let meets : Meets (asked_root (hash mode blob)) (top_input mode 0 (span blob 0 (length blob))) =
      (λ i. cv (rooted (top_input mode 0 (whole i)))) ∙ sym (words_of-hash mode blob keyed) in
      elim (made_accepted (node_text mode blob) choice mode (chosen_text choice mode blob) ⊥ IsOfBlob chunk_written parent_written (hash mode blob) (length_text (length blob)) (length blob)
      refl (chosen_text-nodes choice mode blob) (omega arith, meets)) [ inl accepted ↦ accepted | inr none ↦ absurd none ]

-- it claims the blob's length
pub claimed-chosen_text : (choice : Choice) (mode : Mode) (blob : List ℕ) → length blob < 2 ^ 64 → claimed (chosen_text choice mode blob) ≡ length blob
claimed-chosen_text choice mode blob bound = grind (arith, take_at, from_le_bytes-to_le_bytes_8)

pub slice_accepted : (mode : Mode) (blob : List ℕ) (start len : ℕ) → IsKeyed mode → length blob < 2 ^ 64
    → IsAccepted mode (hash mode blob) (slice_text mode blob start len) (slice_nodes (slice_text mode blob start len) start len)
slice_accepted mode blob start len keyed bound = search (arith, claimed-chosen_text, written_accepted)

pub outboard_accepted : (mode : Mode) (blob : List ℕ) → IsKeyed mode → length blob < 2 ^ 64
    → IsAccepted mode (hash mode blob) (outboard_text mode blob) (outboard_nodes (outboard_text mode blob))
outboard_accepted mode blob keyed bound = search (arith, claimed-chosen_text, written_accepted)

pub combined_accepted : (mode : Mode) (blob : List ℕ) → IsKeyed mode → length blob < 2 ^ 64
    → IsAccepted mode (hash mode blob) (combined_text mode blob) (slice_nodes (combined_text mode blob) 0 (2 ^ 64 - 1))
combined_accepted mode blob keyed bound =
    let n : ℕ = length blob in
    let first : slice_start n 0 ≡ 0 = omega arith in
    let last : slice_end n 0 (2 ^ 64 - 1) ≡ max n 1 = omega arith in
    let all : of_combined n ≡ of_slice n 0 (2 ^ 64 - 1) = λ i. record { start = sym first i; end = sym last i; chunks = true } in
    subst (λ (total : ℕ). IsAccepted mode (hash mode blob) (combined_text mode blob) (nodes total 0 (2 ^ 64 - 1)))
    (sym (claimed-chosen_text (of_combined n) mode blob bound))
    (subst (λ (choice : Choice). IsAccepted mode (hash mode blob) (combined_text mode blob) (chosen_nodes choice n)) all
    (written_accepted (of_combined n) mode blob keyed bound))
