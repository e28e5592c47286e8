-- From the walk of a piece's chunk that isn't the blob's to what the audit says.
use Rattle.std.proofs.Common.{◌≡◌, ℕ, ◌+◌, ◌-◌, ◌*◌, ◌^◌, ◌≤◌, List, length, take, drop, Some, Option, true, refl, sym, ap, subst, ◌∙◌, arith, inl, inr}
use Rattle.std.specs.Prelude.{Contains, is_some}
use Rattle.std.proofs.lemmas.Bool.{cases_lt}
use Rattle.b3word.specs.declared.input.Input.{Input}
use Rattle.b3word.specs.Compression.{cv}
use Rattle.b3tree.specs.declared.mode.Mode.{Mode}
use Rattle.b3tree.specs.Bytes.{words_of}
use Rattle.b3tree.specs.Hashing.{hash, rooted}
use Rattle.b3tree.specs.Tree.{top_input}
use Rattle.b3tree.specs.Valid.{IsKeyed}
use Rattle.b3tree.proofs.Ranges.{words_of-hash}
use Rattle.bao_text.specs.Choice.{chunk_count}
use Rattle.bao_check.specs.declared.checked.Checked.{Checked}
use Rattle.bao_check.specs.Checked.{piece_claimed, piece_len, piece_mode, piece_places, piece_root, piece_start, piece_text}
use Rattle.bao_check.specs.Inputs.{blob_inputs, text_inputs}
use Rattle.bao_check.specs.Parents.{parent_in}
use Rattle.bao_check.specs.Pieces.{chunk_in}
use Rattle.bao_check.proofs.Binding.{chunk_of-there}
use Rattle.bao_check.proofs.Certified.{IsCertified, certified}
use Rattle.bao_check.proofs.SubtreeInputs.{blob_inputs-subtree}
use Rattle.bao_check.proofs.Ways.{way_whole}
use Rattle.bao_bind.specs.declared.pair.Pair.{Pair}
use Rattle.bao_bind.specs.Search.{Finds, TreeHasChunk, part_inputs}
use Rattle.bao_bind.specs.Verdict.{AgreesWith, IsOurs}
use Rattle.bao_bind.proofs.CollidingPairs.{Finds-within}
use Rattle.bao_bind.proofs.Walks.{Searches, part_subtree, searches_same}

module _ (blob : List ℕ) (piece : Checked) (number : ℕ) (bytes : List ℕ) (there : chunk_in (piece_text piece) (piece_places piece) number ≡ Some bytes) where
  certificate : IsCertified (piece_mode piece) (piece_root piece) (piece_text piece) (piece_places piece) (piece_claimed piece) number bytes
  certificate = certified (piece_mode piece) (piece_root piece) (piece_text piece) (piece_start piece) (piece_len piece) piece.accepted number bytes there

  -- the chunk's size and place
  pub chunk_size : length bytes ≤ 1024
  chunk_size = certificate.size

  pub chunk_range : piece_claimed piece ≤ 2 ^ 64 - 1 → 1024 * number + length bytes ≤ 2 ^ 64 - 1
  chunk_range fits = elim (cases_lt (number + 1) (chunk_count (piece_claimed piece))) [
    | inl before ↦ omega (arith, before, certificate.size, fits)
    | inr last ↦ let end : 1024 * number + length bytes ≡ piece_claimed piece = certificate.ends (omega (arith, last, certificate.within)) in omega (arith, end, fits)
  ]

  -- a chunk that the walk ends in is the blob's
  ours_from_chunk : TreeHasChunk 0 blob 0 (piece_claimed piece) number bytes → IsOurs blob (piece_claimed piece) number bytes
  ours_from_chunk h =
      let at_is : h.at ≡ number = omega (arith, h.number_is) in (
        chunk_of-there blob number (omega (arith, h.there)) ∙ ap Some (ap (λ (n : ℕ). take 1024 (drop (1024 * n) blob)) (sym at_is) ∙ h.bytes_are),
        λ end.
            let claimed_is : 1024 * number + length bytes ≡ piece_claimed piece = certificate.ends end in
            let length_is : 1024 * h.at + length bytes ≡ length blob = h.last (omega (arith, end)) in
            omega (arith, at_is),
      )

  -- where it isn't, the two don't agree
  pub disagrees : (IsOurs blob (piece_claimed piece) number bytes → ⊥) → AgreesWith blob piece → ⊥
  disagrees apart agrees =
      apart (
        agrees.chunks number bytes there,
        λ end.
            let last : number ≡ chunk_count (piece_claimed piece) - 1 = omega (arith, end) in
            let some : is_some (chunk_in (piece_text piece) (piece_places piece) number) ≡ true = ap is_some there in
            agrees.tail (subst (λ (n : ℕ). is_some (chunk_in (piece_text piece) (piece_places piece) n) ≡ true) last some),
      )

  -- and the walk finds a collision
  pub audit_finds : (r : Option Pair) (mode : Mode) (n : ℕ) → mode ≡ piece_mode piece → n ≡ piece_claimed piece → IsKeyed mode → hash (piece_mode piece) blob ≡ piece_root piece
      → (IsOurs blob (piece_claimed piece) number bytes → ⊥)
      → ((theirs : List Input) (value : List ℕ) → Searches (parent_in (piece_text piece) (piece_places piece)) theirs mode true value number bytes r 0 blob 0 n)
      → Finds (blob_inputs (piece_mode piece) blob) (text_inputs (piece_mode piece) (piece_text piece) (piece_places piece)) ⊥ r
  audit_finds r used n used_is n_is keyed is apart search =
      let mode : Mode = piece_mode piece in
      let theirs : List Input = text_inputs mode (piece_text piece) (piece_places piece) in
      let value : List ℕ = words_of 8 (piece_root piece) in
      let top : cv (rooted (top_input mode 0 blob)) ≡ value = sym (words_of-hash mode blob (subst IsKeyed used_is keyed)) ∙ ap (words_of 8) is in
      let found : Finds (part_inputs true mode 0 blob) theirs (TreeHasChunk 0 blob 0 (piece_claimed piece) number bytes) r =
      searches_same (parent_in (piece_text piece) (piece_places piece)) theirs mode true value number bytes r 0 0 blob blob 0 0 n (piece_claimed piece)
      refl refl refl n_is
      (subst (λ (m : Mode). Searches (parent_in (piece_text piece) (piece_places piece)) theirs m true value number bytes r 0 blob 0 n) used_is (search theirs value))
      (way_whole mode (piece_root piece) (piece_text piece) (piece_start piece) (piece_len piece) number bytes piece.accepted there) top in
      let inputs_are : part_inputs true mode 0 blob ≡ blob_inputs mode blob = sym (part_subtree true mode 0 blob) ∙ sym (blob_inputs-subtree mode blob) in
      Finds-within (part_inputs true mode 0 blob) theirs (blob_inputs mode blob) theirs (TreeHasChunk 0 blob 0 (piece_claimed piece) number bytes) ⊥ r
      (λ x h. subst (λ (xs : List Input). Contains xs x) inputs_are h) (λ y h. h) (λ h. apart (ours_from_chunk h)) found
