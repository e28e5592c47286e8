-- A chaining value binds its chunk: other bytes, or another number, exhibit a collision.
use Rattle.std.proofs.Common.{◌≡◌, ◌⊎◌, ℕ, zero, suc, ◌-◌, ◌*◌, ◌<◌, List, ◌++◌, length, take, drop, false, sym, ◌∙◌, arith, inl, inr}
use Rattle.std.specs.Prelude.{Bool}
use Rattle.b3word.specs.declared.input.Input.{Input}
use Rattle.b3word.specs.Compression.{cv}
use Rattle.b3tree.specs.declared.mode.Mode.{Mode}
use Rattle.b3tree.specs.Chunk.{block, block_count, chunk_input, last_chunk_input}
use Rattle.b3tree.specs.Valid.{AreBytes}
use Rattle.b3tree.proofs.BlockWords.{AreBytes-drop, AreBytes-take, block_words_same}
use Rattle.b3tree.proofs.ChunkInputs.{chunk_input_b, chunk_input_h, chunk_input_m, chunk_input_t, length-block, take_blocks, take_whole}
use Rattle.b3tree.proofs.InputFlags.{chunk_input_low, first_alone}
use Rattle.bao_check.specs.Inputs.{marked, whole_chunk}
use Rattle.bao_check.proofs.Marked.{SameParts, same_parts}
use Rattle.bao_check.proofs.Naming.{Named, earlier_there, last_there, same_or_named}

-- blocks of inputs that are equal but for ROOT
pub same_block : (mode : Mode) (i j : ℕ) (s t : List ℕ) (k l : ℕ) → AreBytes s → AreBytes t → SameParts (chunk_input mode i s k) (chunk_input mode j t l) → block s k ≡ block t l
same_block mode i j s t k l hs ht same =
    block_words_same (block s k) (block t l)
    (sym (chunk_input_b mode i s k) ∙ same.b ∙ chunk_input_b mode j t l)
    (length-block s k)
    (AreBytes-take 64 (drop (64 * k) s) (AreBytes-drop (64 * k) s hs))
    (AreBytes-take 64 (drop (64 * l) t) (AreBytes-drop (64 * l) t ht))
    (sym (chunk_input_m mode i s k) ∙ same.m ∙ chunk_input_m mode j t l)

pub same_start : (mode : Mode) (i j : ℕ) (s t : List ℕ) (k : ℕ) → SameParts (chunk_input mode i s 0) (chunk_input mode j t (suc k)) → ⊥
same_start mode i j s t k same = grind (arith, first_alone, chunk_input_low)

-- from a block back to the first
blocks_bind : (top : Bool) (mode : Mode) (i j : ℕ) (s t : List ℕ) (k l : ℕ) → AreBytes s → AreBytes t → k < block_count (length s) → l < block_count (length t)
    → SameParts (chunk_input mode i s k) (chunk_input mode j t l)
    → (take (64 * suc k) s ≡ take (64 * suc l) t) ⊎ Named (whole_chunk top mode i s) (whole_chunk top mode j t)
blocks_bind top mode i j s t zero zero hs ht ks lt same =
    inl (take_blocks s 0 ∙ same_block mode i j s t 0 0 hs ht same ∙ sym (take_blocks t 0))
blocks_bind top mode i j s t zero (suc l) hs ht ks lt same = absurd (same_start mode i j s t l same)
blocks_bind top mode i j s t (suc k) zero hs ht ks lt same = search (arith, same_start)
blocks_bind top mode i j s t (suc k) (suc l) hs ht ks lt same =
    let values : cv (chunk_input mode i s k) ≡ cv (chunk_input mode j t l) = sym (chunk_input_h mode i s k) ∙ same.h ∙ chunk_input_h mode j t l in
    elim (same_or_named (whole_chunk top mode i s) (whole_chunk top mode j t) (chunk_input mode i s k) (chunk_input mode j t l) (earlier_there top mode i s k ks) (earlier_there top mode j t l lt) values) [
      | inr named ↦ inr named
      | inl equal ↦
          elim (blocks_bind top mode i j s t k l hs ht (omega arith) (omega arith) (same_parts false (chunk_input mode i s k) (chunk_input mode j t l) equal)) [
            | inr named ↦ inr named
            | inl before ↦
                let here : block s (suc k) ≡ block t (suc l) = same_block mode i j s t (suc k) (suc l) hs ht same in
                inl (take_blocks s (suc k) ∙ (λ n. before n ++ here n) ∙ sym (take_blocks t (suc l)))
          ]
    ]

-- two chunks with one chaining value
pub chunk_binds : (top : Bool) (mode : Mode) (i j : ℕ) (s t : List ℕ) → AreBytes s → AreBytes t
    → cv (marked top (last_chunk_input mode i s)) ≡ cv (marked top (last_chunk_input mode j t))
    → ((i ≡ j) × (s ≡ t)) ⊎ Named (whole_chunk top mode i s) (whole_chunk top mode j t)
chunk_binds top mode i j s t hs ht values =
    let k : ℕ = block_count (length s) - 1 in
    let l : ℕ = block_count (length t) - 1 in
    let x : Input = chunk_input mode i s k in
    let y : Input = chunk_input mode j t l in
    elim (same_or_named (whole_chunk top mode i s) (whole_chunk top mode j t) (marked top x) (marked top y) (last_there top mode i s) (last_there top mode j t) values) [
      | inr named ↦ inr named
      | inl equal ↦
          let same : SameParts x y = same_parts top x y equal in
          elim (blocks_bind top mode i j s t k l hs ht (omega arith) (omega arith) same) [
            | inr named ↦ inr named
            | inl whole ↦ inl (sym (chunk_input_t mode i s k) ∙ same.t ∙ chunk_input_t mode j t l, sym (take_whole s) ∙ whole ∙ take_whole t)
          ]
    ]
