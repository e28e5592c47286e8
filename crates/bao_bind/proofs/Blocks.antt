-- Blocks of two chunks whose inputs are the same but for ROOT, and the blocks before them.
use Rattle.std.proofs.Common.{◌≡◌, ◌≢◌, ◌⊎◌, ℕ, zero, suc, ◌+◌, ◌-◌, ◌*◌, ◌<◌, List, ◌++◌, length, take, Option, sym, ap, ◌∙◌, arith, inl, inr}
use Rattle.std.specs.Prelude.{Bool}
use Rattle.b3word.specs.declared.input.Input.{Input}
use Rattle.b3word.specs.Compression.{cv}
use Rattle.b3tree.specs.declared.mode.Mode.{Mode}
use Rattle.b3tree.specs.Chunk.{block, block_count, chunk_input, last_chunk_input}
use Rattle.b3tree.specs.Valid.{AreBytes}
use Rattle.b3tree.proofs.ChunkInputs.{chunk_input_h, chunk_input_t, take_blocks, take_whole}
use Rattle.bao_check.specs.Inputs.{Names, marked, whole_chunk}
use Rattle.bao_check.proofs.ChunkBinding.{same_block, same_start}
use Rattle.bao_check.proofs.Marked.{SameParts, same_parts}
use Rattle.bao_check.proofs.Naming.{earlier_there, last_there}
use Rattle.bao_bind.specs.declared.pair.Pair.{Pair}
use Rattle.bao_bind.specs.Search.{Finds}
use Rattle.bao_bind.proofs.CollidingPairs.{Finds-within, Names-by}

module _ (mode : Mode) (i j : ℕ) (s t : List ℕ) (valid_s : AreBytes s) (valid_t : AreBytes t) where
  -- the blocks' inputs are the same but for ROOT
  abbrev pub AreSame : Bool → ℕ → ℕ → Type 0
  AreSame either k l = marked either (chunk_input mode i s k) ≡ marked either (chunk_input mode j t l)

  parts_same : (either : Bool) (k l : ℕ) → AreSame either k l → SameParts (chunk_input mode i s k) (chunk_input mode j t l)
  parts_same either k l e = same_parts either (chunk_input mode i s k) (chunk_input mode j t l) e

  flipped : (either : Bool) (k l : ℕ) → AreSame either k l → SameParts (chunk_input mode j t l) (chunk_input mode i s k)
  flipped either k l e = same_parts either (chunk_input mode j t l) (chunk_input mode i s k) (sym e)

  -- both are first if one is
  pub blocks_start : (either : Bool) (k l : ℕ) → (k ≡ 0) ⊎ (l ≡ 0) → AreSame either k l → take (64 * (k + 1)) s ≡ take (64 * (l + 1)) t
  blocks_start either zero zero first e =
      take_blocks s 0 ∙ same_block mode i j s t 0 0 valid_s valid_t (parts_same either 0 0 e) ∙ sym (take_blocks t 0)
  blocks_start either zero (suc l) first e = absurd (same_start mode i j s t l (parts_same either 0 (suc l) e))
  blocks_start either (suc k) zero first e = absurd (same_start mode j i t s k (flipped either (suc k) 0 e))
  blocks_start either (suc k) (suc l) (inl none) e = absurd (omega (arith, none))
  blocks_start either (suc k) (suc l) (inr none) e = absurd (omega (arith, none))

  -- the blocks before them have one chaining value
  pub blocks_before : (either : Bool) (k l : ℕ) → 0 < k → 0 < l → AreSame either k l → cv (chunk_input mode i s (k - 1)) ≡ cv (chunk_input mode j t (l - 1))
  blocks_before either zero l some_k some_l e = absurd (omega (arith, some_k))
  blocks_before either (suc k) zero some_k some_l e = absurd (omega (arith, some_l))
  blocks_before either (suc k) (suc l) some_k some_l e =
      let k_is : suc k - 1 ≡ k = omega arith in
      let l_is : suc l - 1 ≡ l = omega arith in
      rw (k_is, l_is) (sym (chunk_input_h mode i s k) ∙ (parts_same either (suc k) (suc l) e).h ∙ chunk_input_h mode j t l)

  -- so they collide, if they differ
  pub blocks_collide : (top either : Bool) (k l : ℕ) (x y : Input) → 0 < k → 0 < l → k < block_count (length s) → l < block_count (length t) → AreSame either k l
      → x ≡ chunk_input mode i s (k - 1) → y ≡ chunk_input mode j t (l - 1) → x ≢ y → Names (whole_chunk top mode i s) (whole_chunk top mode j t) x y
  blocks_collide top either k l x y some_k some_l below_s below_t e x_is y_is differ =
      let next_k : suc (k - 1) ≡ k = omega (arith, some_k) in
      let next_l : suc (l - 1) ≡ l = omega (arith, some_l) in
      Names-by (whole_chunk top mode i s) (whole_chunk top mode j t) x y (chunk_input mode i s (k - 1)) (chunk_input mode j t (l - 1)) x_is y_is
      (earlier_there top mode i s (k - 1) (omega (arith, below_s, next_k))) (earlier_there top mode j t (l - 1) (omega (arith, below_t, next_l)))
      (blocks_before either k l some_k some_l e) (λ same. differ (x_is ∙ same ∙ sym y_is))

  -- and if not, the search goes on from there
  pub blocks_on : (top either : Bool) (k l : ℕ) (r : Option Pair) → 0 < k → 0 < l → AreSame either k l
      → Finds (whole_chunk top mode i s) (whole_chunk top mode j t) (take (64 * (k - 1 + 1)) s ≡ take (64 * (l - 1 + 1)) t) r
      → Finds (whole_chunk top mode i s) (whole_chunk top mode j t) (take (64 * (k + 1)) s ≡ take (64 * (l + 1)) t) r
  blocks_on top either k l r some_k some_l e found =
      let last_k : k - 1 + 1 ≡ k = omega (arith, some_k) in
      let last_l : l - 1 + 1 ≡ l = omega (arith, some_l) in
      let next_k : k + 1 ≡ suc k = omega arith in
      let next_l : l + 1 ≡ suc l = omega arith in
      let here : block s k ≡ block t l = same_block mode i j s t k l valid_s valid_t (parts_same either k l e) in
      Finds-within (whole_chunk top mode i s) (whole_chunk top mode j t) (whole_chunk top mode i s) (whole_chunk top mode j t)
      (take (64 * (k - 1 + 1)) s ≡ take (64 * (l - 1 + 1)) t) (take (64 * (k + 1)) s ≡ take (64 * (l + 1)) t) r (λ x h. h) (λ y h. h)
      (λ before.
      let whole : take (64 * k) s ≡ take (64 * l) t = ap (λ (n : ℕ). take (64 * n) s) (sym last_k) ∙ before ∙ ap (λ (n : ℕ). take (64 * n) t) last_l in
      ap (λ (n : ℕ). take (64 * n) s) next_k ∙ take_blocks s k ∙ (λ n. whole n ++ here n) ∙ sym (take_blocks t l) ∙ ap (λ (n : ℕ). take (64 * n) t) (sym next_l))
      found

  -- from the last blocks of the two
  pub chunks_on : (top : Bool) (r : Option Pair) → AreSame top (block_count (length s) - 1) (block_count (length t) - 1)
      → Finds (whole_chunk top mode i s) (whole_chunk top mode j t) (take (64 * (block_count (length s) - 1 + 1)) s ≡ take (64 * (block_count (length t) - 1 + 1)) t) r
      → Finds (whole_chunk top mode i s) (whole_chunk top mode j t) ((i ≡ j) × (s ≡ t)) r
  chunks_on top r e found =
      let k : ℕ = block_count (length s) - 1 in
      let l : ℕ = block_count (length t) - 1 in
      let next_k : k + 1 ≡ suc k = omega arith in
      let next_l : l + 1 ≡ suc l = omega arith in
      Finds-within (whole_chunk top mode i s) (whole_chunk top mode j t) (whole_chunk top mode i s) (whole_chunk top mode j t)
      (take (64 * (k + 1)) s ≡ take (64 * (l + 1)) t) ((i ≡ j) × (s ≡ t)) r (λ x h. h) (λ y h. h)
      (λ whole. (
        sym (chunk_input_t mode i s k) ∙ (parts_same top k l e).t ∙ chunk_input_t mode j t l,
        sym (take_whole s) ∙ ap (λ (n : ℕ). take (64 * n) s) (sym next_k) ∙ whole ∙ ap (λ (n : ℕ). take (64 * n) t) next_l ∙ take_whole t,
      ))
      found

  pub chunks_collide : (top : Bool) (x y : Input) → cv (marked top (last_chunk_input mode i s)) ≡ cv (marked top (last_chunk_input mode j t))
      → x ≡ marked top (last_chunk_input mode i s) → y ≡ marked top (last_chunk_input mode j t) → x ≢ y → Names (whole_chunk top mode i s) (whole_chunk top mode j t) x y
  chunks_collide top x y same x_is y_is differ =
      Names-by (whole_chunk top mode i s) (whole_chunk top mode j t) x y (marked top (last_chunk_input mode i s)) (marked top (last_chunk_input mode j t)) x_is y_is
      (last_there top mode i s) (last_there top mode j t) same (λ e. differ (x_is ∙ e ∙ sym y_is))
