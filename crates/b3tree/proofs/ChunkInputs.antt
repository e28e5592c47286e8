-- What a chunk's inputs are made of, and that its blocks are the chunk.
use Rattle.std.proofs.Common.{◌≡◌, ℕ, zero, suc, ◌+◌, ◌-◌, ◌*◌, ◌≤◌, List, ◌++◌, length, take, drop, refl, ap, ◌∙◌, arith}
use Rattle.std.proofs.lemmas.List.{length-take, take_all}
use Rattle.std.proofs.Math.Seq.{take-add}
use Rattle.b3word.specs.Compression.{cv}
use Rattle.b3tree.specs.declared.mode.Mode.{Mode}
use Rattle.b3tree.specs.Chunk.{block, block_count, block_words, chunk_input}

-- the parts of a chunk's input
pub chunk_input_m : (mode : Mode) (i : ℕ) (s : List ℕ) (k : ℕ) → (chunk_input mode i s k).m ≡ block_words (block s k)
unfolding chunk_input
chunk_input_m mode i s zero = refl
chunk_input_m mode i s (suc k) = refl

pub chunk_input_t : (mode : Mode) (i : ℕ) (s : List ℕ) (k : ℕ) → (chunk_input mode i s k).t ≡ i
unfolding chunk_input
chunk_input_t mode i s zero = refl
chunk_input_t mode i s (suc k) = refl

pub chunk_input_b : (mode : Mode) (i : ℕ) (s : List ℕ) (k : ℕ) → (chunk_input mode i s k).b ≡ length (block s k)
unfolding chunk_input
chunk_input_b mode i s zero = refl
chunk_input_b mode i s (suc k) = refl

pub chunk_input_h : (mode : Mode) (i : ℕ) (s : List ℕ) (k : ℕ) → (chunk_input mode i s (suc k)).h ≡ cv (chunk_input mode i s k)
unfolding chunk_input
chunk_input_h mode i s k = refl

pub length-block : (s : List ℕ) (k : ℕ) → length (block s k) ≤ 64
length-block s k = let size = length-take 64 (drop (64 * k) s) in omega (arith, size)

-- one block more
pub take_blocks : (s : List ℕ) (k : ℕ) → take (64 * suc k) s ≡ take (64 * k) s ++ block s k
take_blocks s k = let e : 64 * suc k ≡ 64 * k + 64 = omega arith in ap (λ (n : ℕ). take n s) e ∙ take-add (64 * k) 64 s

-- all blocks are the chunk
pub take_whole : (s : List ℕ) → take (64 * suc (block_count (length s) - 1)) s ≡ s
take_whole s = take_all (64 * suc (block_count (length s) - 1)) s (omega arith)
