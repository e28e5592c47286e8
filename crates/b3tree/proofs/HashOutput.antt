-- The hash is the first 32 bytes of the output stream.
use Rattle.std.proofs.Common.{◌≡◌, ℕ, zero, suc, ◌-◌, ◌*◌, List, [], ◌∷◌, length, take, refl, ap, ◌∙◌, arith, inl, inr}
use Rattle.std.proofs.lemmas.Bool.{cases_lt}
use Rattle.b3word.specs.declared.input.Input.{Input}
use Rattle.b3word.specs.Compression.{out}
use Rattle.b3tree.specs.declared.mode.Mode.{Mode}
use Rattle.b3tree.specs.Bytes.{bytes_of}
use Rattle.b3tree.specs.Chunk.{block_count, chunk_input}
use Rattle.b3tree.specs.Hashing.{hash, output, output_block, root_hash, rooted, stream}
use Rattle.b3tree.specs.Tree.{left_len, top_input}
use Rattle.b3tree.proofs.LeftLen.{left_len-IsLeftLen}
use Rattle.b3tree.proofs.OutputBlocks.{output-block}
use Rattle.b3tree.proofs.TopInput.{top_input-chunk, top_input-parent}

pub length-bytes_of : (ws : List ℕ) → length (bytes_of ws) ≡ 4 * length ws
length-bytes_of [] = refl
length-bytes_of (w ∷ ws) = let h : length (bytes_of ws) ≡ 4 * length ws = length-bytes_of ws in omega arith

pub length-out : (x : Input) → length (out x) ≡ 16
unfolding out
length-out x = refl

t-chunk_input : (mode : Mode) (i : ℕ) (s : List ℕ) (k : ℕ) → (chunk_input mode i s k).t ≡ i
unfolding chunk_input
t-chunk_input mode i s zero = refl
t-chunk_input mode i s (suc k) = refl

-- the root of a tree has the counter 0
t-top_input : (mode : Mode) (s : List ℕ) → (top_input mode 0 s).t ≡ 0
t-top_input mode s = elim (cases_lt 1024 (length s)) [
  | inl more ↦ ap (λ (x : Input). x.t) (top_input-parent mode 0 s (left_len (length s)) (left_len-IsLeftLen (length s) more) more)
  | inr one ↦ ap (λ (x : Input). x.t) (top_input-chunk mode 0 s one) ∙ t-chunk_input mode 0 s (block_count (length s) - 1)
]

-- so its compression is block 0 of its output
root_hash-output : (root : Input) → root.t ≡ 0 → root_hash root ≡ output root 0 32
root_hash-output root first =
    let block : length (output_block root 0) ≡ 64 = length-bytes_of (out (record root { t = 0 })) ∙ ap (λ (n : ℕ). 4 * n) (length-out (record root { t = 0 })) in
    (λ i. take 32 (bytes_of (out (record root { t = first i })))) ∙ output-block root 0 32 block (omega arith)

pub hash-stream : (mode : Mode) (s : List ℕ) → hash mode s ≡ stream mode s 0 32
unfolding hash
hash-stream mode s = root_hash-output (rooted (top_input mode 0 s)) (t-top_input mode s)
