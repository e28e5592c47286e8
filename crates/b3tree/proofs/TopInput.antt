-- `top_input` is the recursive definition: the levels that `top_within` is given do not matter.
use Rattle.std.proofs.Common.{◌≡◌, ℕ, zero, suc, ◌+◌, ◌-◌, ◌*◌, ◌/◌, ◌^◌, ◌<◌, ◌≤◌, List, length, take, drop, refl, sym, ◌∙◌, arith, inl, inr, pow_pos, length-drop}
use Rattle.std.proofs.lemmas.Bool.{cases_lt, le-leb, lt-leb}
use Rattle.std.proofs.lemmas.List.{length-take-le}
use Rattle.b3word.specs.Compression.{cv}
use Rattle.b3tree.specs.declared.mode.Mode.{Mode}
use Rattle.b3tree.specs.Chunk.{last_chunk_input}
use Rattle.b3tree.specs.Tree.{IsLeftLen, left_len, parent_input, subtree_cv, top_input, top_within}
use Rattle.b3tree.proofs.LeftLen.{left_len-IsLeftLen, IsLeftLen_power, IsLeftLen_unique}

-- whole chunks on the left, at least one
pub IsLeftLen_chunks : (n l : ℕ) → IsLeftLen n l → (1024 * (l / 1024) ≡ l) × (1024 ≤ l)
IsLeftLen_chunks n l h =
    let some : 0 < 2 ^ h.form.0 = pow_pos h.form.0 in
    let e : l ≡ 1024 * 2 ^ h.form.0 = h.form.1 in
    (omega arith, omega arith)

top_within-chunk : (levels : ℕ) (mode : Mode) (first : ℕ) (s : List ℕ) → length s ≤ 1024
    → top_within levels mode first s ≡ last_chunk_input mode first s
unfolding top_within
top_within-chunk zero mode first s h = refl
top_within-chunk (suc levels) mode first s h = rw (le-leb _ _ h) refl

top_within-parent : (levels : ℕ) (mode : Mode) (first : ℕ) (s : List ℕ) → 1024 < length s
    → top_within (suc levels) mode first s
    ≡ parent_input mode (cv (top_within levels mode first (take (left_len (length s)) s)))
    (cv (top_within levels mode (first + left_len (length s) / 1024) (drop (left_len (length s)) s)))
unfolding top_within
top_within-parent levels mode first s h = rw (lt-leb _ _ h) refl

-- enough levels are as good as more
top_within-levels : (f g : ℕ) (mode : Mode) (first : ℕ) (s : List ℕ) → length s ≤ 1024 * f + 1024 → length s ≤ 1024 * g + 1024
    → top_within f mode first s ≡ top_within g mode first s
top_within-levels zero g mode first s hf hg =
    top_within-chunk 0 mode first s (omega arith) ∙ sym (top_within-chunk g mode first s (omega arith))
top_within-levels (suc f) zero mode first s hf hg =
    top_within-chunk (suc f) mode first s (omega arith) ∙ sym (top_within-chunk 0 mode first s (omega arith))
top_within-levels (suc f) (suc g) mode first s hf hg = elim (cases_lt 1024 (length s)) [
  | inl more ↦
      let l : ℕ = left_len (length s) in
      let is : IsLeftLen (length s) l = left_len-IsLeftLen (length s) more in
      let whole : 1024 * (l / 1024) ≡ l = (IsLeftLen_chunks (length s) l is).0 in
      let some : 1024 ≤ l = (IsLeftLen_chunks (length s) l is).1 in
      let below : l < length s = is.below in
      let left_size : length (take l s) ≡ l = length-take-le l s (omega arith) in
      let right_size : length (drop l s) ≡ length s - l = length-drop l s in
      let left : top_within f mode first (take l s) ≡ top_within g mode first (take l s) =
      top_within-levels f g mode first (take l s) (omega arith) (omega arith) in
      let right : top_within f mode (first + l / 1024) (drop l s) ≡ top_within g mode (first + l / 1024) (drop l s) =
      top_within-levels f g mode (first + l / 1024) (drop l s) (omega arith) (omega arith) in
      top_within-parent f mode first s more
      ∙ (λ i. parent_input mode (cv (left i)) (cv (right i)))
      ∙ sym (top_within-parent g mode first s more)
  | inr one ↦ top_within-chunk (suc f) mode first s one ∙ sym (top_within-chunk (suc g) mode first s one)
]

pub top_input-chunk : (mode : Mode) (first : ℕ) (s : List ℕ) → length s ≤ 1024 → top_input mode first s ≡ last_chunk_input mode first s
unfolding top_input
top_input-chunk mode first s h = top_within-chunk (length s / 1024) mode first s h

-- any number of levels that is enough
top_input-levels : (levels : ℕ) (mode : Mode) (first : ℕ) (s : List ℕ) → length s ≤ 1024 * levels + 1024
    → top_within levels mode first s ≡ top_input mode first s
unfolding top_input
top_input-levels levels mode first s h = top_within-levels levels (length s / 1024) mode first s h (omega arith)

pub top_input-parent : (mode : Mode) (first : ℕ) (s : List ℕ) (l : ℕ) → IsLeftLen (length s) l → 1024 < length s
    → top_input mode first s ≡ parent_input mode (subtree_cv mode first (take l s)) (subtree_cv mode (first + l / 1024) (drop l s))
top_input-parent mode first s l is more =
    let same : left_len (length s) ≡ l = IsLeftLen_unique (length s) (left_len (length s)) l (left_len-IsLeftLen (length s) more) is in
    let n : ℕ = length s / 1024 in
    let whole : 1024 * (l / 1024) ≡ l = (IsLeftLen_chunks (length s) l is).0 in
    let some : 1024 ≤ l = (IsLeftLen_chunks (length s) l is).1 in
    let below : l < length s = is.below in
    let left_size : length (take l s) ≡ l = length-take-le l s (omega arith) in
    let right_size : length (drop l s) ≡ length s - l = length-drop l s in
    let left : top_within n mode first (take l s) ≡ top_input mode first (take l s) =
    top_input-levels n mode first (take l s) (omega arith) in
    let right : top_within n mode (first + l / 1024) (drop l s) ≡ top_input mode (first + l / 1024) (drop l s) =
    top_input-levels n mode (first + l / 1024) (drop l s) (omega arith) in
    sym (top_input-levels (suc n) mode first s (omega arith))
    ∙ top_within-parent n mode first s more
    ∙ (λ i. parent_input mode (cv (top_within n mode first (take (same i) s))) (cv (top_within n mode (first + same i / 1024) (drop (same i) s))))
    ∙ (λ i. parent_input mode (cv (left i)) (cv (right i)))

-- two chunks, and three or four
pub top_input-two : (mode : Mode) (first : ℕ) (s : List ℕ) → 1024 < length s → length s ≤ 2048
    → top_input mode first s ≡ parent_input mode (subtree_cv mode first (take 1024 s)) (subtree_cv mode (first + 1) (drop 1024 s))
top_input-two mode first s more most = top_input-parent mode first s 1024 (IsLeftLen_power 0 (length s) more most) more

pub top_input-four : (mode : Mode) (first : ℕ) (s : List ℕ) → 2048 < length s → length s ≤ 4096
    → top_input mode first s ≡ parent_input mode (subtree_cv mode first (take 2048 s)) (subtree_cv mode (first + 2) (drop 2048 s))
top_input-four mode first s more most = top_input-parent mode first s 2048 (IsLeftLen_power 1 (length s) more most) (omega arith)
