-- The flags of the tree tell a first block from a later one, and a block from a parent.
use Rattle.std.proofs.Common.{◌≡◌, ℕ, zero, suc, ◌+◌, ◌%◌, ◌==◌, List, length, true, false, Bool, if◌then◌else◌, ap, ◌∙◌, arith, bit_or}
use Rattle.std.proofs.lemmas.Bool.{ne_eqb}
use Rattle.std.proofs.lemmas.Nat.{or_mod}
use Rattle.std.specs.Int.Bits.{or_zero_l, or_zero_r}
use Rattle.b3word.specs.declared.input.Input.{Input}
use Rattle.b3tree.specs.declared.mode.Mode.{Mode}
use Rattle.b3tree.specs.Chunk.{block_count, block_flags, chunk_input}
use Rattle.b3tree.specs.Hashing.{rooted}
use Rattle.b3tree.specs.Modes.{mode_flags}
use Rattle.b3tree.specs.Tree.{parent_input}

-- what an input's flags are without those of the mode and ROOT
abbrev pub low : Input → ℕ
low x = x.d % 8

pub rooted_low : (x : Input) → low (rooted x) ≡ low x
rooted_low x = or_mod x.d 8 3 ∙ or_zero_r (x.d % 8)

-- a mode's flags and others
mode_low : (mode : Mode) → mode_flags mode % 8 ≡ 0
mode_low mode = omega (arith, mode.apart)

flags_low : (mode : Mode) (flag : ℕ) → bit_or (mode_flags mode) flag % 8 ≡ flag % 8
flags_low mode flag = or_mod (mode_flags mode) flag 3 ∙ ap (λ (n : ℕ). bit_or n (flag % 8)) (mode_low mode) ∙ or_zero_l (flag % 8)

pub parent_low : (mode : Mode) (near far : List ℕ) → low (parent_input mode near far) ≡ 4
parent_low mode near far = flags_low mode 4

-- the flags of block k of n
abbrev pub block_low : ℕ → ℕ → ℕ
block_low n k = bit_or ((if k == 0 then 1 else 0) % 8) ((if k + 1 == n then 2 else 0) % 8)

block_flags_low : (mode : Mode) (n k : ℕ) → block_flags mode n k % 8 ≡ block_low n k
block_flags_low mode n k =
    let start : ℕ = if k == 0 then 1 else 0 in
    let end : ℕ = if k + 1 == n then 2 else 0 in
    or_mod (bit_or (mode_flags mode) start) end 3 ∙ ap (λ (j : ℕ). bit_or j (end % 8)) (flags_low mode start)

pub chunk_input_low : (mode : Mode) (i : ℕ) (s : List ℕ) (k : ℕ) → low (chunk_input mode i s k) ≡ block_low (block_count (length s)) k
unfolding chunk_input
chunk_input_low mode i s zero = block_flags_low mode (block_count (length s)) 0
chunk_input_low mode i s (suc k) = block_flags_low mode (block_count (length s)) (suc k)

-- only a first block has CHUNK_START
start_differs : (a b : Bool) → bit_or (1 % 8) ((if a then 2 else 0) % 8) ≡ bit_or (0 % 8) ((if b then 2 else 0) % 8) → ⊥
start_differs true true e = omega arith
start_differs true false e = omega arith
start_differs false true e = omega arith
start_differs false false e = omega arith

pub first_alone : (n m k : ℕ) → block_low n 0 ≡ block_low m (suc k) → ⊥
first_alone n m k e =
    let later : (suc k == 0) ≡ false = ne_eqb (suc k) 0 (λ none. omega arith) in
    start_differs (0 + 1 == n) (suc k + 1 == m) (e ∙ ap (λ (b : Bool). bit_or ((if b then 1 else 0) % 8) ((if suc k + 1 == m then 2 else 0) % 8)) later)

-- no block has PARENT
below_four : (a b : Bool) → bit_or ((if a then 1 else 0) % 8) ((if b then 2 else 0) % 8) ≡ 4 → ⊥
below_four true true e = omega arith
below_four true false e = omega arith
below_four false true e = omega arith
below_four false false e = omega arith

pub not_parent : (n k : ℕ) → block_low n k ≡ 4 → ⊥
not_parent n k e = below_four (k == 0) (k + 1 == n) e
