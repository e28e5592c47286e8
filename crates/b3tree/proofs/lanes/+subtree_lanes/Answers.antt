use Rattle.std.proofs.Common.{◌≡◌, ◌≤◌, ℕ, ◌+◌, ◌*◌, ◌/◌, List, length, sym, ap, ◌∙◌, arith}
use Rattle.std.specs.Int.{IsPowerOfTwo}
use Rattle.std.proofs.Math.Nat.{mul-le-mul_left}
use Rattle.b3word.specs.Compression.{cv}
use Rattle.b3tree.specs.declared.mode.Mode.{Mode}
use Rattle.b3tree.specs.Pieces.{piece}
use Rattle.b3tree.specs.Tree.{parent_input, subtree_cv}
use Rattle.b3tree.proofs.Pieces.{IsPowerOfTwo_half, length-piece, valued_parent}
use Rattle.b3tree.proofs.TopInput.{top_input-chunk}
use Rattle.b3tree.proofs.lanes.+subtree_lanes.Goals as goal

-- a subtree in its place ends within the bytes
subtree_fits : (at apart chunks j n : ℕ) → j ≤ 7 → at + 1024 * apart * 7 + 1024 * chunks ≤ n → at + 1024 * apart * j + 1024 * chunks ≤ n
subtree_fits at apart chunks j n h fits = let within : 1024 * apart * j ≤ 1024 * apart * 7 = mul-le-mul_left (1024 * apart) h in omega arith

pub returns-then-chunks-eq1 : goal.returns-then-chunks-eq1
returns-then-chunks-eq1 t c = λ j power h.
    let mode : Mode = c.args.mode.now in
    let number : ℕ = c.args.first + c.args.apart * j in
    let at : ℕ = c.args.at + 1024 * c.args.apart * j in
    let one : c.args.chunks ≡ 1 = omega arith in
    let fits : at + 1024 * c.args.chunks ≤ length c.args.bytes.now =
    subtree_fits c.args.at c.args.apart c.args.chunks j (length c.args.bytes.now) (omega arith) c.requires.len in
    let size : length (piece c.args.bytes.now at 1024) ≡ 1024 = length-piece c.args.bytes.now at 1024 (omega arith) in
    c.chunk_lanes.ensures j h
    ∙ sym (ap cv (top_input-chunk mode number (piece c.args.bytes.now at 1024) (omega arith)))
    ∙ ap (λ (n : ℕ). subtree_cv mode number (piece c.args.bytes.now at (1024 * n))) (sym one)

pub returns : goal.returns
returns t c = λ j power h.
    let mode : Mode = c.args.mode.now in
    let number : ℕ = c.args.first + c.args.apart * j in
    let at : ℕ = c.args.at + 1024 * c.args.apart * j in
    let s : List ℕ = c.args.bytes.now in
    let half : ℕ = c.args.chunks / 2 in
    let other : c.args.chunks ≡ 1 → ⊥ = c.if-chunks-eq1.false in
    let halved : IsPowerOfTwo half × (half + half ≡ c.args.chunks) = IsPowerOfTwo_half c.args.chunks power (omega arith) in
    let two : half + half ≡ c.args.chunks = halved.1 in
    let fits : at + 1024 * c.args.chunks ≤ length s =
    subtree_fits c.args.at c.args.apart c.args.chunks j (length s) (omega arith) c.requires.len in
    let right_number : c.args.first + half + c.args.apart * j ≡ number + half = omega arith in
    let right_at : c.args.at + 1024 * half + 1024 * c.args.apart * j ≡ at + 1024 * half = omega arith in
    c.parent_lanes.ensures j h
    ∙ (λ i. cv (parent_input mode (c.subtree_lanes-left.ensures j halved.0 h i) (c.subtree_lanes-right.ensures j halved.0 h i)))
    ∙ (λ i. cv (parent_input mode (subtree_cv mode number (piece s at (1024 * half))) (subtree_cv mode (right_number i) (piece s (right_at i) (1024 * half)))))
    ∙ valued_parent mode number s at half halved.0 (omega arith)
    ∙ ap (λ (n : ℕ). subtree_cv mode number (piece s at (1024 * n))) two
