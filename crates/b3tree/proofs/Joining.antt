-- A whole subtree joins the subtrees on its left that are as large as what it ends.
use Rattle.std.proofs.Common.{◌≡◌, ℕ, suc, ◌+◌, ◌-◌, ◌*◌, ◌/◌, ◌^◌, ◌<◌, ◌≤◌, List, [], ◌∷◌, ◌++◌, length, take, drop, refl, sym, ap, subst, ◌∙◌, arith, inl, inr, pow_pos, length-append, length-drop, zero-add}
use Rattle.std.proofs.lemmas.Bool.{cases_lt}
use Rattle.std.proofs.lemmas.List.{append_assoc, drop_at, length-take-le, length_push, same_from_push, take-append-drop, take_at}
use Rattle.std.proofs.Math.Pow.{pow_mono}
use Rattle.std.proofs.Math.Nat.{mul-le-mul_left}
use Rattle.b3word.specs.Compression.{cv}
use Rattle.b3tree.specs.declared.mode.Mode.{Mode}
use Rattle.b3tree.specs.Stack.{whole_subtrees}
use Rattle.b3tree.specs.Tree.{IsLeftLen, parent_input, subtree_cv, top_input}
use Rattle.b3tree.proofs.LeftLen.{IsLeftLen_double}
use Rattle.b3tree.proofs.Subtrees.{length-whole_subtrees, whole_subtrees-append}
use Rattle.b3tree.proofs.TopInput.{top_input-parent}

-- of the whole chunks s, 2 ^ level * count in number, the value is that of the subtree over the last
-- 2 ^ level, and the stack has the subtrees before it
pub record Joins (mode : Mode) (s : List ℕ) (stack : List (List ℕ)) (value : List ℕ) (count : ℕ) : Type 0 where
  pub level : ℕ
  pub left : List ℕ
  pub right : List ℕ
  pub before : ℕ
  pub whole : s ≡ left ++ right
  pub left_len : length left ≡ 1024 * before
  pub right_len : length right ≡ 1024 * 2 ^ level
  pub number : before + 2 ^ level ≡ 2 ^ level * count
  pub bound : 2 ^ level * count < 2 ^ 54
  pub stacked : stack ≡ whole_subtrees 54 mode 0 left
  pub valued : value ≡ subtree_cv mode before right

-- the value of a whole subtree by itself
pub Joins_start : (mode : Mode) (k : ℕ) (s piece : List ℕ) (stack : List (List ℕ)) (value : List ℕ) (before : ℕ)
    → length s ≡ 1024 * (2 ^ k * before) → length piece ≡ 1024 * 2 ^ k → 2 ^ k * (before + 1) < 2 ^ 54
    → stack ≡ whole_subtrees 54 mode 0 s → value ≡ subtree_cv mode (2 ^ k * before) piece → Joins mode (s ++ piece) stack value (before + 1)
Joins_start mode k s piece stack value before ls lp fits es ev = record {
  level = k;
  left = s;
  right = piece;
  before = 2 ^ k * before;
  whole = refl;
  left_len = ls;
  right_len = lp;
  number = omega arith;
  bound = fits;
  stacked = es;
  valued = ev;
}

-- a level is below 54
level_below : (j count : ℕ) → 0 < count → 2 ^ j * count < 2 ^ 54 → j < 54
level_below j count some bound = elim (cases_lt j 54) [
  | inl lt ↦ lt
  | inr ge ↦
      let large : 2 ^ 54 ≤ 2 ^ j = pow_mono ge in
      let more : 2 ^ j * 1 ≤ 2 ^ j * count = mul-le-mul_left (2 ^ j) some in
      absurd (omega arith)
]

-- a multiple of 2 ^ (j + 1)
doubled : (j q : ℕ) → 2 ^ suc j * q ≡ 2 * (2 ^ j * q)
doubled j q =
    let twice : 2 ^ suc j ≡ 2 * 2 ^ j = omega arith in
    let out : 2 * 2 ^ j * q ≡ 2 * (2 ^ j * q) = omega arith in
    ap (λ (n : ℕ). n * q) twice ∙ out

-- two subtrees of one size side by side
pub pair_top : (mode : Mode) (j before : ℕ) (a b : List ℕ) → length a ≡ 1024 * 2 ^ j → length b ≡ 1024 * 2 ^ j
    → top_input mode before (a ++ b) ≡ parent_input mode (subtree_cv mode before a) (subtree_cv mode (before + 2 ^ j) b)
pair_top mode j before a b la lb =
    let l : ℕ = 1024 * 2 ^ j in
    let some : 0 < 2 ^ j = pow_pos j in
    let all : length (a ++ b) ≡ l + l = length-append a b ∙ (λ i. la i + lb i) in
    let is : IsLeftLen (length (a ++ b)) l = subst (λ (n : ℕ). IsLeftLen n l) (sym all) (IsLeftLen_double j) in
    let count : l / 1024 ≡ 2 ^ j = omega arith in
    top_input-parent mode before (a ++ b) l is (omega arith)
    ∙ (λ i. parent_input mode (subtree_cv mode before (take_at a b l la i)) (subtree_cv mode (before + count i) (drop_at a b l la i)))

pub pair_cv : (mode : Mode) (j before : ℕ) (a b : List ℕ) → length a ≡ 1024 * 2 ^ j → length b ≡ 1024 * 2 ^ j
    → subtree_cv mode before (a ++ b) ≡ cv (parent_input mode (subtree_cv mode before a) (subtree_cv mode (before + 2 ^ j) b))
pair_cv mode j before a b la lb = ap cv (pair_top mode j before a b la lb)

-- chunks that end with a subtree of 2 ^ j
record Apart (mode : Mode) (j q : ℕ) (left : List ℕ) : Type 0 where
  earlier : List ℕ
  last : List ℕ
  cut : earlier ++ last ≡ left
  earlier_len : length earlier ≡ 1024 * (2 ^ suc j * q)
  last_len : length last ≡ 1024 * 2 ^ j
  stacked : whole_subtrees 54 mode 0 left ≡ whole_subtrees 54 mode 0 earlier ++ subtree_cv mode (2 ^ suc j * q) last ∷ []

apart : (mode : Mode) (j q before : ℕ) (left : List ℕ) → j < 54 → length left ≡ 1024 * before → before ≡ 2 ^ suc j * q + 2 ^ j → before < 2 ^ 54
    → Apart mode j q left
apart mode j q before left low size place bound =
    let near : ℕ = 2 ^ suc j * q in
    let l : ℕ = 1024 * near in
    let fits : l ≤ length left = omega arith in
    let a : List ℕ = take l left in
    let b : List ℕ = drop l left in
    let la : length a ≡ 1024 * near = length-take-le l left fits in
    let lb : length b ≡ 1024 * 2 ^ j = omega (arith, length-drop l left) in
    let cut : a ++ b ≡ left = take-append-drop l left in
    record {
      earlier = a;
      last = b;
      cut = cut;
      earlier_len = la;
      last_len = lb;
      stacked =
          ap (whole_subtrees 54 mode 0) (sym cut)
          ∙ whole_subtrees-append 54 j mode 0 a b near q low la refl (omega arith) lb
          ∙ (λ i. whole_subtrees 54 mode 0 a ++ subtree_cv mode (zero-add near i) b ∷ []);
    }

-- where the left neighbour of the value is, at an even count
neighbour_at : (j q half before : ℕ) → half ≡ q + 1 → before + 2 ^ j ≡ 2 ^ j * (2 * half) → before ≡ 2 ^ suc j * q + 2 ^ j
neighbour_at j q half before eq number =
    let twice : 2 ^ suc j * q ≡ 2 * (2 ^ j * q) = doubled j q in
    let count : 2 ^ j * (2 * half) ≡ 2 ^ j * (2 * (q + 1)) = ap (λ (n : ℕ). 2 ^ j * (2 * n)) eq in
    let out : 2 ^ j * (2 * (q + 1)) ≡ 2 * (2 ^ j * q) + 2 * 2 ^ j = omega arith in
    omega arith

-- the neighbour of the value, at an even count
neighbour : (mode : Mode) (s : List ℕ) (stack : List (List ℕ)) (value : List ℕ) (half : ℕ) → 0 < half
    → (h : Joins mode s stack value (2 * half)) → Apart mode h.level (half - 1) h.left
neighbour mode s stack value half some h =
    apart mode h.level (half - 1) h.before h.left (level_below h.level (2 * half) (omega arith) h.bound) h.left_len
    (neighbour_at h.level (half - 1) half h.before (omega arith) h.number) (omega (arith, h.number, h.bound))

-- an even count: the stack is not empty
pub Joins_left : (mode : Mode) (s : List ℕ) (stack : List (List ℕ)) (value : List ℕ) (half : ℕ) → 0 < half
    → Joins mode s stack value (2 * half) → 0 < length stack
Joins_left mode s stack value half some h =
    let n = neighbour mode s stack value half some h in
    let size : length stack ≡ length (whole_subtrees 54 mode 0 n.earlier ++ subtree_cv mode (2 ^ suc h.level * (half - 1)) n.last ∷ []) =
    ap length (h.stacked ∙ n.stacked) in
    omega (arith, size, length_push (whole_subtrees 54 mode 0 n.earlier) (subtree_cv mode (2 ^ suc h.level * (half - 1)) n.last))

-- and ends with the neighbour, whose parent with the value takes the place of the two
pub Joins_step : (mode : Mode) (s : List ℕ) (stack rest : List (List ℕ)) (top value : List ℕ) (half : ℕ) → 0 < half
    → Joins mode s stack value (2 * half) → stack ≡ rest ++ top ∷ [] → Joins mode s rest (cv (parent_input mode top value)) half
Joins_step mode s stack rest top value half some h split =
    let j : ℕ = h.level in
    let q : ℕ = half - 1 in
    let near : ℕ = 2 ^ suc j * q in
    let eq : half ≡ q + 1 = omega arith in
    let n = neighbour mode s stack value half some h in
    let place : h.before ≡ near + 2 ^ j = neighbour_at j q half h.before eq h.number in
    let same = same_from_push rest (whole_subtrees 54 mode 0 n.earlier) top (subtree_cv mode near n.last) (sym split ∙ h.stacked ∙ n.stacked) in
    let value_at : value ≡ subtree_cv mode (near + 2 ^ j) h.right = h.valued ∙ ap (λ (n : ℕ). subtree_cv mode n h.right) place in
    let larger : 2 ^ suc j * half ≡ 2 * (2 ^ j * half) = doubled j half in
    let out : 2 ^ j * (2 * half) ≡ 2 * (2 ^ j * half) = omega arith in
    let power : 2 ^ suc j ≡ 2 * 2 ^ j = omega arith in
    record {
      level = suc j;
      left = n.earlier;
      right = n.last ++ h.right;
      before = near;
      whole = h.whole ∙ ap (λ (xs : List ℕ). xs ++ h.right) (sym n.cut) ∙ append_assoc n.earlier n.last h.right;
      left_len = n.earlier_len;
      right_len = omega (arith, length-append n.last h.right, n.last_len, h.right_len);
      number = omega (arith, h.number);
      bound = omega (arith, h.bound);
      stacked = same.0;
      valued = (λ i. cv (parent_input mode (same.1 i) (value_at i))) ∙ sym (pair_cv mode j near n.last h.right n.last_len h.right_len);
    }

-- an odd count: the value goes on the stack, where there is room
pub Joins_end : (mode : Mode) (s : List ℕ) (stack : List (List ℕ)) (value : List ℕ) (half : ℕ)
    → Joins mode s stack value (2 * half + 1) → (stack ++ value ∷ [] ≡ whole_subtrees 54 mode 0 s) × (length stack < 54)
Joins_end mode s stack value half h =
    let j : ℕ = h.level in
    let p : ℕ = 2 ^ j in
    let twice : 2 ^ suc j * half ≡ 2 * (p * half) = doubled j half in
    let out : p * (2 * half + 1) ≡ 2 * (p * half) + p = omega arith in
    let place : h.before ≡ 2 ^ suc j * half = omega (arith, h.number) in
    let low : j < 54 = level_below j (2 * half + 1) (omega arith) h.bound in
    let joined : whole_subtrees 54 mode 0 s ≡ whole_subtrees 54 mode 0 h.left ++ subtree_cv mode h.before h.right ∷ [] =
    ap (whole_subtrees 54 mode 0) h.whole
    ∙ whole_subtrees-append 54 j mode 0 h.left h.right h.before half low h.left_len place (omega (arith, h.bound, h.number)) h.right_len
    ∙ (λ i. whole_subtrees 54 mode 0 h.left ++ subtree_cv mode (zero-add h.before i) h.right ∷ []) in
    let here : stack ++ value ∷ [] ≡ whole_subtrees 54 mode 0 s = (λ i. h.stacked i ++ h.valued i ∷ []) ∙ sym joined in
    let size : length (stack ++ value ∷ []) ≡ length (whole_subtrees 54 mode 0 s) = ap length here in
    (here, omega (arith, size, length_push stack value, length-whole_subtrees 54 mode 0 s))
