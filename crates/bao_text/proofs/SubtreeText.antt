-- The encoding of a subtree is the recursive definition: the levels that it is given do not matter.
use Rattle.std.proofs.Common.{◌≡◌, ℕ, zero, suc, ◌+◌, ◌-◌, ◌*◌, ◌/◌, ◌<◌, ◌≤◌, max, List, [], ◌++◌, length, take, drop, if◌then◌else◌, true, false, refl, sym, ◌∙◌, arith, inl, inr, length-drop}
use Rattle.std.proofs.lemmas.Bool.{and_from, cases_lt, le-leb, lt-leb, lt-ltb}
use Rattle.std.proofs.lemmas.List.{length-take-le}
use Rattle.b3tree.specs.declared.mode.Mode.{Mode}
use Rattle.b3tree.specs.Tree.{IsLeftLen, left_len}
use Rattle.b3tree.proofs.LeftLen.{left_len-IsLeftLen}
use Rattle.b3tree.proofs.TopInput.{IsLeftLen_chunks}
use Rattle.bao_text.specs.declared.choice.Choice.{Choice}
use Rattle.bao_text.specs.Choice.{wants}
use Rattle.bao_text.specs.Texts.{chunk_text, parent_text, subtree_text, text_within}

-- where a subtree of more than one chunk parts: whole chunks on the left, and bytes on both sides
pub record Parts (n l : ℕ) : Type 0 where
  pub whole : 1024 * (l / 1024) ≡ l
  pub some : 1024 ≤ l
  pub below : l < n

pub left_len-Parts : (n : ℕ) → 1024 < n → Parts n (left_len n)
left_len-Parts n more =
    let is : IsLeftLen n (left_len n) = left_len-IsLeftLen n more in
    record { whole = (IsLeftLen_chunks n (left_len n) is).0; some = (IsLeftLen_chunks n (left_len n) is).1; below = is.below }

-- A recursion along a tree, of so many levels of parents: a chunk gives `leaf`, a parent joins what its parts give.
module _ (A B : Type 0) (size : A → ℕ) (near far : A → A) (leaf : A → B) (join : A → B → B → B) (at : ℕ → A → B)
    (fewer : (k : ℕ) (x : A) → 1024 < size x → size x ≤ 1024 * suc k + 1024 → (size (near x) ≤ 1024 * k + 1024) × (size (far x) ≤ 1024 * k + 1024))
    (small : (k : ℕ) (x : A) → size x ≤ 1024 → at k x ≡ leaf x)
    (large : (k : ℕ) (x : A) → 1024 < size x → at (suc k) x ≡ join x (at k (near x)) (at k (far x))) where
  -- enough levels are as good as more
  same_levels : (f g : ℕ) (x : A) → size x ≤ 1024 * f + 1024 → size x ≤ 1024 * g + 1024 → at f x ≡ at g x
  same_levels zero g x hf hg = small 0 x (omega arith) ∙ sym (small g x (omega arith))
  same_levels (suc f) zero x hf hg = small (suc f) x (omega arith) ∙ sym (small 0 x (omega arith))
  same_levels (suc f) (suc g) x hf hg = elim (cases_lt 1024 (size x)) [
    | inr one ↦ small (suc f) x one ∙ sym (small (suc g) x one)
    | inl more ↦
        let a = fewer f x more hf in
        let b = fewer g x more hg in
        large f x more ∙ (λ i. join x (same_levels f g (near x) a.0 b.0 i) (same_levels f g (far x) a.1 b.1 i)) ∙ sym (large g x more)
  ]

  -- so a parent joins what its parts give, each of as many levels as it has
  pub of_parts : (x : A) → 1024 < size x → at (size x / 1024) x ≡ join x (at (size (near x) / 1024) (near x)) (at (size (far x) / 1024) (far x))
  of_parts x more =
      let k : ℕ = size x / 1024 in
      let enough = fewer k x more (omega arith) in
      same_levels k (suc k) x (omega arith) (omega arith)
      ∙ large k x more
      ∙ (λ i. join x (same_levels k (size (near x) / 1024) (near x) enough.0 (omega arith) i) (same_levels k (size (far x) / 1024) (far x) enough.1 (omega arith) i))

-- what begins among the wanted positions is wanted
pub wants_from : (choice : Choice) (at n : ℕ) → choice.start ≤ at → at < choice.end → wants choice at n ≡ true
wants_from choice at n start below = and_from _ _ (lt-ltb at choice.end below) (lt-ltb choice.start (at + max n 1) (omega arith))

-- one chunk needs no levels
text_within-small : (k : ℕ) (choice : Choice) (mode : Mode) (first : ℕ) (s : List ℕ) → length s ≤ 1024
    → text_within k choice mode first s ≡ (if wants choice (1024 * first) (length s) then chunk_text choice s else [])
unfolding text_within
text_within-small zero choice mode first s one = refl
text_within-small (suc k) choice mode first s one = rw (le-leb _ _ one) refl

text_within-unwanted : (k : ℕ) (choice : Choice) (mode : Mode) (first : ℕ) (s : List ℕ) → wants choice (1024 * first) (length s) ≡ false → text_within k choice mode first s ≡ []
unfolding text_within
text_within-unwanted zero choice mode first s skipped = rw skipped refl
text_within-unwanted (suc k) choice mode first s skipped = rw skipped refl

pub subtree_text-unwanted : (choice : Choice) (mode : Mode) (first : ℕ) (s : List ℕ) → wants choice (1024 * first) (length s) ≡ false → subtree_text choice mode first s ≡ []
unfolding subtree_text
subtree_text-unwanted choice mode first s skipped = text_within-unwanted (length s / 1024) choice mode first s skipped

pub subtree_text-leaf : (choice : Choice) (mode : Mode) (first : ℕ) (s : List ℕ) → wants choice (1024 * first) (length s) ≡ true → length s ≤ 1024
    → subtree_text choice mode first s ≡ chunk_text choice s
unfolding subtree_text
subtree_text-leaf choice mode first s wanted one = text_within-small (length s / 1024) choice mode first s one ∙ rw wanted refl

pub subtree_text-parent : (choice : Choice) (mode : Mode) (first : ℕ) (s : List ℕ) → wants choice (1024 * first) (length s) ≡ true → 1024 < length s
    → subtree_text choice mode first s
    ≡ parent_text mode first s
    ++ (subtree_text choice mode first (take (left_len (length s)) s)
    ++ subtree_text choice mode (first + left_len (length s) / 1024) (drop (left_len (length s)) s))
unfolding subtree_text text_within
subtree_text-parent choice mode first s wanted more =
    of_parts (ℕ × List ℕ) (List ℕ) (λ x. length x.1)
    (λ x. (x.0, take (left_len (length x.1)) x.1))
    (λ x. (x.0 + left_len (length x.1) / 1024, drop (left_len (length x.1)) x.1))
    (λ x. if wants choice (1024 * x.0) (length x.1) then chunk_text choice x.1 else [])
    (λ x a b. if wants choice (1024 * x.0) (length x.1) then parent_text mode x.0 x.1 ++ (a ++ b) else [])
    (λ k x. text_within k choice mode x.0 x.1)
    (λ k x more fits.
    let l : ℕ = left_len (length x.1) in
    let parts : Parts (length x.1) l = left_len-Parts (length x.1) more in
    (omega (arith, length-take-le l x.1 (omega (arith, parts.below)), parts.whole, parts.below), omega (arith, length-drop l x.1, parts.some)))
    (λ k x one. text_within-small k choice mode x.0 x.1 one)
    (λ k x more. rw (lt-leb _ _ more) refl)
    (first, s) more
    ∙ rw wanted refl
