-- The encoding of eight whole chunks is what their parents give.
use Rattle.std.proofs.Common.{◌≡◌, ℕ, ◌+◌, ◌-◌, ◌*◌, ◌/◌, ◌^◌, ◌<◌, ◌≤◌, List, ◌++◌, length, take, drop, true, refl, sym, ap, ◌∙◌, arith, inl, inr, pow_pos, length-drop}
use Rattle.std.specs.Int.{IsPowerOfTwo}
use Rattle.std.proofs.lemmas.Bool.{cases_Bool}
use Rattle.std.proofs.lemmas.List.{take_all}
use Rattle.b3tree.specs.declared.mode.Mode.{Mode}
use Rattle.b3tree.specs.Parents.{eight_parents, four_parents, parts_at, value_at}
use Rattle.b3tree.specs.Pieces.{piece}
use Rattle.b3tree.specs.Tree.{left_len, parent_input, subtree_cv, top_input}
use Rattle.b3tree.proofs.LeftLen.{IsLeftLen_power, IsLeftLen_unique, left_len-IsLeftLen}
use Rattle.b3tree.proofs.Pieces.{length-piece, piece-append}
use Rattle.b3tree.proofs.TopInput.{top_input-parent}
use Rattle.bao_text.specs.declared.choice.Choice.{Choice}
use Rattle.bao_text.specs.Choice.{wants}
use Rattle.bao_text.specs.EightText.{eight_text, four_text, pair_text, parts_text}
use Rattle.bao_text.specs.Texts.{chunk_text, subtree_text}
use Rattle.bao_text.proofs.SubtreeText.{subtree_text-leaf, wants_from}
use Rattle.bao_text.proofs.TextNodes.{length-span, span, span-left, span-right, subtree_text-halves}

-- where two parts of n chunks each meet
pub left_len-double : (n : ℕ) → IsPowerOfTwo n → left_len (1024 * (n + n)) ≡ 1024 * n
left_len-double n (k, e) =
    let some : 0 < 2 ^ k = pow_pos k in
    let form : 1024 * 2 ^ k ≡ 1024 * n = omega arith in
    IsLeftLen_unique _ _ _ (left_len-IsLeftLen (1024 * (n + n)) (omega arith)) (IsLeftLen_power k (1024 * (n + n)) (omega arith) (omega arith)) ∙ form

chunk_text-append : (choice : Choice) (x y : List ℕ) → chunk_text choice x ++ chunk_text choice y ≡ chunk_text choice (x ++ y)
chunk_text-append choice x y = elim (cases_Bool choice.chunks) [ inl there ↦ rw there refl | inr gone ↦ rw gone refl ]

-- the encoding of the n chunks that begin a chunks on
abbrev text_at : Choice → Mode → ℕ → List ℕ → ℕ → ℕ → List ℕ
text_at choice mode first s n a = subtree_text choice mode (first + a) (piece s (1024 * a) (1024 * n))

-- of bytes that are all wanted
module _ (choice : Choice) (mode : Mode) (first : ℕ) (s : List ℕ) (start : choice.start ≤ 1024 * first) (end : 1024 * first + length s ≤ choice.end) where
  text-double : (n a : ℕ) → IsPowerOfTwo n → 1024 * (a + (n + n)) ≤ length s
      → text_at choice mode first s (n + n) a ≡ parts_text (parts_at mode first s n a) ++ (text_at choice mode first s n a ++ text_at choice mode first s n (a + n))
  text-double n a power fits =
      let some : 0 < 2 ^ power.0 = pow_pos power.0 in
      let e : n ≡ 2 ^ power.0 = power.1 in
      let size : ℕ = 1024 * (n + n) in
      let wanted : wants choice (1024 * (first + a)) size ≡ true = wants_from choice (1024 * (first + a)) size (omega arith) (omega arith) in
      let text = subtree_text-halves (first + a) s a size (omega arith) (omega arith) choice mode wanted in
      let e : length (span s a size) ≡ size = length-span s a size (omega arith) in
      let l : left_len size ≡ 1024 * n = left_len-double n power in
      let back : 1024 * n / 1024 ≡ n = omega arith in
      let number : first + a + n ≡ first + (a + n) = omega arith in
      let rest : size - 1024 * n ≡ 1024 * n = omega arith in
      rw (text, e, l, span-left s a size (1024 * n) (omega arith), span-right s a size (1024 * n) (omega arith) (omega arith), back, rest, number) refl

  text-chunk : (a : ℕ) → 1024 * (a + 1) ≤ length s → text_at choice mode first s 1 a ≡ chunk_text choice (piece s (1024 * a) 1024)
  text-chunk a fits =
      let size : length (piece s (1024 * a) 1024) ≡ 1024 = length-piece s (1024 * a) 1024 (omega arith) in
      subtree_text-leaf choice mode (first + a) (piece s (1024 * a) 1024) (wants_from choice (1024 * (first + a)) _ (omega arith) (omega arith)) (omega arith)

  text-pair : (a at : ℕ) → at ≡ 1024 * a → 1024 * (a + 2) ≤ length s → text_at choice mode first s 2 a ≡ pair_text choice (parts_at mode first s 1 a) s at
  text-pair a at place fits =
      let next : 1024 * (a + 1) ≡ 1024 * a + 1024 = omega arith in
      let both : piece s (1024 * a) 1024 ++ piece s (1024 * (a + 1)) 1024 ≡ piece s at 2048 = rw (place, next) (sym (piece-append s (1024 * a) 1024 1024)) in
      text-double 1 a (0, refl) (omega arith)
      ∙ (λ i. parts_text (parts_at mode first s 1 a) ++ (text-chunk a (omega arith) i ++ text-chunk (a + 1) (omega arith) i))
      ∙ ap (λ (xs : List ℕ). parts_text (parts_at mode first s 1 a) ++ xs) (chunk_text-append choice _ _ ∙ ap (chunk_text choice) both)

  text-four : (a at : ℕ) → at ≡ 1024 * a → 1024 * (a + 4) ≤ length s → text_at choice mode first s 4 a ≡ four_text choice (four_parents mode first s a) s at
  text-four a at place fits =
      text-double 2 a (1, refl) (omega arith)
      ∙ (λ i. parts_text (parts_at mode first s 2 a) ++ (text-pair a at place (omega arith) i ++ text-pair (a + 2) (at + 2048) (omega arith) (omega arith) i))

  -- the encoding of all eight
  pub text-eight : length s ≡ 8192 → eight_text choice (eight_parents mode first s) s ≡ subtree_text choice mode first s
  text-eight size =
      let whole : piece s 0 8192 ≡ s = take_all 8192 s (omega arith) in
      let number : first ≡ first + 0 = omega arith in
      sym ((λ i. subtree_text choice mode (number i) (sym whole i))
      ∙ text-double 4 0 (2, refl) (omega arith)
      ∙ (λ i. parts_text (parts_at mode first s 4 0) ++ (text-four 0 0 refl (omega arith) i ++ text-four 4 4096 refl (omega arith) i)))

-- and their last compression
pub top-eight : (mode : Mode) (first : ℕ) (s : List ℕ) → length s ≡ 8192
    → parent_input mode (value_at mode first s 4 0) (value_at mode first s 4 4) ≡ top_input mode first s
top-eight mode first s size =
    let rest : piece s 4096 4096 ≡ drop 4096 s = take_all 4096 (drop 4096 s) (omega (arith, length-drop 4096 s)) in
    let number : first ≡ first + 0 = omega arith in
    sym (top_input-parent mode first s 4096 (IsLeftLen_power 2 (length s) (omega arith) (omega arith)) (omega arith)
    ∙ (λ i. parent_input mode (subtree_cv mode (number i) (take 4096 s)) (subtree_cv mode (first + 4) (sym rest i))))
