-- Equal words come from equal bytes.
use Rattle.std.proofs.Common.{◌≡◌, ℕ, zero, suc, ◌+◌, ◌-◌, ◌*◌, ◌/◌, ◌%◌, ◌<◌, ◌≤◌, List, [], ◌∷◌, ◌++◌, length, take, drop, get_or, refl, sym, ap, ◌∙◌, arith, inl, inr, zero-add, length-append}
use Rattle.std.specs.Prelude.{replicate}
use Rattle.std.proofs.lemmas.Bool.{cases_lt}
use Rattle.std.proofs.lemmas.List.{ext_get_or, get_or-drop, length-replicate, take_at}
use Rattle.std.proofs.lemmas.List.FromFn.{get_or-map-range_with_len}
use Rattle.std.proofs.lemmas.Nat.{le_bytes_4}
use Rattle.b3tree.specs.Bytes.{word_at, words_of}
use Rattle.b3tree.specs.Chunk.{block_words, padded}
use Rattle.b3tree.specs.Valid.{AreBytes}

pub AreBytes-nil : AreBytes []
AreBytes-nil = record { at = λ k. omega arith }

AreBytes-cons : (x : ℕ) (xs : List ℕ) → x < 256 → AreBytes xs → AreBytes (x ∷ xs)
AreBytes-cons x xs small rest = record { at = elim [ zero ↦ small | suc k ↦ rest.at k ] }

tail_bytes : (x : ℕ) (xs : List ℕ) → AreBytes (x ∷ xs) → AreBytes xs
tail_bytes x xs bytes = record { at = λ k. bytes.at (suc k) }

pub AreBytes-append : (xs ys : List ℕ) → AreBytes xs → AreBytes ys → AreBytes (xs ++ ys)
AreBytes-append [] ys first rest = rest
AreBytes-append (x ∷ xs) ys first rest = AreBytes-cons x (xs ++ ys) (first.at 0) (AreBytes-append xs ys (tail_bytes x xs first) rest)

AreBytes-zeros : (n : ℕ) → AreBytes (replicate n 0)
AreBytes-zeros zero = AreBytes-nil
AreBytes-zeros (suc n) = AreBytes-cons 0 (replicate n 0) (omega arith) (AreBytes-zeros n)

pub AreBytes-take : (n : ℕ) (xs : List ℕ) → AreBytes xs → AreBytes (take n xs)
AreBytes-take zero xs bytes = AreBytes-nil
AreBytes-take (suc n) [] bytes = AreBytes-nil
AreBytes-take (suc n) (x ∷ xs) bytes = AreBytes-cons x (take n xs) (bytes.at 0) (AreBytes-take n xs (tail_bytes x xs bytes))

pub AreBytes-drop : (n : ℕ) (xs : List ℕ) → AreBytes xs → AreBytes (drop n xs)
AreBytes-drop n xs bytes = record { at = λ k. rw (get_or-drop n xs k 0) (bytes.at (n + k)) }

-- the four bytes of word k
abbrev four_at : List ℕ → ℕ → List ℕ
four_at xs k = get_or xs (4 * k) 0 ∷ get_or xs (4 * k + 1) 0 ∷ get_or xs (4 * k + 2) 0 ∷ get_or xs (4 * k + 3) 0 ∷ []

four_bytes : (xs : List ℕ) (k : ℕ) → AreBytes xs → AreBytes (four_at xs k)
four_bytes xs k bytes =
    AreBytes-cons _ _ (bytes.at (4 * k))
    (AreBytes-cons _ _ (bytes.at (4 * k + 1)) (AreBytes-cons _ _ (bytes.at (4 * k + 2)) (AreBytes-cons _ _ (bytes.at (4 * k + 3)) AreBytes-nil)))

-- one word has one run of four bytes
four_same : (a b : List ℕ) (k : ℕ) → AreBytes a → AreBytes b → word_at a k ≡ word_at b k → four_at a k ≡ four_at b k
four_same a b k ha hb e =
    let fa : AreBytes (four_at a k) = four_bytes a k ha in
    let fb : AreBytes (four_at b k) = four_bytes b k hb in
    sym (le_bytes_4 (four_at a k) (word_at a k) refl fa.at refl) ∙ le_bytes_4 (four_at b k) (word_at a k) refl fb.at e

word_of : (n : ℕ) (xs : List ℕ) (k : ℕ) → k < n → get_or (words_of n xs) k 0 ≡ word_at xs k
word_of n xs k below = get_or-map-range_with_len (word_at xs) 0 n k k 0 below (zero-add k)

-- equal elements at place i = 4 * k + r, from the runs
same_at : (a b : List ℕ) (k r i : ℕ) → r < 4 → i ≡ 4 * k + r → four_at a k ≡ four_at b k → get_or a i 0 ≡ get_or b i 0
same_at a b k r i small place same = elim (cases_lt r 1) [
  | inl lt ↦ let e : i ≡ 4 * k = omega arith in ap (λ (j : ℕ). get_or a j 0) e ∙ ap (λ (f : List ℕ). get_or f 0 0) same ∙ sym (ap (λ (j : ℕ). get_or b j 0) e)
  | inr some ↦
      elim (cases_lt r 2) [
        | inl lt ↦ let e : i ≡ 4 * k + 1 = omega arith in ap (λ (j : ℕ). get_or a j 0) e ∙ ap (λ (f : List ℕ). get_or f 1 0) same ∙ sym (ap (λ (j : ℕ). get_or b j 0) e)
        | inr more ↦
            elim (cases_lt r 3) [
              | inl lt ↦ let e : i ≡ 4 * k + 2 = omega arith in ap (λ (j : ℕ). get_or a j 0) e ∙ ap (λ (f : List ℕ). get_or f 2 0) same ∙ sym (ap (λ (j : ℕ). get_or b j 0) e)
              | inr most ↦ let e : i ≡ 4 * k + 3 = omega arith in ap (λ (j : ℕ). get_or a j 0) e ∙ ap (λ (f : List ℕ). get_or f 3 0) same ∙ sym (ap (λ (j : ℕ). get_or b j 0) e)
            ]
      ]
]

-- equal words come from equal bytes
words_same : (n : ℕ) (a b : List ℕ) → length a ≡ 4 * n → length b ≡ 4 * n → AreBytes a → AreBytes b → words_of n a ≡ words_of n b → a ≡ b
words_same n a b la lb ha hb e =
    ext_get_or 0 a b (la ∙ sym lb) (λ i lt.
    let below : i / 4 < n = omega arith in
    let same : word_at a (i / 4) ≡ word_at b (i / 4) = sym (word_of n a (i / 4) below) ∙ ap (λ (ws : List ℕ). get_or ws (i / 4) 0) e ∙ word_of n b (i / 4) below in
    same_at a b (i / 4) (i % 4) i (omega arith) (omega arith) (four_same a b (i / 4) ha hb same))

length-padded : (a : List ℕ) → length a ≤ 64 → length (padded a) ≡ 4 * 16
length-padded a one =
    let sum : length a + (64 - length a) ≡ 4 * 16 = omega arith in
    length-append a (replicate (64 - length a) 0) ∙ ap (λ (n : ℕ). length a + n) (length-replicate (64 - length a) 0) ∙ sum

-- equal message words come from equal blocks, of one length
pub block_words_same : (a b : List ℕ) → length a ≡ length b → length a ≤ 64 → AreBytes a → AreBytes b → block_words a ≡ block_words b → a ≡ b
unfolding block_words
block_words_same a b len one ha hb e =
    let pa : AreBytes (padded a) = AreBytes-append a (replicate (64 - length a) 0) ha (AreBytes-zeros (64 - length a)) in
    let pb : AreBytes (padded b) = AreBytes-append b (replicate (64 - length b) 0) hb (AreBytes-zeros (64 - length b)) in
    let same : padded a ≡ padded b = words_same 16 (padded a) (padded b) (length-padded a one) (length-padded b (omega arith)) pa pb e in
    sym (take_at a (replicate (64 - length a) 0) (length a) refl) ∙ ap (take (length a)) same ∙ take_at b (replicate (64 - length b) 0) (length a) (sym len)
