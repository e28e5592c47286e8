-- The words of an output are words: numbers below 2 ^ 32, where the input has such.
use Rattle.std.proofs.Common.{ℕ, zero, suc, ◌+◌, ◌/◌, ◌%◌, ◌*◌, ◌^◌, ◌<◌, List, [], ◌∷◌, ◌++◌, take, get_or, length, bit_xor, bit_or, ◌≡◌, ◌-◌, refl, arith, lit<}
use Rattle.std.specs.Prelude.{slice_set}
use Rattle.std.proofs.Math.Nat.{div-le_self}
use Rattle.std.proofs.lemmas.Nat.{or_of_32, xor_of_32}
use Rattle.b3word.specs.declared.input.Input.{Input}
use Rattle.b3word.specs.Compression.{add32, cv, g, initial_state, iv, out, placed, quarter_round, round, round_words, rounds, xor_rotated}
use Rattle.b3word.specs.Words.{AreWords}

pub AreWords-nil : AreWords []
AreWords-nil = record { at = λ k. omega arith }

pub AreWords-cons : (w : ℕ) (ws : List ℕ) → w < 2 ^ 32 → AreWords ws → AreWords (w ∷ ws)
AreWords-cons w ws small rest = record { at = elim [ zero ↦ small | suc k ↦ rest.at k ] }

tail_words : (w : ℕ) (ws : List ℕ) → AreWords (w ∷ ws) → AreWords ws
tail_words w ws words = record { at = λ k. words.at (suc k) }

pub AreWords-append : (vs ws : List ℕ) → AreWords vs → AreWords ws → AreWords (vs ++ ws)
AreWords-append [] ws first rest = rest
AreWords-append (v ∷ vs) ws first rest = AreWords-cons v (vs ++ ws) (first.at 0) (AreWords-append vs ws (tail_words v vs first) rest)

AreWords-set : (ws : List ℕ) (i w : ℕ) → AreWords ws → w < 2 ^ 32 → AreWords (slice_set ws i w)
AreWords-set [] i w words small = AreWords-nil
AreWords-set (v ∷ ws) zero w words small = AreWords-cons w ws small (tail_words v ws words)
AreWords-set (v ∷ ws) (suc i) w words small = AreWords-cons v (slice_set ws i w) (words.at 0) (AreWords-set ws i w (tail_words v ws words) small)

add32_word : (x y : ℕ) → add32 x y < 2 ^ 32
add32_word x y = omega arith

rotated_word : (n p q : ℕ) → n < 2 ^ 32 → bit_or (n / p) ((n * q) % 2 ^ 32) < 2 ^ 32
rotated_word n p q small = or_of_32 (n / p) ((n * q) % 2 ^ 32) (omega (arith, div-le_self n p)) (omega arith)

xor_rotated_word : (x y n : ℕ) → x < 2 ^ 32 → y < 2 ^ 32 → xor_rotated x y n < 2 ^ 32
xor_rotated_word x y n a b = rotated_word (bit_xor x y) (2 ^ (n % 32)) (2 ^ ((32 - n % 32) % 32)) (xor_of_32 x y a b)

-- the quarter-round function: its sums are words in any case
quarter_words : (a b c d x y : ℕ) → b < 2 ^ 32 → d < 2 ^ 32 → AreWords (quarter_round a b c d x y)
unfolding quarter_round
quarter_words a b c d x y hb hd =
    let a1 : ℕ = add32 (add32 a b) x in
    let d1 : ℕ = xor_rotated d a1 16 in
    let c1 : ℕ = add32 c d1 in
    let b1 : ℕ = xor_rotated b c1 12 in
    let a2 : ℕ = add32 (add32 a1 b1) y in
    let d2 : ℕ = xor_rotated d1 a2 8 in
    let c2 : ℕ = add32 c1 d2 in
    let b2 : ℕ = xor_rotated b1 c2 7 in
    let d1_word : d1 < 2 ^ 32 = xor_rotated_word d a1 16 hd (add32_word (add32 a b) x) in
    let b1_word : b1 < 2 ^ 32 = xor_rotated_word b c1 12 hb (add32_word c d1) in
    let a2_word : a2 < 2 ^ 32 = add32_word (add32 a1 b1) y in
    let d2_word : d2 < 2 ^ 32 = xor_rotated_word d1 a2 8 d1_word a2_word in
    let c2_word : c2 < 2 ^ 32 = add32_word c1 d2 in
    let b2_word : b2 < 2 ^ 32 = xor_rotated_word b1 c2 7 b1_word c2_word in
    AreWords-cons a2 (b2 ∷ c2 ∷ d2 ∷ []) a2_word
    (AreWords-cons b2 (c2 ∷ d2 ∷ []) b2_word (AreWords-cons c2 (d2 ∷ []) c2_word (AreWords-cons d2 [] d2_word AreWords-nil)))

placed_words : (v : List ℕ) (i j k l : ℕ) (w : List ℕ) → AreWords v → AreWords w → AreWords (placed v i j k l w)
placed_words v i j k l w hv hw =
    AreWords-set (slice_set (slice_set (slice_set v i (get_or w 0 0)) j (get_or w 1 0)) k (get_or w 2 0)) l (get_or w 3 0)
    (AreWords-set (slice_set (slice_set v i (get_or w 0 0)) j (get_or w 1 0)) k (get_or w 2 0)
    (AreWords-set (slice_set v i (get_or w 0 0)) j (get_or w 1 0) (AreWords-set v i (get_or w 0 0) hv (hw.at 0)) (hw.at 1)) (hw.at 2)) (hw.at 3)

g_words : (v : List ℕ) (i j k l x y : ℕ) → AreWords v → AreWords (g v i j k l x y)
unfolding g
g_words v i j k l x y hv =
    placed_words v i j k l (quarter_round (get_or v i 0) (get_or v j 0) (get_or v k 0) (get_or v l 0) x y) hv
    (quarter_words (get_or v i 0) (get_or v j 0) (get_or v k 0) (get_or v l 0) x y (hv.at j) (hv.at l))

round_words_are : (v m : List ℕ) → AreWords v → AreWords (round v m)
unfolding round
round_words_are v m hv =
    let v1 : List ℕ = g v 0 4 8 12 (get_or m 0 0) (get_or m 1 0) in
    let v2 : List ℕ = g v1 1 5 9 13 (get_or m 2 0) (get_or m 3 0) in
    let v3 : List ℕ = g v2 2 6 10 14 (get_or m 4 0) (get_or m 5 0) in
    let v4 : List ℕ = g v3 3 7 11 15 (get_or m 6 0) (get_or m 7 0) in
    let v5 : List ℕ = g v4 0 5 10 15 (get_or m 8 0) (get_or m 9 0) in
    let v6 : List ℕ = g v5 1 6 11 12 (get_or m 10 0) (get_or m 11 0) in
    let v7 : List ℕ = g v6 2 7 8 13 (get_or m 12 0) (get_or m 13 0) in
    let h1 : AreWords v1 = g_words v 0 4 8 12 (get_or m 0 0) (get_or m 1 0) hv in
    let h2 : AreWords v2 = g_words v1 1 5 9 13 (get_or m 2 0) (get_or m 3 0) h1 in
    let h3 : AreWords v3 = g_words v2 2 6 10 14 (get_or m 4 0) (get_or m 5 0) h2 in
    let h4 : AreWords v4 = g_words v3 3 7 11 15 (get_or m 6 0) (get_or m 7 0) h3 in
    let h5 : AreWords v5 = g_words v4 0 5 10 15 (get_or m 8 0) (get_or m 9 0) h4 in
    let h6 : AreWords v6 = g_words v5 1 6 11 12 (get_or m 10 0) (get_or m 11 0) h5 in
    let h7 : AreWords v7 = g_words v6 2 7 8 13 (get_or m 12 0) (get_or m 13 0) h6 in
    g_words v7 3 4 9 14 (get_or m 14 0) (get_or m 15 0) h7

rounds_words : (v m : List ℕ) (n : ℕ) → AreWords v → AreWords (rounds v m n)
unfolding rounds
rounds_words v m zero hv = hv
rounds_words v m (suc n) hv = round_words_are (rounds v m n) (round_words m n) (rounds_words v m n hv)

-- an input of words, whose counter has 64 bits
pub record IsInput (x : Input) : Type 0 where
  pub h : AreWords x.h
  pub t : x.t < 2 ^ 64
  pub b : x.b < 2 ^ 32
  pub d : x.d < 2 ^ 32

initial_words : (x : Input) → IsInput x → AreWords (initial_state x)
initial_words x is =
    let low : x.t % 2 ^ 32 < 2 ^ 32 = omega arith in
    let high : x.t / 2 ^ 32 < 2 ^ 32 = omega (arith, is.t) in
    let tail : AreWords (x.t % 2 ^ 32 ∷ x.t / 2 ^ 32 ∷ x.b ∷ x.d ∷ []) =
    AreWords-cons (x.t % 2 ^ 32) (x.t / 2 ^ 32 ∷ x.b ∷ x.d ∷ []) low
    (AreWords-cons (x.t / 2 ^ 32) (x.b ∷ x.d ∷ []) high (AreWords-cons x.b (x.d ∷ []) is.b (AreWords-cons x.d [] is.d AreWords-nil))) in
    let constants : AreWords (take 4 iv) = AreWords-cons _ _ (lit< tt) (AreWords-cons _ _ (lit< tt) (AreWords-cons _ _ (lit< tt) (AreWords-cons _ _ (lit< tt) AreWords-nil))) in
    AreWords-append (x.h ++ take 4 iv) (x.t % 2 ^ 32 ∷ x.t / 2 ^ 32 ∷ x.b ∷ x.d ∷ []) (AreWords-append x.h (take 4 iv) is.h constants) tail

-- the chaining value of such an input
pub cv_words : (x : Input) → IsInput x → AreWords (cv x)
unfolding out
cv_words x is =
    let v : List ℕ = rounds (initial_state x) x.m 7 in
    let words : AreWords v = rounds_words (initial_state x) x.m 7 (initial_words x is) in
    let at = λ (i : ℕ). xor_of_32 (get_or v i 0) (get_or v (i + 8) 0) (words.at i) (words.at (i + 8)) in
    AreWords-cons _ _ (at 0) (AreWords-cons _ _ (at 1) (AreWords-cons _ _ (at 2) (AreWords-cons _ _ (at 3)
    (AreWords-cons _ _ (at 4) (AreWords-cons _ _ (at 5) (AreWords-cons _ _ (at 6) (AreWords-cons _ _ (at 7) AreWords-nil)))))))

pub length-cv : (x : Input) → length (cv x) ≡ 8
unfolding out
length-cv x = refl
