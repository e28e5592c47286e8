-- BLAKE3's compression function as functions on lists of words (BLAKE3 paper, 2.2). A word is a
-- number below 2 ^ 32.
use Rattle.std.specs.Prelude.{ℕ, zero, suc, ◌+◌, ◌/◌, ◌%◌, ◌^◌, List, [], ◌∷◌, ◌++◌, map, take, slice_index, slice_set, bit_xor}
use Rattle.std.specs.List.{range_with_len}
use Rattle.std.specs.Int.{w32, rotate_right}
use Rattle.b3word.specs.declared.input.Input.{Input}

-- IV 0, .., IV 7 (Table 1)
abbrev pub iv : List ℕ
iv = 0x6A09E667 ∷ 0xBB67AE85 ∷ 0x3C6EF372 ∷ 0xA54FF53A ∷ 0x510E527F ∷ 0x9B05688C ∷ 0x1F83D9AB ∷ 0x5BE0CD19 ∷ []

-- the sum of two words, modulo 2 ^ 32
abbrev pub add32 : ℕ → ℕ → ℕ
add32 x y = (x + y) % 2 ^ 32

-- the xor of two words, rotated to the right by n bits
abbrev pub xor_rotated : ℕ → ℕ → ℕ → ℕ
xor_rotated x y n = rotate_right w32 (bit_xor x y) n

-- the quarter-round function G: the new words a, b, c, d, with the message words x and y
unfoldable pub quarter_round : ℕ → ℕ → ℕ → ℕ → ℕ → ℕ → List ℕ
quarter_round a b c d x y =
    let a1 = add32 (add32 a b) x in
    let d1 = xor_rotated d a1 16 in
    let c1 = add32 c d1 in
    let b1 = xor_rotated b c1 12 in
    let a2 = add32 (add32 a1 b1) y in
    let d2 = xor_rotated d1 a2 8 in
    let c2 = add32 c1 d2 in
    let b2 = xor_rotated b1 c2 7 in
    a2 ∷ b2 ∷ c2 ∷ d2 ∷ []

-- the state v with the words w 0, .., w 3 at its places i, j, k, l
abbrev pub placed : List ℕ → ℕ → ℕ → ℕ → ℕ → List ℕ → List ℕ
placed v i j k l w =
    slice_set (slice_set (slice_set (slice_set v i (slice_index w 0)) j (slice_index w 1)) k (slice_index w 2)) l (slice_index w 3)

-- the state v after G on its places i, j, k, l
unfoldable pub g : List ℕ → ℕ → ℕ → ℕ → ℕ → ℕ → ℕ → List ℕ
g v i j k l x y =
    placed v i j k l (quarter_round (slice_index v i) (slice_index v j) (slice_index v k) (slice_index v l) x y)

-- a round on the state v with the message words m: the four columns, then the four diagonals
unfoldable pub round : List ℕ → List ℕ → List ℕ
round v m =
    let v1 = g v 0 4 8 12 (slice_index m 0) (slice_index m 1) in
    let v2 = g v1 1 5 9 13 (slice_index m 2) (slice_index m 3) in
    let v3 = g v2 2 6 10 14 (slice_index m 4) (slice_index m 5) in
    let v4 = g v3 3 7 11 15 (slice_index m 6) (slice_index m 7) in
    let v5 = g v4 0 5 10 15 (slice_index m 8) (slice_index m 9) in
    let v6 = g v5 1 6 11 12 (slice_index m 10) (slice_index m 11) in
    let v7 = g v6 2 7 8 13 (slice_index m 12) (slice_index m 13) in
    g v7 3 4 9 14 (slice_index m 14) (slice_index m 15)

-- word i of the permuted message is word P i of the message (Table 2)
abbrev pub permutation : List ℕ
permutation = 2 ∷ 6 ∷ 3 ∷ 10 ∷ 7 ∷ 0 ∷ 4 ∷ 13 ∷ 1 ∷ 11 ∷ 12 ∷ 5 ∷ 9 ∷ 14 ∷ 15 ∷ 8 ∷ []

unfoldable pub permuted : List ℕ → List ℕ
permuted m = map (slice_index m) permutation

-- the message words of round n, from 0: permuted between two rounds
unfoldable pub round_words : List ℕ → ℕ → List ℕ
round_words m zero = m
round_words m (suc n) = permuted (round_words m n)

-- the state after n rounds
unfoldable pub rounds : List ℕ → List ℕ → ℕ → List ℕ
rounds v m zero = v
rounds v m (suc n) = round (rounds v m n) (round_words m n)

-- the state v 0, .., v 15 before the first round
abbrev pub initial_state : Input → List ℕ
initial_state x = x.h ++ take 4 iv ++ x.t % 2 ^ 32 ∷ x.t / 2 ^ 32 ∷ x.b ∷ x.d ∷ []

-- the 16 output words of the state v: the xor of its halves, then that of its second half with h
abbrev pub output_words : List ℕ → List ℕ → List ℕ
output_words h v = map (λ i. bit_xor (slice_index v i) (slice_index v (i + 8))) (range_with_len 0 8)
    ++ map (λ i. bit_xor (slice_index v (i + 8)) (slice_index h i)) (range_with_len 0 8)

-- the 16 output words of the input x, after seven rounds
unfoldable pub out : Input → List ℕ
out x = output_words x.h (rounds (initial_state x) x.m 7)

-- the chaining value of the input x: the first eight of them
abbrev pub cv : Input → List ℕ
cv x = take 8 (out x)
