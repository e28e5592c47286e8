-- The encoding of a whole subtree that was verified by lanes has all its nodes good.
use Rattle.std.proofs.Common.{◌≡◌, ℕ, ◌+◌, ◌-◌, ◌*◌, ◌/◌, ◌<◌, ◌≤◌, max, List, [], ◌∷◌, ◌++◌, length, take, drop, Bool, true, false, refl, sym, ap, subst, ◌∙◌, arith, length-append, length-drop, pow_pos}
use Rattle.std.specs.Int.{IsPowerOfTwo}
use Rattle.std.proofs.lemmas.Bool.{and_from, lt-ltb}
use Rattle.std.proofs.lemmas.List.{append_assoc, drop-drop, drop-take, drop_at, length-take-le, take-take, take_all, take_at}
use Rattle.b3word.specs.declared.input.Input.{Input}
use Rattle.b3word.specs.Compression.{cv}
use Rattle.b3tree.specs.declared.mode.Mode.{Mode}
use Rattle.b3tree.specs.Bytes.{words_of}
use Rattle.b3tree.specs.Chunk.{last_chunk_input}
use Rattle.b3tree.specs.Parents.{lane_parents, paired_values}
use Rattle.b3tree.specs.Pieces.{lane_place, piece}
use Rattle.b3tree.specs.Tree.{left_len, parent_input}
use Rattle.b3tree.proofs.Pieces.{IsPowerOfTwo_double, length-piece, piece-append}
use Rattle.bao_text.proofs.EightChunks.{left_len-double}
use Rattle.bao_text.specs.declared.choice.Choice.{Choice}
use Rattle.bao_text.specs.Choice.{wants}
use Rattle.bao_text.specs.Nodes.{left, right, subtree_nodes, subtree_size}
use Rattle.bao_check.specs.declared.asked.Asked.{Asked}
use Rattle.bao_check.specs.Accepted.{part_value}
use Rattle.bao_check.specs.Walk.{Meets, Passes}
use Rattle.bao_check.specs.Whole.{HasEight, HasWhole, HasWholeAhead, IsWholeAsked, IsWholeOf, IsWholeText, StandsAt, lane_top, whole_len}
use Rattle.bao_check.proofs.Parts.{below}
use Rattle.bao_check.proofs.EachNode.{leaf_without}
use Rattle.bao_check.proofs.Walking.{both_passes, chunk_passes, none_passes}

wants_whole : (kept : Bool) (choice : Choice) (number chunks : ℕ) → 0 < chunks → HasWhole kept choice number chunks → wants choice (1024 * number) (1024 * chunks) ≡ true
wants_whole kept choice number chunks some has = grind (arith, and_from, lt-ltb)

-- the encoding of two parts and of the parent before them
pub whole_len-double : (kept : Bool) (n : ℕ) → 0 < n → whole_len kept (n + n) ≡ 64 + (whole_len kept n + whole_len kept n)
whole_len-double true n some = omega arith
whole_len-double false n some = omega arith

-- as a part of a larger one
pub of_text : (kept : Bool) (mode : Mode) (number chunks : ℕ) (top : Input) (value text : List ℕ) → value ≡ cv top → IsWholeText kept mode number chunks top text
    → IsWholeOf kept mode number chunks value text
of_text kept mode number chunks top value text is whole = record {
  size = whole.size;
  passes = λ choice all at sides from has. whole.passes (record { top = false; value = record { 0 = value } }) choice all at sides from has (sym is);
}

-- bytes that stand at a place
stands_first : (text : List ℕ) (at : ℕ) (x y : List ℕ) → StandsAt text at (x ++ y) → StandsAt text at x
stands_first text at x y h = (y ++ h.0, h.1 ∙ append_assoc x y h.0)

stands_rest : (text : List ℕ) (at n : ℕ) (x y : List ℕ) → length x ≡ n → StandsAt text at (x ++ y) → StandsAt text (at + n) y
stands_rest text at n x y size h = (h.0, sym (drop-drop n at text) ∙ ap (drop n) (h.1 ∙ append_assoc x y h.0) ∙ drop_at x (y ++ h.0) n size)

stands_fit : (text : List ℕ) (at n : ℕ) (x : List ℕ) → length x ≡ n → 0 < n → StandsAt text at x → at + n ≤ length text
stands_fit text at n x size some h =
    let left_over : length text - at ≡ length x + length h.0 = sym (length-drop at text) ∙ ap length h.1 ∙ length-append x h.0 in
    omega (arith, left_over, size, some)

stands_bytes : (text : List ℕ) (at n : ℕ) (x : List ℕ) → length x ≡ n → StandsAt text at x → take n (drop at text) ≡ x
stands_bytes text at n x size h = ap (take n) h.1 ∙ take_at x h.0 n size

-- a chunk by itself
pub chunk_whole : (mode : Mode) (number : ℕ) (text : List ℕ) → length text ≡ 1024 → IsWholeText true mode number 1 (last_chunk_input mode number text) text
chunk_whole mode number text size = record {
  size = size;
  passes = λ asked choice all at sides from has meets here.
      subst (λ (k : ℕ). Passes asked sides mode all at (at + k) (subtree_nodes choice number 1024 sides from)) (sym size)
      (chunk_passes asked choice mode all at number 1024 sides from (wants_whole true choice number 1 (omega arith) has) (omega arith) has.with_chunks
      (stands_fit all at 1024 text size (omega arith) here)
      (subst (λ (s : List ℕ). Meets asked (last_chunk_input mode number s)) (sym (stands_bytes all at 1024 text size here)) meets));
}

-- without chunks nothing stands there, whatever the value
pub no_chunk_whole : (mode : Mode) (number : ℕ) (value text : List ℕ) → text ≡ [] → IsWholeOf false mode number 1 value text
no_chunk_whole mode number value text none = search (arith, none_passes, leaf_without, wants_whole)

-- two whole subtrees side by side, and the parent before them
pub parent_whole : (kept : Bool) (mode : Mode) (number n : ℕ) (p l r lv rv : List ℕ) → IsPowerOfTwo n → length p ≡ 64
    → part_value left p ≡ lv → part_value right p ≡ rv
    → IsWholeOf kept mode number n lv l → IsWholeOf kept mode (number + n) n rv r
    → IsWholeText kept mode number (n + n) (parent_input mode lv rv) (p ++ (l ++ r))
parent_whole kept mode number n p l r lv rv power size pl pr near far =
    let some : 0 < n = subst (λ (m : ℕ). 0 < m) (sym power.1) (pow_pos power.0) in
    record {
      size = omega (arith, length-append p (l ++ r), length-append l r, size, near.size, far.size, whole_len-double kept n some);
      passes = λ asked choice all at sides from has meets here.
          let m : ℕ = 1024 * (n + n) in
          let met_at : left_len m ≡ 1024 * n = left_len-double n power in
          let number_at : number + left_len m / 1024 ≡ number + n = ap (λ (k : ℕ). number + k / 1024) met_at ∙ omega arith in
          let len_at : m - left_len m ≡ 1024 * n = ap (λ (k : ℕ). m - k) met_at ∙ omega arith in
          let here_p : StandsAt all at p = stands_first all at p (l ++ r) here in
          let rest : StandsAt all (at + 64) (l ++ r) = stands_rest all at 64 p (l ++ r) size here in
          let parent : take 64 (drop at all) ≡ p = stands_bytes all at 64 p size here_p in
          let left_value : lv ≡ part_value left (take 64 (drop at all)) = sym pl ∙ ap (part_value left) (sym parent) in
          let right_value : rv ≡ part_value right (take 64 (drop at all)) = sym pr ∙ ap (part_value right) (sym parent) in
          let has_near : HasWhole kept choice number n = record { with_chunks = has.with_chunks; start = has.start; end = omega (arith, has.end) } in
          let has_far : HasWhole kept choice (number + n) n = record { with_chunks = has.with_chunks; start = omega (arith, has.start); end = omega (arith, has.end) } in
          let from_far : ℕ = from + 64 + subtree_size (left_len m) in
          let middle : ℕ = at + 64 + length l in
          let first : Passes (below left (take 64 (drop at all))) (sides ++ left ∷ []) mode all (at + 64) middle (subtree_nodes choice number (left_len m) (sides ++ left ∷ []) (from + 64)) =
          subst (λ (T : Type 0). T)
          (λ i. Passes (record { top = false; value = record { 0 = left_value i } }) (sides ++ left ∷ []) mode all (at + 64) middle (subtree_nodes choice number (sym met_at i) (sides ++ left ∷ []) (from + 64)))
          (near.passes choice all (at + 64) (sides ++ left ∷ []) (from + 64) has_near (stands_first all (at + 64) l r rest)) in
          let second : Passes (below right (take 64 (drop at all))) (sides ++ right ∷ []) mode all middle (middle + length r)
          (subtree_nodes choice (number + left_len m / 1024) (m - left_len m) (sides ++ right ∷ []) from_far) =
          subst (λ (T : Type 0). T)
          (λ i. Passes (record { top = false; value = record { 0 = right_value i } }) (sides ++ right ∷ []) mode all middle (middle + length r)
          (subtree_nodes choice (sym number_at i) (sym len_at i) (sides ++ right ∷ []) from_far))
          (far.passes choice all middle (sides ++ right ∷ []) from_far has_far (stands_rest all (at + 64) (length l) l r refl rest)) in
          let ends : middle + length r ≡ at + length (p ++ (l ++ r)) = omega (arith, length-append p (l ++ r), length-append l r, size) in
          subst (λ (k : ℕ). Passes asked sides mode all at k (subtree_nodes choice number m sides from)) ends
          (both_passes asked choice mode all at number m sides from (wants_whole kept choice number (n + n) (omega arith) has) (omega arith)
          (stands_fit all at 64 p size (omega arith) here_p) (subst (Meets asked) (λ i. parent_input mode (left_value i) (right_value i)) meets) middle (middle + length r) first second);
    }

-- the halves of a parent in the encoding, as words
pub left_words : (text : List ℕ) (at : ℕ) → part_value left (piece text at 64) ≡ words_of 8 (piece text at 32)
unfolding part_value
left_words text at = ap (words_of 8) (take-take 32 64 (drop at text) (omega arith))

pub right_words : (text : List ℕ) (at : ℕ) → part_value right (piece text at 64) ≡ words_of 8 (piece text (at + 32) 32)
unfolding part_value
right_words text at = ap (words_of 8) (drop-take 32 32 (drop at text) ∙ ap (take 32) (drop-drop 32 at text))

-- the same of pieces of one encoding
pub joined_whole : (kept : Bool) (mode : Mode) (text : List ℕ) (number n at near far next : ℕ) (lv rv : List ℕ) → IsPowerOfTwo n → at + whole_len kept (n + n) ≤ length text
    → near ≡ at + 64 → far ≡ at + 64 + whole_len kept n → next ≡ number + n
    → part_value left (piece text at 64) ≡ lv → part_value right (piece text at 64) ≡ rv
    → IsWholeOf kept mode number n lv (piece text near (whole_len kept n)) → IsWholeOf kept mode next n rv (piece text far (whole_len kept n))
    → IsWholeText kept mode number (n + n) (parent_input mode lv rv) (piece text at (whole_len kept (n + n)))
joined_whole kept mode text number n at near far next lv rv power fits is_near is_far is_next pl pr l r =
    let some : 0 < n = subst (λ (m : ℕ). 0 < m) (sym power.1) (pow_pos power.0) in
    let k : ℕ = whole_len kept n in
    let p : List ℕ = piece text at 64 in
    let split : whole_len kept (n + n) ≡ 64 + (k + k) = whole_len-double kept n some in
    let whole : piece text at (whole_len kept (n + n)) ≡ p ++ (piece text near k ++ piece text far k) =
    ap (piece text at) split ∙ piece-append text at 64 (k + k)
    ∙ ap (λ (s : List ℕ). p ++ s) (piece-append text (at + 64) k k)
    ∙ (λ i. p ++ (piece text (sym is_near i) k ++ piece text (sym is_far i) k)) in
    let r_whole : IsWholeOf kept mode (number + n) n rv (piece text far k) = subst (λ (m : ℕ). IsWholeOf kept mode m n rv (piece text far k)) is_next r in
    subst (IsWholeText kept mode number (n + n) (parent_input mode lv rv)) (sym whole)
    (parent_whole kept mode number n p (piece text near k) (piece text far k) lv rv power (length-piece text at 64 (omega (arith, split, fits))) pl pr l r_whole)

-- and their value
pub joined_of : (kept : Bool) (mode : Mode) (text : List ℕ) (number n at near far next : ℕ) (lv rv value : List ℕ) → IsPowerOfTwo n → at + whole_len kept (n + n) ≤ length text
    → near ≡ at + 64 → far ≡ at + 64 + whole_len kept n → next ≡ number + n
    → part_value left (piece text at 64) ≡ lv → part_value right (piece text at 64) ≡ rv
    → IsWholeOf kept mode number n lv (piece text near (whole_len kept n)) → IsWholeOf kept mode next n rv (piece text far (whole_len kept n))
    → value ≡ cv (parent_input mode lv rv)
    → IsWholeOf kept mode number (n + n) value (piece text at (whole_len kept (n + n)))
joined_of kept mode text number n at near far next lv rv value power fits is_near is_far is_next pl pr l r is = search (arith, of_text, joined_whole)

-- where the second half's first pair stands, and its second
at_second : (s : ℕ) → 320 + s * 4 ≡ 256 + s * 4 + 64
at_second s = omega arith

at_last : (s : ℕ) → 384 + s * 6 ≡ 256 + s * 4 + 128 + s * 2
at_last s = omega arith

-- eight parts, each whole, and the seven parents of the encoding that are theirs
pub eight_whole : (kept : Bool) (mode : Mode) (text : List ℕ) (number n : ℕ) (v : ℕ → List ℕ) → IsPowerOfTwo n → length text ≡ 448 + 8 * whole_len kept n
    → ((j : ℕ) → j < 8 → IsWholeOf kept mode (number + n * j) n (v j) (piece text (lane_place 192 (whole_len kept n) j) (whole_len kept n)))
    → HasEight text (whole_len kept n) (lane_parents mode v)
    → IsWholeText kept mode number (8 * n) (lane_top mode v) text
eight_whole kept mode text number n v power size each has =
    let some : 0 < n = subst (λ (m : ℕ). 0 < m) (sym power.1) (pow_pos power.0) in
    let s : ℕ = whole_len kept n in
    let two : ℕ = n + n in
    let four : ℕ = two + two in
    let power2 : IsPowerOfTwo two = IsPowerOfTwo_double n power in
    let power4 : IsPowerOfTwo four = IsPowerOfTwo_double two power2 in
    let d2 : whole_len kept two ≡ 64 + (s + s) = whole_len-double kept n some in
    let d4 : whole_len kept four ≡ 64 + (whole_len kept two + whole_len kept two) = whole_len-double kept two (omega arith) in
    let d8 : whole_len kept (four + four) ≡ 64 + (whole_len kept four + whole_len kept four) = whole_len-double kept four (omega arith) in
    let pairs : ℕ → List ℕ = paired_values mode v in
    let fours : ℕ → List ℕ = paired_values mode pairs in
    let p0 : IsWholeOf kept mode (number + n * 0) two (pairs 0) (piece text 128 (whole_len kept two)) =
    joined_of kept mode text (number + n * 0) n 128 (lane_place 192 s 0) (lane_place 192 s 1) (number + n * 1) (v 0) (v 1) (pairs 0) power
    (omega (arith, size, d2, d4, d8)) (omega (arith, d2, d4)) (omega (arith, d2, d4)) (omega arith) has.1.1.0 has.1.1.1 (each 0 (omega arith)) (each 1 (omega arith)) refl in
    let p1 : IsWholeOf kept mode (number + n * 2) two (pairs 1) (piece text (192 + s * 2) (whole_len kept two)) =
    joined_of kept mode text (number + n * 2) n (192 + s * 2) (lane_place 192 s 2) (lane_place 192 s 3) (number + n * 3) (v 2) (v 3) (pairs 1) power
    (omega (arith, size, d2, d4, d8)) (omega (arith, d2, d4)) (omega (arith, d2, d4)) (omega arith) has.1.2.0 has.1.2.1 (each 2 (omega arith)) (each 3 (omega arith)) refl in
    let p2 : IsWholeOf kept mode (number + n * 4) two (pairs 2) (piece text (320 + s * 4) (whole_len kept two)) =
    joined_of kept mode text (number + n * 4) n (320 + s * 4) (lane_place 192 s 4) (lane_place 192 s 5) (number + n * 5) (v 4) (v 5) (pairs 2) power
    (omega (arith, size, d2, d4, d8)) (omega (arith, d2, d4)) (omega (arith, d2, d4)) (omega arith)
    (ap (λ (p : ℕ). part_value left (piece text p 64)) (at_second s) ∙ has.2.1.0)
    (ap (λ (p : ℕ). part_value right (piece text p 64)) (at_second s) ∙ has.2.1.1) (each 4 (omega arith)) (each 5 (omega arith)) refl in
    let p3 : IsWholeOf kept mode (number + n * 6) two (pairs 3) (piece text (384 + s * 6) (whole_len kept two)) =
    joined_of kept mode text (number + n * 6) n (384 + s * 6) (lane_place 192 s 6) (lane_place 192 s 7) (number + n * 7) (v 6) (v 7) (pairs 3) power
    (omega (arith, size, d2, d4, d8)) (omega (arith, d2, d4)) (omega (arith, d2, d4)) (omega arith)
    (ap (λ (p : ℕ). part_value left (piece text p 64)) (at_last s) ∙ has.2.2.0)
    (ap (λ (p : ℕ). part_value right (piece text p 64)) (at_last s) ∙ has.2.2.1) (each 6 (omega arith)) (each 7 (omega arith)) refl in
    let q0 : IsWholeOf kept mode (number + n * 0) four (fours 0) (piece text 64 (whole_len kept four)) =
    joined_of kept mode text (number + n * 0) two 64 128 (192 + s * 2) (number + n * 2) (pairs 0) (pairs 1) (fours 0) power2
    (omega (arith, size, d2, d4, d8)) (omega (arith, d2, d4)) (omega (arith, d2, d4)) (omega arith) has.1.0.0 has.1.0.1 p0 p1 refl in
    let q1 : IsWholeOf kept mode (number + n * 4) four (fours 1) (piece text (256 + s * 4) (whole_len kept four)) =
    joined_of kept mode text (number + n * 4) two (256 + s * 4) (320 + s * 4) (384 + s * 6) (number + n * 6) (pairs 2) (pairs 3) (fours 1) power2
    (omega (arith, size, d2, d4, d8)) (omega (arith, d2, d4)) (omega (arith, d2, d4)) (omega arith) has.2.0.0 has.2.0.1 p2 p3 refl in
    let whole : IsWholeText kept mode (number + n * 0) (four + four) (parent_input mode (fours 0) (fours 1)) (piece text 0 (whole_len kept (four + four))) =
    joined_whole kept mode text (number + n * 0) four 0 64 (256 + s * 4) (number + n * 4) (fours 0) (fours 1) power4
    (omega (arith, size, d2, d4, d8)) (omega (arith, d2, d4)) (omega (arith, d2, d4)) (omega arith) has.0.0 has.0.1 q0 q1 in
    let first : number + n * 0 ≡ number = omega arith in
    let all : four + four ≡ 8 * n = omega arith in
    let len : whole_len kept (four + four) ≡ length text = omega (arith, size, d2, d4, d8) in
    subst (IsWholeText kept mode number (8 * n) (parent_input mode (fours 0) (fours 1))) (ap (piece text 0) len ∙ take_all (length text) text (omega arith))
    (subst (λ (m : ℕ). IsWholeText kept mode m (8 * n) (parent_input mode (fours 0) (fours 1)) (piece text 0 (whole_len kept (four + four)))) first
    (subst (λ (m : ℕ). IsWholeText kept mode (number + n * 0) m (parent_input mode (fours 0) (fours 1)) (piece text 0 (whole_len kept (four + four)))) all whole))

-- the walk passes over it
pub whole_ahead : (kept : Bool) (asked : Asked) (choice : Choice) (mode : Mode) (number n chunks len : ℕ) (ahead : List ℕ) → n ≡ 8192 * chunks → IsPowerOfTwo chunks
    → choice.chunks ≡ kept → choice.start ≤ 1024 * number → 1024 * number + max n 1 ≤ choice.end → len ≤ length ahead
    → IsWholeAsked kept asked mode number (8 * chunks) (take len ahead) → HasWholeAhead asked choice mode number n len ahead
whole_ahead kept asked choice mode number n chunks len ahead is power with_chunks start end there h =
    let some : 0 < chunks = subst (λ (m : ℕ). 0 < m) (sym power.1) (pow_pos power.0) in
    let all : 1024 * (8 * chunks) ≡ n = omega arith in
    let has : HasWhole kept choice number (8 * chunks) = record { with_chunks = with_chunks; start = start; end = omega arith } in
    record {
      there = there;
      passes = λ text at here sides from.
          subst (λ (T : Type 0). T) (λ i. Passes asked sides mode text at (at + length-take-le len ahead there i) (subtree_nodes choice number (all i) sides from))
          (h.2.passes asked choice text at sides from has h.1 here);
    }
