-- Eight compressions side by side: each word is a vector of eight lanes, one for each compression.
use Rattle.std.specs.Prelude.{ℕ, ◌+◌, ◌*◌, List, [], ◌∷◌, slice_index, slice_index_or}
use Rattle.b3word.specs.declared.input.Input.{Input}

-- lane j of vector k
abbrev pub lane_at : List (List ℕ) → ℕ → ℕ → ℕ
lane_at x k j = slice_index (slice_index_or x k []) j

-- lane j of eight vectors
abbrev pub lane8 : ℕ → List (List ℕ) → List ℕ
lane8 j x =
    lane_at x 0 j ∷ lane_at x 1 j ∷ lane_at x 2 j ∷ lane_at x 3 j
    ∷ lane_at x 4 j ∷ lane_at x 5 j ∷ lane_at x 6 j ∷ lane_at x 7 j ∷ []

-- lane j of sixteen vectors
abbrev pub lane16 : ℕ → List (List ℕ) → List ℕ
lane16 j x =
    lane_at x 0 j ∷ lane_at x 1 j ∷ lane_at x 2 j ∷ lane_at x 3 j
    ∷ lane_at x 4 j ∷ lane_at x 5 j ∷ lane_at x 6 j ∷ lane_at x 7 j
    ∷ lane_at x 8 j ∷ lane_at x 9 j ∷ lane_at x 10 j ∷ lane_at x 11 j
    ∷ lane_at x 12 j ∷ lane_at x 13 j ∷ lane_at x 14 j ∷ lane_at x 15 j ∷ []

-- the 16 words of a state in four rows
abbrev pub rows : List (List ℕ) → List ℕ
rows v =
    lane_at v 0 0 ∷ lane_at v 0 1 ∷ lane_at v 0 2 ∷ lane_at v 0 3
    ∷ lane_at v 1 0 ∷ lane_at v 1 1 ∷ lane_at v 1 2 ∷ lane_at v 1 3
    ∷ lane_at v 2 0 ∷ lane_at v 2 1 ∷ lane_at v 2 2 ∷ lane_at v 2 3
    ∷ lane_at v 3 0 ∷ lane_at v 3 1 ∷ lane_at v 3 2 ∷ lane_at v 3 3 ∷ []

-- the 16 words of a message in four rows: the even and the odd words of its halves
abbrev pub paired_rows : List ℕ → List ℕ → List ℕ → List ℕ → List ℕ
paired_rows x y z w =
    slice_index x 0 ∷ slice_index y 0 ∷ slice_index x 1 ∷ slice_index y 1 ∷ slice_index x 2 ∷ slice_index y 2 ∷ slice_index x 3 ∷ slice_index y 3
    ∷ slice_index z 0 ∷ slice_index w 0 ∷ slice_index z 1 ∷ slice_index w 1 ∷ slice_index z 2 ∷ slice_index w 2 ∷ slice_index z 3 ∷ slice_index w 3 ∷ []

-- half k of a vector of eight lanes: four words
abbrev pub half : ℕ → List ℕ → List ℕ
half k v = slice_index v (4 * k) ∷ slice_index v (4 * k + 1) ∷ slice_index v (4 * k + 2) ∷ slice_index v (4 * k + 3) ∷ []

-- half k of each of four such vectors
abbrev pub halves : ℕ → List (List ℕ) → List (List ℕ)
halves k v = half k (slice_index_or v 0 []) ∷ half k (slice_index_or v 1 []) ∷ half k (slice_index_or v 2 []) ∷ half k (slice_index_or v 3 []) ∷ []

-- the input in lane j, with the counter t
abbrev pub lane_input : ℕ → List (List ℕ) → List (List ℕ) → ℕ → List ℕ → List ℕ → Input
lane_input j h m t b d = record {
  h = lane8 j h;
  m = lane16 j m;
  t = t;
  b = slice_index b j;
  d = slice_index d j;
}
