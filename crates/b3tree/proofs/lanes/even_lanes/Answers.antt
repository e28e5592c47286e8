use Rattle.std.proofs.Common.{◌≡◌, ◌<◌, ℕ, ◌*◌, List, [], ◌∷◌, ◌++◌, slice_index, slice_index_or, refl}
use Rattle.b3word.proofs.EightLanes.{below_four, eight_lanes}
use Rattle.b3tree.proofs.lanes.even_lanes.Goals as goal

-- the even lanes of a vector, each twice
abbrev chosen : List ℕ → List ℕ
chosen v = slice_index_or (v ++ v) 0 0 ∷ slice_index_or (v ++ v) 2 0 ∷ slice_index_or (v ++ v) 4 0 ∷ slice_index_or (v ++ v) 6 0 ∷ slice_index_or (v ++ v) 0 0 ∷ slice_index_or (v ++ v) 2 0 ∷ slice_index_or (v ++ v) 4 0 ∷ slice_index_or (v ++ v) 6 0 ∷ []

pub returns : goal.returns
returns c =
    eight_lanes (λ v. (j : ℕ) → j < 4 → slice_index (chosen v) j ≡ slice_index v (2 * j)) (λ a b c d e f g h. below_four _ refl refl refl refl)
    c.args.v c.fits-v.0
