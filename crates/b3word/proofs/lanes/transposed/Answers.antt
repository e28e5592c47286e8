use Rattle.std.proofs.Common.{◌≡◌, ℕ, ◌<◌, List, [], ◌∷◌, length, slice_index_or, refl, ap, ◌∙◌}
use Rattle.b3word.specs.Lanes.{lane8}
use Rattle.b3word.proofs.EightLanes.{below_eight, columns, columns-column, columns-lane}
use Rattle.b3word.proofs.lanes.transposed.Goals as goal
use Rattle.b3word.proofs.lanes.transposed.Goals.{After-by_halves-4}

-- the vectors are the lanes of the rows
exchanged : (c : After-by_halves-4)
    → c.by_halves.result.0 ∷ c.by_halves-2.result.0 ∷ c.by_halves-3.result.0 ∷ c.by_halves-4.result.0
    ∷ c.by_halves.result.1 ∷ c.by_halves-2.result.1 ∷ c.by_halves-3.result.1 ∷ c.by_halves-4.result.1 ∷ []
    ≡ columns c.args.rows.now
exchanged c =
    rw (
      c.by_halves.ensures.front,
      c.by_halves-2.ensures.front,
      c.by_halves-3.ensures.front,
      c.by_halves-4.ensures.front,
      c.by_halves.ensures.back,
      c.by_halves-2.ensures.back,
      c.by_halves-3.ensures.back,
      c.by_halves-4.ensures.back,
      c.by_pairs.ensures.front,
      c.by_pairs-2.ensures.front,
      c.by_pairs-3.ensures.front,
      c.by_pairs-4.ensures.front,
      c.by_pairs.ensures.back,
      c.by_pairs-2.ensures.back,
      c.by_pairs-3.ensures.back,
      c.by_pairs-4.ensures.back,
      c.by_words.ensures.front,
      c.by_words-2.ensures.front,
      c.by_words-3.ensures.front,
      c.by_words-4.ensures.front,
      c.by_words.ensures.back,
      c.by_words-2.ensures.back,
      c.by_words-3.ensures.back,
      c.by_words-4.ensures.back,
    ) refl

pub returns-clause-lanes : goal.returns-clause-lanes
returns-clause-lanes c = λ j h.
    let eight : (k : ℕ) → k < 8 → length (slice_index_or c.args.rows.now k []) ≡ 8 =
    below_eight _ c.by_words.ensures.lanes.0 c.by_words.ensures.lanes.1 c.by_words-2.ensures.lanes.0 c.by_words-2.ensures.lanes.1
    c.by_words-3.ensures.lanes.0 c.by_words-3.ensures.lanes.1 c.by_words-4.ensures.lanes.0 c.by_words-4.ensures.lanes.1 in
    ap (lane8 j) (exchanged (goal.at.returns-clause-lanes c).After-by_halves-4) ∙ columns-lane c.args.rows.now eight j h

pub returns-clause-vectors : goal.returns-clause-vectors
returns-clause-vectors c = λ j h. ap (λ (vs : List (List ℕ)). slice_index_or vs j []) (exchanged (goal.at.returns-clause-vectors c).After-by_halves-4) ∙ columns-column c.args.rows.now j h
