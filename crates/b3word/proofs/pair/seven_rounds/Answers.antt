use Rattle.std.proofs.Common.{◌≡◌, ℕ, List, refl}
use Rattle.b3word.specs.Compression.{round_words, rounds}
use Rattle.b3word.specs.Lanes.{half, halves, paired_rows, rows}
use Rattle.b3word.proofs.Rounds.{next_state, next_words}
use Rattle.b3word.proofs.pair.seven_rounds.Goals as goal

pub returns : goal.returns
unfolding rounds round_words
returns g c = λ k h.
    let s : List ℕ = rows (halves k c.args.v) in
    let m : List ℕ = paired_rows (half k c.args.x) (half k c.args.y) (half k c.args.z) (half k c.args.w) in
    let m1 : _ ≡ round_words m 1 = next_words m _ m 0 (c.permuted.ensures k h) refl in
    let m2 : _ ≡ round_words m 2 = next_words _ _ m 1 (c.permuted-2.ensures k h) m1 in
    let m3 : _ ≡ round_words m 3 = next_words _ _ m 2 (c.permuted-3.ensures k h) m2 in
    let m4 : _ ≡ round_words m 4 = next_words _ _ m 3 (c.permuted-4.ensures k h) m3 in
    let m5 : _ ≡ round_words m 5 = next_words _ _ m 4 (c.permuted-5.ensures k h) m4 in
    let m6 : _ ≡ round_words m 6 = next_words _ _ m 5 (c.permuted-6.ensures k h) m5 in
    let v1 : _ ≡ rounds s m 1 = next_state s _ m s m 0 (c.round-v1.ensures k h) refl refl in
    let v2 : _ ≡ rounds s m 2 = next_state _ _ _ s m 1 (c.round-v2.ensures k h) v1 m1 in
    let v3 : _ ≡ rounds s m 3 = next_state _ _ _ s m 2 (c.round-v3.ensures k h) v2 m2 in
    let v4 : _ ≡ rounds s m 4 = next_state _ _ _ s m 3 (c.round-v4.ensures k h) v3 m3 in
    let v5 : _ ≡ rounds s m 5 = next_state _ _ _ s m 4 (c.round-v5.ensures k h) v4 m4 in
    let v6 : _ ≡ rounds s m 6 = next_state _ _ _ s m 5 (c.round-v6.ensures k h) v5 m5 in
    next_state _ _ _ s m 6 (c.round.ensures k h) v6 m6
