use Rattle.std.proofs.Common.{◌≡◌, ℕ, List, refl}
use Rattle.b3word.specs.Compression.{round_words, rounds}
use Rattle.b3word.specs.Lanes.{paired_rows, rows}
use Rattle.b3word.proofs.Rounds.{next_state, next_words}
use Rattle.b3word.proofs.compression.seven_rounds.Goals as goal

pub returns : goal.returns
unfolding rounds round_words
returns c =
    let s : List ℕ = rows c.args.v in
    let m : List ℕ = paired_rows c.args.x c.args.y c.args.z c.args.w in
    let m1 : _ ≡ round_words m 1 = next_words m _ m 0 c.permuted.ensures refl in
    let m2 : _ ≡ round_words m 2 = next_words _ _ m 1 c.permuted-2.ensures m1 in
    let m3 : _ ≡ round_words m 3 = next_words _ _ m 2 c.permuted-3.ensures m2 in
    let m4 : _ ≡ round_words m 4 = next_words _ _ m 3 c.permuted-4.ensures m3 in
    let m5 : _ ≡ round_words m 5 = next_words _ _ m 4 c.permuted-5.ensures m4 in
    let m6 : _ ≡ round_words m 6 = next_words _ _ m 5 c.permuted-6.ensures m5 in
    let v1 : _ ≡ rounds s m 1 = next_state s _ m s m 0 c.round-v1.ensures refl refl in
    let v2 : _ ≡ rounds s m 2 = next_state _ _ _ s m 1 c.round-v2.ensures v1 m1 in
    let v3 : _ ≡ rounds s m 3 = next_state _ _ _ s m 2 c.round-v3.ensures v2 m2 in
    let v4 : _ ≡ rounds s m 4 = next_state _ _ _ s m 3 c.round-v4.ensures v3 m3 in
    let v5 : _ ≡ rounds s m 5 = next_state _ _ _ s m 4 c.round-v5.ensures v4 m4 in
    let v6 : _ ≡ rounds s m 6 = next_state _ _ _ s m 5 c.round-v6.ensures v5 m5 in
    next_state _ _ _ s m 6 c.round.ensures v6 m6
