use Rattle.std.proofs.Common.{◌≡◌, ℕ, ◌-◌, ◌*◌, ◌/◌, List, take, true, false, sym, subst, ◌∙◌, arith}
use Rattle.std.proofs.lemmas.List.{length-take-le}
use Rattle.b3tree.proofs.Pieces.{IsPowerOfTwo_half}
use Rattle.bao_check.specs.Whole.{IsWholeAsked}
use Rattle.bao_check.proofs.WholeGood.{whole_ahead}
use Rattle.bao_check.proofs.walk.whole_at_hand.Goals as goal

pub returns-then-is_whole_text : goal.returns-then-is_whole_text
returns-then-is_whole_text c =
    let covers = c.covers.ensures.0 c.if-not-covers.false in
    let count = c.in_ok-chunks.ensures in
    let len : ℕ = 8704 * c.in_ok-chunks.chunks - 64 in
    let ahead : List ℕ = c.args.bytes.now in
    whole_ahead true c.args.asked.now c.args.choice.now c.args.mode.now c.args.number c.args.n c.in_ok-chunks.chunks len ahead
    count.1 count.0 (sym c.has_chunks.ensures ∙ c.if-has_chunks.true) covers.0 covers.1 c.if-bytes-len.true
    (c.is_whole_text.ensures c.if-is_whole_text.true count.0)

pub is_whole_outline-requires-clause-len : goal.is_whole_outline-requires-clause-len
is_whole_outline-requires-clause-len c = grind (arith, IsPowerOfTwo_half, length-take-le)

pub returns-then-is_whole_outline : goal.returns-then-is_whole_outline
returns-then-is_whole_outline c =
    let covers = c.covers.ensures.0 c.if-not-covers.false in
    let count = c.in_ok-chunks.ensures in
    let chunks : ℕ = c.in_ok-chunks.chunks in
    let halved = IsPowerOfTwo_half chunks count.0 c.if-chunks-gt1.true in
    let all : 16 * (chunks / 2) ≡ 8 * chunks = omega (arith, halved.1) in
    let len : ℕ = 512 * chunks - 64 in
    let ahead : List ℕ = c.args.bytes.now in
    whole_ahead false c.args.asked.now c.args.choice.now c.args.mode.now c.args.number c.args.n chunks len ahead
    count.1 count.0 (sym c.has_chunks.ensures ∙ c.if-has_chunks.false) covers.0 covers.1 c.if-bytes-len-2.true
    (subst (λ (k : ℕ). IsWholeAsked false c.args.asked.now c.args.mode.now c.args.number k (take len ahead)) all
    (c.is_whole_outline.ensures c.if-is_whole_outline.true c.args.number halved.0))
