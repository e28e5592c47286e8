use Rattle.std.proofs.Common.{◌≡◌, ◌+◌, ◌-◌, ◌^◌, min, ℕ, List, take, IfSome, ap, ◌∙◌, arith}
use Rattle.bao_files.proofs.Results.{with_right}
use Rattle.bao_decode.specs.Copies.{IsEnough}
use Rattle.bao_decode.proofs.Fronts.{first_known, none_more, rest_known}
use Rattle.bao_decode.proofs.plain_copy.placed_outboard.Goals as goal

pub returns-then-limit-len-clause-enough : goal.returns-then-limit-len-clause-enough
returns-then-limit-len-clause-enough g c =
    let text : List ℕ = c.in_ok-text.text.items in
    let seen : c.as_slice.result.now ≡ text = c.as_slice.ensures.value in
    let limit : ℕ = c.outboard_limit-limit.result in
    first_known c.args.mode.now c.args.root.now.0 (g.S.Source.contents c.args.source.now) c.args.size text c.as_slice.result.now limit seen
    (omega (arith, c.if-limit-len.true, c.len.ensures, c.as_slice.ensures.len)) c.in_ok-text.ensures.front
    c.outboard_limit-limit.ensures.accepted c.outboard_limit-limit.ensures.claims c.outboard_limit-limit.ensures.refused

pub returns-then-len-size-clause-enough : goal.returns-then-len-size-clause-enough
returns-then-len-size-clause-enough g c =
    let first : List ℕ = c.in_ok-text.text.items in
    let limit : ℕ = c.outboard_limit-limit.result in
    let contents = g.S.Source.contents c.args.source.now in
    let n_is : c.min-most.result ≡ min limit (min (c.args.size + 1) (2 ^ 64 - 1)) = c.min-most.ensures ∙ ap (λ (k : ℕ). min limit k) c.saturating_add.ensures in
    rest_known c.args.mode.now c.args.root.now.0 contents c.args.size first c.as_slice.result.now c.in_ok-more.more.items limit c.min-most.result c.as_slice.ensures.value n_is
    (omega (arith, c.if-limit-len.false, c.len.ensures, c.as_slice.ensures.len)) c.ranges.size.fits c.in_ok-text.ensures.front c.in_ok-more.ensures.front
    c.outboard_limit-limit.ensures.claims

pub returns-clause-enough : goal.returns-clause-enough
returns-clause-enough g c =
    let contents = g.S.Source.contents c.args.source.now in
    with_right c.front_of-3.result (λ text. IfSome contents (λ s. text.items ≡ take c.outboard_limit-limit.result s))
    (λ text read.
    none_more contents (λ s. IsEnough c.args.mode.now c.args.root.now.0 s text.items) c.args.size c.min-most.result c.in_ok-more.more.items c.in_ok-more.ensures.front
    (omega (arith, c.if-len-size.false, c.len-2.ensures)))
    c.front_of-3.ensures.front
