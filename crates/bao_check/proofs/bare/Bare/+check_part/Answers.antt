use Rattle.std.proofs.Common.{rules, ◌≡◌, ℕ, ◌<◌, ◌+◌, ◌-◌, List, take, drop, ap, ◌∙◌, arith}
use Rattle.std.proofs.lemmas.Result.{IfErr-weaker, err_from_is_err_and, on_ok_weaker}
use Rattle.bao_text.specs.Nodes.{Side, left, right}
use Rattle.bao_check.specs.declared.asked.Asked.{Asked}
use Rattle.bao_check.proofs.BareReached.{far_reached, near_reached}
use Rattle.bao_check.proofs.BareWalking.{passes_chunk, passes_parts, stops_chunk, stops_far, stops_near}
use Rattle.bao_check.proofs.Parts.{below}
use Rattle.bao_check.proofs.bare.Bare.+check_part.Goals as goal

-- the subtree has no wanted chunk
pub returns-then-number-self-clause-ok : goal.returns-then-number-self-clause-ok
returns-then-number-self-clause-ok t c = grind arith

pub returns-then-n-chunk_len-clause-ok : goal.returns-then-n-chunk_len-clause-ok
returns-then-n-chunk_len-clause-ok t c = search (rules, arith, on_ok_weaker, passes_chunk)

pub returns-then-n-chunk_len-clause-err : goal.returns-then-n-chunk_len-clause-err
returns-then-n-chunk_len-clause-err t c = λ root sides source reaches.
    IfErr-weaker c.check_chunk.result _ _
    (λ fault. stops_chunk c.args.self.now root c.args.asked.now c.args.number c.args.n sides source c.args.at c.if-n-chunk_len.true reaches fault
    (omega (arith, c.if-number-max.false)) (omega (arith, c.if-number-self.false)))
    c.check_chunk.ensures.err

-- what a parent asks of a part
half : (side : Side) {asked : Asked} (at : ℕ) (outline : List ℕ) → asked ≡ below side (take (at + 64 - at) (drop at outline)) → asked ≡ below side (take 64 (drop at outline))
half side at outline is = let len : at + 64 - at ≡ 64 = omega arith in is ∙ ap (λ (k : ℕ). below side (take k (drop at outline))) len

pub returns-in_err-check_part-clause-err : goal.returns-in_err-check_part-clause-err
returns-in_err-check_part-clause-err t c = λ root sides source reaches.
    let more : 1024 < c.args.n = omega (arith, c.if-n-chunk_len.false) in
    let l_is = c.left_len-left_len.ensures.value in
    let near = near_reached more reaches l_is (half left c.args.at c.args.self.now.outline.now c.halves.ensures.left) in
    let p = err_from_is_err_and c.from_residual.result c.from_residual.ensures.1 in
    rw (p.1, p.2) (stops_near c.args.self.now root c.args.number c.args.n _ more l_is c.in_err-check_part.field-0.0 (c.in_err-check_part.ensures.err root _ _ near))

pub returns-clause-ok : goal.returns-clause-ok
returns-clause-ok t c = λ root sides source reaches.
    let more : 1024 < c.args.n = omega (arith, c.if-n-chunk_len.false) in
    let l_is = c.left_len-left_len.ensures.value in
    let near = near_reached more reaches l_is (half left c.args.at c.args.self.now.outline.now c.halves.ensures.left) in
    let far = far_reached more reaches l_is (half right c.args.at c.args.self.now.outline.now c.halves.ensures.right) in
    on_ok_weaker c.check_part-2.result (passes_parts c.args.self.now root c.args.number c.args.n _ more l_is (c.in_ok-check_part.ensures.ok root _ _ near)) (c.check_part-2.ensures.ok root _ _ far)

pub returns-clause-err : goal.returns-clause-err
returns-clause-err t c = λ root sides source reaches.
    let more : 1024 < c.args.n = omega (arith, c.if-n-chunk_len.false) in
    let l_is = c.left_len-left_len.ensures.value in
    let near = near_reached more reaches l_is (half left c.args.at c.args.self.now.outline.now c.halves.ensures.left) in
    let far = far_reached more reaches l_is (half right c.args.at c.args.self.now.outline.now c.halves.ensures.right) in
    IfErr-weaker c.check_part-2.result _ _ (λ fault. stops_far c.args.self.now root c.args.number c.args.n _ more l_is fault (c.in_ok-check_part.ensures.ok root _ _ near))
    (c.check_part-2.ensures.err root _ _ far)
