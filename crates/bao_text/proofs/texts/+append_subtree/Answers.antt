use Rattle.std.proofs.Common.{◌+◌, List, ℕ, ◌++◌, true, ◌∙◌, ap, arith}
use Rattle.b3tree.specs.Tree.{parent_input}
use Rattle.bao_text.specs.EightText.{eight_text}
use Rattle.bao_text.proofs.EightChunks.{text-eight, top-eight}
use Rattle.bao_text.proofs.texts.+append_subtree.Goals as goal

pub returns-then-covers-clause-top : goal.returns-then-covers-clause-top
returns-then-covers-clause-top t c =
    let mode = c.args.mode.now in
    c.parent_input.ensures
    ∙ (λ i. parent_input mode (c.eight_parents-parents.ensures i).top.left.0 (c.eight_parents-parents.ensures i).top.right.0)
    ∙ top-eight mode c.args.first c.args.bytes.now c.if-bytes-eq-EIGHT_LEN.true

pub returns-then-covers-clause-text : goal.returns-then-covers-clause-text
returns-then-covers-clause-text t c =
    let old : List ℕ = c.args.text.now.items in
    let covered = c.covers.ensures.0 c.if-covers.true in
    c.in_ok-append_eight.ensures
    ∙ (λ i. old ++ eight_text c.args.choice.now (c.eight_parents-parents.ensures i) c.args.bytes.now)
    ∙ ap (λ (xs : List ℕ). old ++ xs) (text-eight c.args.choice.now c.args.mode.now c.args.first c.args.bytes.now covered.0 (omega (arith, covered.1)) c.if-bytes-eq-EIGHT_LEN.true)
