use Rattle.std.proofs.Common.{◌≡◌, ◌∙◌, ℕ, ◌+◌, ◌*◌, ◌++◌, ap, arith, length}
use Rattle.bao_text.specs.Choice.{of_outboard}
use Rattle.bao_text.specs.Texts.{subtree_text}
use Rattle.berylwool.proofs.SubtreeParents.{length-parents, same_parents}
use Rattle.berylwool.proofs.writing.parents_of.Goals as goal

pub returns-clause-text : goal.returns-clause-text
returns-clause-text c = λ total fits.
    c.in_ok-append_subtree.ensures.text
    ∙ (λ i. c.new-text.ensures.items i ++ subtree_text (c.of_outboard.ensures i) c.args.mode.now c.args.first c.args.bytes.now)
    ∙ same_parents (1024 * c.args.first + length c.args.bytes.now) total c.args.mode.now c.args.first c.args.bytes.now (omega arith) fits

pub returns-clause-size : goal.returns-clause-size
returns-clause-size c =
    let own : ℕ = 1024 * c.args.first + length c.args.bytes.now in
    let text : c.append_subtree.new.text.items ≡ subtree_text (of_outboard own) c.args.mode.now c.args.first c.args.bytes.now =
    c.in_ok-append_subtree.ensures.text ∙ (λ i. c.new-text.ensures.items i ++ subtree_text (c.of_outboard.ensures i) c.args.mode.now c.args.first c.args.bytes.now) in
    ap length text ∙ length-parents own c.args.mode.now c.args.first c.args.bytes.now (omega arith)
