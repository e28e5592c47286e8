use Rattle.std.proofs.Common.{◌≡◌, ℕ, ◌+◌, ◌*◌, ◌++◌, length, take, drop, sym, subst, ◌∙◌, arith}
use Rattle.store_core.specs.Histories.{state_after}
use Rattle.store_shared.specs.Filled.{IsBufferFilled}
use Rattle.store_shared.proofs.CopiedParents.{beside, parent_more, parent_whole}
use Rattle.store_steps.specs.Grips.{Gripped}
use Rattle.store_steps.specs.Kinds.{parent_kind}
use Rattle.store_steps.specs.Tells.{FindsWord}
use Rattle.store_steps.specs.Words.{IsGripOf}
use Rattle.store_shared.proofs.nodes.copy_parent.Goals as goal

pub words-preserved : goal.words-preserved
words-preserved c =
    let grip = c.args.grip.now in
    let part = c.to_le_bytes-bytes.result in
    let at : 8 * c.from.result ≡ 0 + 8 * c.words.word = omega (arith, c.from.ensures) in (
      c.copy.ensures.same ∙ c.words.invariant.0,
      subst (λ (g : Gripped). IsGripOf c.args.words.now g) (sym c.copy.ensures.same) c.words.invariant.1,
      parent_more grip.view.fixed grip.view.seen c.args.boundary c.words.word c.copy.result c.args.out.now c.words.out c.put_bytes.new.out part
          c.requires.of.knows.legal c.requires.held c.words-test.true
          (subst (λ (g : Gripped). FindsWord parent_kind c.args.boundary c.words.word c.copy.result g.view) c.words.invariant.0 c.copy.ensures.word)
          c.to_le_bytes-bytes.ensures c.requires.room c.words.invariant.2
          (subst (λ (n : ℕ). c.put_bytes.new.out ≡ take n c.words.out ++ (part ++ drop (n + length part) c.words.out)) at c.put_bytes.ensures),
    )

pub returns-clause-copied : goal.returns-clause-copied
returns-clause-copied c =
    let grip = c.args.grip.now in
    let all : 0 + 8 * c.words.word ≡ 64 = omega (arith, c.words-test.false, c.words.auto.word-end) in
    parent_whole grip.view.fixed grip.view.seen c.args.boundary c.args.out.now c.words.out c.requires.of.knows.legal c.requires.held c.requires.room
    (subst (λ (n : ℕ). IsBufferFilled (beside (state_after grip.view.seen) c.args.boundary) 0 0 n c.args.out.now c.words.out) all c.words.invariant.2)
