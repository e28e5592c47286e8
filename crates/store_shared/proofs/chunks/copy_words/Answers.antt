use Rattle.std.proofs.Common.{◌+◌, ◌/◌, ◌%◌, ◌<◌, refl, sym, subst, ◌∙◌, arith}
use Rattle.holders.specs.declared.fixed.Fixed.{Fixed}
use Rattle.store_core.specs.Histories.{state_after}
use Rattle.store_shared.proofs.Holding.{held_valid, size_fits, sized_below, words_more}
use Rattle.store_steps.specs.Grips.{Gripped}
use Rattle.store_steps.specs.Kinds.{chunk_kind}
use Rattle.store_steps.specs.Tells.{FindsWord}
use Rattle.store_steps.specs.Words.{IsGripOf}
use Rattle.store_shared.proofs.chunks.copy_words.Goals as goal

pub overflow_cast-first : goal.overflow_cast-first
overflow_cast-first c =
    omega (arith, c.requires.held, size_fits c.args.grip.now.view.fixed c.args.grip.now.view.seen ((c.args.at + c.args.from) / 1024) c.requires.of.knows.legal, c.words-test.true)

pub copy-requires-clause-item : goal.copy-requires-clause-item
copy-requires-clause-item c =
    let grip = c.args.grip.now in
    subst (λ (f : Fixed). (c.args.at + c.args.from) / 1024 < f.capacity) c.requires.of.knows.fixed_is
    (sized_below grip.view.fixed grip.view.seen ((c.args.at + c.args.from) / 1024) c.requires.of.knows.legal (omega (arith, c.requires.held, c.words-test.true)))

pub copy-requires-clause-word : goal.copy-requires-clause-word
copy-requires-clause-word c =
    omega (arith, c.requires.held, size_fits c.args.grip.now.view.fixed c.args.grip.now.view.seen ((c.args.at + c.args.from) / 1024) c.requires.of.knows.legal, c.words-test.true, c.requires.word)

pub words-preserved : goal.words-preserved
words-preserved c =
    let grip = c.args.grip.now in (
      c.copy.ensures.same ∙ c.words.invariant.0,
      subst (λ (g : Gripped). IsGripOf c.args.words.now g) (sym c.copy.ensures.same) c.words.invariant.1,
      words_more (state_after grip.view.seen) c.args.at c.args.from c.words.i c.args.count _ _ c.copy.result c.args.out.now c.words.out c.put_bytes.new.out c.to_le_bytes-bytes.result
          (held_valid grip.view.fixed grip.view.seen c.requires.of.knows.legal) c.requires.held c.requires.word c.words-test.true refl refl
          (subst (λ (g : Gripped). FindsWord chunk_kind ((c.args.at + c.args.from) / 1024) ((c.args.at + c.args.from) % 1024 / 8 + 1 + c.words.i) c.copy.result g.view) c.words.invariant.0 c.copy.ensures.word)
          c.to_le_bytes-bytes.ensures c.requires.room c.words.invariant.2 c.put_bytes.ensures,
    )
