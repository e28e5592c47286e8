use Rattle.std.proofs.Common.{◌≡◌, ◌+◌, ◌-◌, ◌*◌, ◌/◌, ◌%◌, ◌<◌, ◌≤◌, ℕ, sym, subst, ◌∙◌, arith}
use Rattle.holders.specs.declared.fixed.Fixed.{Fixed}
use Rattle.store_core.specs.Histories.{state_after}
use Rattle.store_core.specs.States.{State}
use Rattle.store_shared.specs.Filled.{held_size}
use Rattle.store_shared.proofs.Holding.{chunk_ends, chunk_stops, held_below, still_held, chunk_size}
use Rattle.store_steps.specs.Grips.{Gripped}
use Rattle.store_shared.proofs.chunks.copy_chunk.Goals as goal

pub copy-size-requires-clause-item : goal.copy-size-requires-clause-item
copy-size-requires-clause-item c =
    let grip = c.args.grip.now in
    subst (λ (f : Fixed). (c.args.at + c.args.from) / 1024 < f.capacity) c.requires.of.knows.fixed_is
    (held_below grip.view.fixed grip.view.seen ((c.args.at + c.args.from) / 1024) c.requires.of.knows.legal c.requires.held)

pub returns-then-size-within-clause-stops : goal.returns-then-size-within-clause-stops
returns-then-size-within-clause-stops c =
    let grip = c.args.grip.now in
    let s : State = state_after grip.view.seen in
    let size = chunk_size grip.view.fixed grip.view.seen ((c.args.at + c.args.from) / 1024) c.copy-size.result c.requires.of.knows.legal c.requires.held c.copy-size.ensures.word in
    chunk_ends s c.args.at c.args.from c.copy-size.result _ size.0 c.if-size-within.true

pub copy_words-requires-clause-held : goal.copy_words-requires-clause-held
copy_words-requires-clause-held c =
    let grip = c.args.grip.now in
    let s : State = state_after grip.view.seen in
    let p : ℕ = c.args.at + c.args.from in
    let size = chunk_size grip.view.fixed grip.view.seen (p / 1024) c.copy-size.result c.requires.of.knows.legal c.requires.held c.copy-size.ensures.word in
    let whole : ℕ = (c.min-count.result - c.min-lead.result) / 8 in
    let same : c.copy_part.new.grip ≡ grip = c.copy_part.ensures.same ∙ c.copy-size.ensures.same in
    let q : ℕ = c.args.at + (c.args.from + c.min-lead.result) in
    subst (λ (g : Gripped). q % 1024 + 8 * whole ≤ held_size (state_after g.view.seen) (q / 1024)) (sym same)
    (still_held s p q c.min-lead.result (8 * whole) (omega arith) (omega (arith, size, c.min-count.ensures, c.min-lead.ensures, c.if-size-within.false)) (omega (arith, size)))

pub copy_part-requires-2-clause-place : goal.copy_part-requires-2-clause-place
copy_part-requires-2-clause-place c =
    let grip = c.args.grip.now in
    let s : State = state_after grip.view.seen in
    let p : ℕ = c.args.at + c.args.from in
    let size = chunk_size grip.view.fixed grip.view.seen (p / 1024) c.copy-size.result c.requires.of.knows.legal c.requires.held c.copy-size.ensures.word in
    omega (arith, size, c.requires.place, c.min-count.ensures, c.min-lead.ensures, c.if-size-within.false)

pub copy_part-requires-2-clause-held : goal.copy_part-requires-2-clause-held
copy_part-requires-2-clause-held c =
    let grip = c.args.grip.now in
    let s : State = state_after grip.view.seen in
    let p : ℕ = c.args.at + c.args.from in
    let size = chunk_size grip.view.fixed grip.view.seen (p / 1024) c.copy-size.result c.requires.of.knows.legal c.requires.held c.copy-size.ensures.word in
    let left : ℕ = c.min-count.result - c.min-lead.result in
    let same : c.copy_words.new.grip ≡ grip = c.copy_words.ensures.same ∙ c.copy_part.ensures.same ∙ c.copy-size.ensures.same in
    let q : ℕ = c.args.at + (c.args.from + c.min-lead.result + 8 * (left / 8)) in
    subst (λ (g : Gripped). q % 1024 + left % 8 ≤ held_size (state_after g.view.seen) (q / 1024)) (sym same)
    (still_held s p q (c.min-lead.result + 8 * (left / 8)) (left % 8) (omega arith) (omega (arith, size, c.min-count.ensures, c.min-lead.ensures, c.if-size-within.false)) (omega (arith, size)))

pub returns-clause-stops : goal.returns-clause-stops
returns-clause-stops c =
    let grip = c.args.grip.now in
    let s : State = state_after grip.view.seen in
    let p : ℕ = c.args.at + c.args.from in
    let size = chunk_size grip.view.fixed grip.view.seen (p / 1024) c.copy-size.result c.requires.of.knows.legal c.requires.held c.copy-size.ensures.word in
    chunk_stops grip.view.fixed grip.view.seen c.args.at c.args.from c.copy-size.result c.min-count.result _ c.requires.of.knows.legal size.0
    c.if-size-within.false c.min-count.ensures c.requires.room
