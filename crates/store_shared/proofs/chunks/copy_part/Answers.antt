use Rattle.std.proofs.Common.{◌≡◌, ◌+◌, ◌/◌, ◌%◌, ◌<◌, ℕ, ◌-◌, refl, subst, ◌∙◌, arith}
use Rattle.holders.specs.declared.fixed.Fixed.{Fixed}
use Rattle.store_core.specs.Histories.{state_after}
use Rattle.store_shared.proofs.Holding.{held_valid, part_byte, part_filled, part_size, sized_below}
use Rattle.store_shared.proofs.chunks.copy_part.Goals as goal

pub copy-requires-clause-item : goal.copy-requires-clause-item
copy-requires-clause-item c =
    let grip = c.args.grip.now in
    subst (λ (f : Fixed). (c.args.at + c.args.from) / 1024 < f.capacity) c.requires.of.knows.fixed_is
    (sized_below grip.view.fixed grip.view.seen ((c.args.at + c.args.from) / 1024) c.requires.of.knows.legal (omega (arith, c.requires.held, c.if-count-eq0.false)))

pub returns-clause-filled : goal.returns-clause-filled
returns-clause-filled c =
    let grip = c.args.grip.now in
    let skip : ℕ = (c.args.at + c.args.from) % 8 in
    let span : ℕ = skip + c.args.count - skip in
    let same : span ≡ c.args.count = omega arith in
    part_filled (state_after grip.view.seen) c.args.at c.args.from c.args.count skip _ _ c.copy.result c.args.out.now c.put_bytes.new.out _
    (held_valid grip.view.fixed grip.view.seen c.requires.of.knows.legal) c.requires.held c.requires.word refl refl refl c.copy.ensures.word
    (part_size c.to_le_bytes-bytes.result c.copy.result skip span c.to_le_bytes-bytes.ensures (omega (arith, c.requires.word)) ∙ same)
    (λ k below. part_byte c.to_le_bytes-bytes.result c.copy.result skip span k c.to_le_bytes-bytes.ensures (omega (arith, below)))
    c.requires.room c.put_bytes.ensures
