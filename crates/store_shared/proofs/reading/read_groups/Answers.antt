use Rattle.std.proofs.Common.{◌≡◌, ◌⊎◌, ◌+◌, ◌*◌, ◌<◌, ◌≤◌, length, refl, sym, ap, subst, ◌∙◌, arith, inl, inr, None, Some}
use Rattle.holders.specs.declared.fixed.Fixed.{Fixed}
use Rattle.store_core.specs.Histories.{state_after}
use Rattle.store_shared.specs.Filled.{IsBufferFilled}
use Rattle.store_shared.specs.Reading.{SeatDidRead}
use Rattle.store_shared.proofs.Ending.{read_less, read_on, read_whole}
use Rattle.store_steps.specs.Grips.{Gripped}
use Rattle.store_steps.specs.Reads.{group_end}
use Rattle.store_steps.specs.Words.{IsGripOf}
use Rattle.store_shared.proofs.reading.read_groups.Goals as goal
use Rattle.store_core.specs.Knowledge.{Sees}

pub returns-then-next-out-clause-read : goal.returns-then-next-out-clause-read
returns-then-next-out-clause-read c =
    subst (λ (g : Gripped). SeatDidRead c.args.grip.now.view g.view c.args.at c.args.out.now c.copy_group-next.new.out None) (sym c.copy_group-next.ensures.same)
    (read_whole c.args.words.now.fixed c.args.grip.now.view c.groups.grip.view c.load-held.new.grip.view c.groups.group c.args.at c.groups.done c.copy_group-next.result _
    c.args.out.now c.groups.out c.copy_group-next.new.out c.groups.invariant.0.knows.fixed_is c.groups.invariant.1 c.groups.invariant.2 refl c.load-held.ensures.looked
    c.copy_group-next.ensures.filled c.copy_group-next.ensures.stops (c.if-next-out.true ∙ c.copy_group-next.ensures.filled.size ∙ c.groups.invariant.2.size))

pub returns-then-position-end_of-clause-read : goal.returns-then-position-end_of-clause-read
returns-then-position-end_of-clause-read c =
    let fixed : Fixed = c.args.words.now.fixed in
    let copied = c.copy_group-next.ensures in
    let limit : c.limit_of-limit.result ≡ 1024 * fixed.capacity = c.limit_of-limit.ensures ∙ ap (λ (f : Fixed). 1024 * f.capacity) c.fixed.ensures in
    let less : c.copy_group-next.result < length c.args.out.now = omega (arith, copied.filled.within, copied.filled.size, c.groups.invariant.2.size, c.if-next-out.false) in
    let why : (c.args.at + c.copy_group-next.result < group_end c.groups.group) ⊎ (1024 * fixed.capacity ≤ c.args.at + c.copy_group-next.result) =
    elim c.then-position-end_of.either [
      | inl inside ↦ inl (omega (arith, inside, c.end_of.ensures))
      | inr past ↦ inr (omega (arith, past.1, limit))
    ] in
    subst (λ (g : Gripped). SeatDidRead c.args.grip.now.view g.view c.args.at c.args.out.now c.copy_group-next.new.out (Some (c.args.at + c.copy_group-next.result))) (sym copied.same)
    (read_less fixed c.args.grip.now.view c.groups.grip.view c.load-held.new.grip.view c.groups.group c.args.at c.groups.done c.copy_group-next.result _
    c.args.out.now c.groups.out c.copy_group-next.new.out c.groups.invariant.0.knows.fixed_is c.groups.invariant.1 c.groups.invariant.2 refl c.load-held.ensures.looked
    copied.filled copied.stops less why)

pub groups-preserved : goal.groups-preserved
groups-preserved c =
    let fixed : Fixed = c.args.words.now.fixed in
    let copied = c.copy_group-next.ensures in
    let limit : c.limit_of-limit.result ≡ 1024 * fixed.capacity = c.limit_of-limit.ensures ∙ ap (λ (f : Fixed). 1024 * f.capacity) c.fixed.ensures in
    let less : c.copy_group-next.result < length c.args.out.now = omega (arith, copied.filled.within, copied.filled.size, c.groups.invariant.2.size, c.if-next-out.false) in
    let end : group_end c.groups.group ≤ c.args.at + c.copy_group-next.result = omega (arith, c.if-position-end_of.false, c.end_of.ensures) in
    let below : c.args.at + c.copy_group-next.result < 1024 * fixed.capacity = omega (arith, c.if-limit-position.false, limit) in
    let on = read_on fixed c.args.grip.now.view c.groups.grip.view c.load-held.new.grip.view c.groups.group c.args.at c.groups.done c.copy_group-next.result _
    c.args.out.now c.groups.out c.copy_group-next.new.out c.groups.invariant.0.knows.fixed_is c.groups.invariant.1 c.groups.invariant.2 refl c.load-held.ensures.looked
    copied.filled copied.stops less end below in (
      subst (λ (g : Gripped). IsGripOf c.args.words.now g) (sym copied.same) c.load-held.ensures.of,
      subst (λ (g : Gripped). Sees c.args.grip.now.view g.view) (sym copied.same) on.0,
      subst (λ (g : Gripped). IsBufferFilled (state_after g.view.seen) c.args.at 0 c.copy_group-next.result c.args.out.now c.copy_group-next.new.out) (sym copied.same) on.1,
      omega (arith, end),
      omega (arith, copied.stops.within),
      below,
      omega (arith, less, copied.filled.size, c.groups.invariant.2.size),
    )
