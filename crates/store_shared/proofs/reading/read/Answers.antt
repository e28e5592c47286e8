use Rattle.std.proofs.Common.{sym, subst, ◌∙◌}
use Rattle.b3tree.specs.Valid.{IsKeyed}
use Rattle.holders.specs.declared.fixed.Fixed.{Fixed}
use Rattle.store_shared.proofs.Ending.{binds}
use Rattle.store_shared.proofs.reading.read.Goals as goal

pub returns-clause-binds : goal.returns-clause-binds
returns-clause-binds c =
    binds c.args.grip.now.view c.read_event.new.grip.view c.args.at c.args.out.now c.read_event.new.out _
    (subst (λ (f : Fixed). IsKeyed f.mode) (c.fixed.ensures ∙ sym c.read_event.ensures.of.knows.fixed_is) c.is_keyed.ensures) c.read_event.ensures.read
