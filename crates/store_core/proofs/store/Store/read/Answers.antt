use Rattle.std.proofs.Common.{◌+◌, take, slice_index, refl, arith}
use Rattle.store_core.proofs.BoundStore.{read_binds}
use Rattle.store_core.proofs.Copying.{IsFilled, copied_filled, copied_part, ends_at}
use Rattle.store_core.specs.Slots.{state_in, with_parents}
use Rattle.store_core.proofs.store.Store.read.Goals as goal

pub loop-done-preserved : goal.loop-done-preserved
loop-done-preserved c =
    copied_part c.args.self.now.slots.items c.as_slice.result.now c.args.at c.loop-done.done c.args.out.now c.loop-done.out c.put_bytes.new.out c.bytes_from-held.result.now c.min-count.result
    c.as_slice.ensures.value c.loop-done.invariant c.min-count.ensures (omega (arith, c.if-count-eq0.false)) c.bytes_from-held.ensures.held c.bytes_from-held.ensures.within c.put_bytes.ensures

pub returns-then-count-eq0-clause-event : goal.returns-then-count-eq0-clause-event
returns-then-count-eq0-clause-event c =
    let s = c.args.self.now in
    let done : IsFilled (state_in s.slots.items s.recorded) c.args.at c.loop-done.done c.args.out.now c.loop-done.out =
    copied_filled s.slots.items s.recorded c.args.at c.loop-done.done c.args.out.now c.loop-done.out c.loop-done.invariant c.loop-done.auto.out
    (λ more. ends_at s.slots.items c.as_slice.result.now c.args.at c.loop-done.done c.loop-done.out c.bytes_from-held.result.now c.min-count.result
    c.as_slice.ensures.value more c.min-count.ensures c.if-count-eq0.true c.bytes_from-held.ensures.none) in
    record {
      bytes = take c.loop-done.done c.loop-done.out;
      event = λ who. record { fixed = refl; right = done.right; after = refl };
      filled = done.filled;
      answer = (omega (arith, done.count, c.loop-done-test.true, c.loop-done.auto.out), omega (arith, done.count));
    }

pub returns-clause-event : goal.returns-clause-event
returns-clause-event c =
    let s = c.args.self.now in
    let done : IsFilled (state_in s.slots.items s.recorded) c.args.at c.loop-done.done c.args.out.now c.loop-done.out =
    copied_filled s.slots.items s.recorded c.args.at c.loop-done.done c.args.out.now c.loop-done.out c.loop-done.invariant c.loop-done.auto.out
    (λ more. absurd (omega (arith, more, c.loop-done-test.false))) in
    record {
      bytes = take c.loop-done.done c.loop-done.out;
      event = λ who. record { fixed = refl; right = done.right; after = refl };
      filled = done.filled;
      answer = omega (arith, done.count, c.loop-done-test.false, c.loop-done.auto.out, c.loop-done.invariant.within);
    }

pub returns-then-count-eq0-clause-binds : goal.returns-then-count-eq0-clause-binds
returns-then-count-eq0-clause-binds c = λ blob is by i below.
    let s = c.args.self.now in
    read_binds s.fixed (with_parents (state_in s.slots.items s.recorded) s.parents.items) blob (c.args.at + i) (slice_index c.loop-done.out i) c.is_keyed.ensures is
    (c.loop-done.invariant.got i (omega (arith, below))) by

pub returns-clause-binds : goal.returns-clause-binds
returns-clause-binds c = λ blob is by i below.
    let s = c.args.self.now in
    read_binds s.fixed (with_parents (state_in s.slots.items s.recorded) s.parents.items) blob (c.args.at + i) (slice_index c.loop-done.out i) c.is_keyed.ensures is
    (c.loop-done.invariant.got i (omega (arith, below, c.loop-done-test.false, c.loop-done.auto.out))) by
