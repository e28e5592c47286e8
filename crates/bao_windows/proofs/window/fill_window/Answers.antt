use Rattle.std.proofs.Common.{ℕ, ◌<◌, List, length, slice_index_or, arith}
use Rattle.bao_windows.proofs.Slots.{filled_so}
use Rattle.bao_windows.specs.declared.window.Slot.{Slot}
use Rattle.bao_windows.specs.Available.{IsTried}
use Rattle.bao_windows.proofs.window.fill_window.Goals as goal

pub returns : goal.returns
returns g c =
    let window : List Slot = c.for_each_mut.new.s in
    let tried : (i : ℕ) (d : Slot) → i < length c.args.window.now → IsTried g.S.Source.contents g.S.Source.faultless c.args.wanted.now c.args.sources.now c.args.start c.args.total i (slice_index_or window i d) =
    λ i d less. let call = c.for_each_mut.ensures i d less in grind arith in
    filled_so g.S.Source.contents g.S.Source.faultless c.args.wanted.now c.args.sources.now c.args.start c.args.total c.args.window.now window c.first_fault.result c.for_each_mut.auto.s
    (λ i d less. tried i d (omega (arith, less, c.for_each_mut.auto.s))) c.first_fault.ensures.none c.first_fault.ensures.some
