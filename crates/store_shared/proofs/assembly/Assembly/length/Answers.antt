use Rattle.std.proofs.Common.{rules, ◌≡◌, ◌∙◌, ◌*◌, ◌≤◌, subst, sym}
use Rattle.b3tree.specs.Valid.{IsKeyed}
use Rattle.holders.specs.declared.fixed.Fixed.{Fixed}
use Rattle.store_core.specs.declared.view.SeatView.{SeatView}
use Rattle.store_core.specs.Knowledge.{IsViewOf}
use Rattle.store_core.proofs.Bound.{record_binds}
use Rattle.store_core.proofs.BoundStore.{if_some}
use Rattle.store_core.proofs.HasRoom.{base_recorded, recorded_fits}
use Rattle.store_shared.specs.Calls.{SeatLengthBinds}
use Rattle.store_shared.proofs.Asking.{called, length_there}
use Rattle.store_shared.proofs.assembly.Assembly.length.Goals as goal

pub returns : goal.returns
returns c =
    let old : SeatView = c.seat.inside.grip.view in
    let view : SeatView = c.length.new.grip.view in
    let knows : IsViewOf c.args.self.now.words.fixed view = c.length.ensures.of.knows in
    let there = length_there old view c.length.result (called _ old view c.length.ensures.did) in
    let keyed : IsKeyed view.fixed.mode = subst (λ (f : Fixed). IsKeyed f.mode) (c.fixed.ensures ∙ sym knows.fixed_is) c.is_keyed.ensures in
    record {
      of = search rules;
      called = search rules;
      binds = if_some c.length.result (λ l. SeatLengthBinds view l) (λ l is blob of. record_binds view.fixed view.seen blob l keyed of knows.legal (there ∙ is));
      fits = if_some c.length.result (λ l. l ≤ 1024 * c.args.self.now.words.fixed.capacity) (λ l is.
          subst (λ (f : Fixed). l ≤ 1024 * f.capacity) knows.fixed_is (recorded_fits view.fixed view.seen l knows.legal (there ∙ is)));
      whole = if_some c.length.result (λ l. c.args.self.now.words.fixed.base ≡ 0) (λ l is.
          subst (λ (f : Fixed). f.base ≡ 0) knows.fixed_is (base_recorded view.fixed view.seen l knows.legal (there ∙ is)));
    }
