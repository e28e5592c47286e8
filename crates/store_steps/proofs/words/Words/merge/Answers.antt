use Rattle.std.proofs.Common.{◌≡◌, sym, ap, subst, ◌∙◌, arith}
use Rattle.store_core.specs.declared.view.SeatView.{SeatView}
use Rattle.store_core.proofs.Ordering.{join_keeps_order}
use Rattle.store_steps.specs.Grips.{Gripped, first_of}
use Rattle.store_core.specs.Knowledge.{IsMerged}
use Rattle.store_steps.specs.Plays.{Merges}
use Rattle.store_steps.proofs.Lists.{only, two_of}
use Rattle.store_steps.proofs.Meeting.{merge_turns, turn_asks}
use Rattle.store_steps.proofs.Regrouping.{join_asks}
use Rattle.store_steps.proofs.words.Words.merge.Goals as goal

pub join_seat-requires : goal.join_seat-requires
join_seat-requires c =
    let words = c.args.self.now in
    let seat = c.first.inside.seat in
    let other = c.second.inside.seat in (
      ap (λ (x : Gripped). x.table_id) c.first.view_is ∙ c.requires.first.table_is,
      ap (λ (x : Gripped). x.table_id) c.second.view_is ∙ c.requires.second.table_is,
      c.second.invariant.1,
      omega (arith, words.count),
      join_asks words seat.id other.id seat.me.0 other.me.0 c.first.invariant.0 c.second.invariant.0,
    )

pub load-requires : goal.load-requires
load-requires c =
    let words = c.args.self.now in
    let one = c.first.inside.seat.me in
    let two = c.second.inside.seat.me in
    let both = c.join_seat.new.seat in
    turn_asks words both (c.join_seat.ensures.0 ∙ ap (λ (x : Gripped). x.table_id) c.first.view_is ∙ c.requires.first.table_is) (first_of one.0) (first_of two.0)
    (two_of both.me one two c.join_seat.ensures.2 c.first.invariant.0 c.second.invariant.0) Merges
    (λ s kept at. merge_turns words.fixed s kept both.id (first_of one.0) (first_of two.0) at)

pub invariant_of-result : goal.invariant_of-result
invariant_of-result c =
    let one = c.first.inside.seat.me in
    let two = c.second.inside.seat.me in
    let t = c.load.ensures.2 (first_of one.0) (first_of two.0) (two_of c.join_seat.new.seat.me one two c.join_seat.ensures.2 c.first.invariant.0 c.second.invariant.0) in (
      only c.load.new.seat.me.0 t.0.view t.0.is,
      t.1 ∙ ap (λ m. m.1) c.join_seat.ensures.2 ∙ c.first.invariant.1,
    )

pub returns : goal.returns
returns c =
    let one = c.first.inside.seat.me in
    let two = c.second.inside.seat.me in
    let later : SeatView = first_of c.load.new.seat.me.0 in
    let t = c.load.ensures.2 (first_of one.0) (first_of two.0) (two_of c.join_seat.new.seat.me one two c.join_seat.ensures.2 c.first.invariant.0 c.second.invariant.0) in
    let view : t.0.view ≡ later = sym (ap first_of t.0.is) in
    let m : IsMerged c.args.first.view c.args.second.view later =
    subst (λ (v : SeatView × SeatView × SeatView). IsMerged v.0 v.1 v.2) (λ i. ((c.first.view_is i).view, (c.second.view_is i).view, view i)) t.0.merged in
    record {
      of = record {
        table_is = c.load.ensures.0 ∙ c.join_seat.ensures.0 ∙ ap (λ (x : Gripped). x.table_id) c.first.view_is ∙ c.requires.first.table_is;
        knows = record {
          fixed_is = m.joined.fixed_first ∙ c.requires.first.knows.fixed_is;
          legal = m.legal;
          ordered = join_keeps_order c.args.first.view c.args.second.view later m.joined m.apart c.requires.first.knows.ordered c.requires.second.knows.ordered;
        };
      };
      merged = m;
    }
