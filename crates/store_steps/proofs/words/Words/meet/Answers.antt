use Rattle.std.proofs.Common.{◌≡◌, List, [], ◌∷◌, ◌++◌, sym, ap, subst, ◌∙◌, arith}
use Rattle.atomic_table.specs.declared.shared.Seat.{Seat}
use Rattle.atomic_table.specs.Table.{Me}
use Rattle.holders.specs.declared.fixed.Fixed.{Fixed}
use Rattle.store_core.specs.declared.history.Event.{Event}
use Rattle.store_core.specs.declared.view.SeatView.{SeatView}
use Rattle.store_core.specs.Histories.{IsLegal}
use Rattle.store_steps.specs.Grips.{Gripped, first_of}
use Rattle.store_core.specs.Knowledge.{AreMet, IsViewOf}
use Rattle.store_steps.specs.Plays.{MeetsSeat, later_views}
use Rattle.store_steps.proofs.Lists.{only, two_of}
use Rattle.store_steps.proofs.Meeting.{meet_turns, turn_asks}
use Rattle.store_steps.proofs.Regrouping.{enter_asks, join_asks, leave_asks}
use Rattle.store_steps.proofs.words.Words.meet.Goals as goal

-- the views of two seats that were joined, the second out of its place
joined : (first second other : Seat (Unit {0}) (List SeatView)) (both : Me Unit (List SeatView)) → both ≡ (first.me.0 ++ other.me.0, first.me.1) → other ≡ second
    → first.me.0 ≡ first_of first.me.0 ∷ [] → second.me.0 ≡ first_of second.me.0 ∷ [] → both.0 ≡ first_of first.me.0 ∷ first_of second.me.0 ∷ []
joined first second other both is same one two =
    two_of both first.me second.me (is ∙ ap (λ (s : Seat (Unit {0}) (List SeatView)). (first.me.0 ++ s.me.0, first.me.1)) same) one two

-- a view that has seen a legal history is one of its store
met_knows : (fixed : Fixed) (view new : SeatView) (history : List Event) → new ≡ record view { seen = history } → IsLegal view.fixed history → IsViewOf fixed view → IsViewOf fixed new
met_knows fixed view new history is legal old =
    subst (λ (v : SeatView). IsViewOf fixed v) (sym is) (record { fixed_is = old.fixed_is; legal = legal; ordered = old.ordered })

pub load_new_seat-spare-requires : goal.load_new_seat-spare-requires
load_new_seat-spare-requires c =
    let words = c.args.self.now in (omega (arith, words.count), enter_asks words words.table.shared.table_id.slots 0)

pub join_seat-requires : goal.join_seat-requires
join_seat-requires c =
    let words = c.args.self.now in
    let seat = c.first.inside.seat in
    let other = c.replace-other.result in
    let me : other.me ≡ c.second.inside.seat.me = ap (λ x. x.me) c.replace-other.ensures.value in
    let one : other.me.0 ≡ first_of other.me.0 ∷ [] =
    subst (λ (m : Me Unit (List SeatView)). m.0 ≡ first_of m.0 ∷ []) (sym me) c.second.invariant.0 in (
      ap (λ (x : Gripped). x.table_id) c.first.view_is ∙ c.requires.first.table_is,
      ap (λ x. x.table_id) c.replace-other.ensures.value ∙ ap (λ (x : Gripped). x.table_id) c.second.view_is ∙ c.requires.second.table_is,
      ap (λ (m : Me Unit (List SeatView)). m.1) me ∙ c.second.invariant.1,
      omega (arith, words.count),
      join_asks words seat.id other.id seat.me.0 other.me.0 c.first.invariant.0 one,
    )

pub load-requires : goal.load-requires
load-requires c =
    let words = c.args.self.now in
    let one = c.first.inside.seat in
    let two = c.second.inside.seat in
    let both = c.join_seat.new.seat in
    turn_asks words both (c.join_seat.ensures.0 ∙ ap (λ (x : Gripped). x.table_id) c.first.view_is ∙ c.requires.first.table_is) (first_of one.me.0) (first_of two.me.0)
    (joined one two c.replace-other.result both.me c.join_seat.ensures.2 c.replace-other.ensures.value c.first.invariant.0 c.second.invariant.0) MeetsSeat
    (λ s kept at. meet_turns words.fixed s kept both.id (first_of one.me.0) (first_of two.me.0) at)

pub split_seat-requires : goal.split_seat-requires
split_seat-requires c =
    let words = c.args.self.now in
    let one = c.first.inside.seat in
    let two = c.second.inside.seat in
    let later = c.load.new.seat in
    let t = c.load.ensures.2 (first_of one.me.0) (first_of two.me.0)
    (joined one two c.replace-other.result c.join_seat.new.seat.me c.join_seat.ensures.2 c.replace-other.ensures.value c.first.invariant.0 c.second.invariant.0) in (
      c.load.ensures.0 ∙ c.join_seat.ensures.0 ∙ ap (λ (x : Gripped). x.table_id) c.first.view_is ∙ c.requires.first.table_is,
      omega (arith, words.count),
      leave_asks words later.id later.me.0 t.0.new_first t.0.new_second t.0.is,
    )

pub invariant_of-first : goal.invariant_of-first
invariant_of-first c =
    let one = c.first.inside.seat in
    let two = c.second.inside.seat in
    let t = c.load.ensures.2 (first_of one.me.0) (first_of two.me.0)
    (joined one two c.replace-other.result c.join_seat.new.seat.me c.join_seat.ensures.2 c.replace-other.ensures.value c.first.invariant.0 c.second.invariant.0) in (
      only c.split_seat.new.seat.me.0 (first_of c.load.new.seat.me.0) (ap (λ m. m.0) c.split_seat.ensures.2),
      ap (λ m. m.1) c.split_seat.ensures.2 ∙ t.1 ∙ ap (λ m. m.1) c.join_seat.ensures.2 ∙ c.first.invariant.1,
    )

pub invariant_of-second : goal.invariant_of-second
invariant_of-second c =
    let one = c.first.inside.seat in
    let two = c.second.inside.seat in
    let t = c.load.ensures.2 (first_of one.me.0) (first_of two.me.0)
    (joined one two c.replace-other.result c.join_seat.new.seat.me c.join_seat.ensures.2 c.replace-other.ensures.value c.first.invariant.0 c.second.invariant.0) in (
      only c.split_seat.result.me.0 t.0.new_second (ap (λ m. m.0) c.split_seat.ensures.4 ∙ ap later_views t.0.is),
      ap (λ m. m.1) c.split_seat.ensures.4,
    )

pub returns : goal.returns
returns c =
    let words = c.args.self.now in
    let one = c.first.inside.seat in
    let two = c.second.inside.seat in
    let first : SeatView = c.args.first.now.view in
    let second : SeatView = c.args.second.now.view in
    let new_first : SeatView = first_of c.split_seat.new.seat.me.0 in
    let new_second : SeatView = first_of c.split_seat.result.me.0 in
    let t = c.load.ensures.2 (first_of one.me.0) (first_of two.me.0)
    (joined one two c.replace-other.result c.join_seat.new.seat.me c.join_seat.ensures.2 c.replace-other.ensures.value c.first.invariant.0 c.second.invariant.0) in
    let first_is : t.0.new_first ≡ new_first = sym (ap (λ m. first_of m.0) c.split_seat.ensures.2 ∙ ap first_of t.0.is) in
    let second_is : t.0.new_second ≡ new_second = sym (ap (λ m. first_of m.0) c.split_seat.ensures.4 ∙ ap (λ (vs : List SeatView). first_of (later_views vs)) t.0.is) in
    let m : AreMet first second new_first new_second =
    subst (λ (v : SeatView × SeatView × SeatView × SeatView). AreMet v.0 v.1 v.2 v.3) (λ i. ((c.first.view_is i).view, (c.second.view_is i).view, first_is i, second_is i)) t.0.met in
    let same : first.fixed ≡ second.fixed = c.requires.first.knows.fixed_is ∙ sym c.requires.second.knows.fixed_is in
    let table = c.load.ensures.0 ∙ c.join_seat.ensures.0 ∙ ap (λ (x : Gripped). x.table_id) c.first.view_is ∙ c.requires.first.table_is in
    record {
      first = record { table_is = c.split_seat.ensures.0 ∙ table; knows = met_knows words.fixed first new_first m.history m.first_is m.legal c.requires.first.knows };
      second = record {
        table_is = c.split_seat.ensures.3 ∙ table;
        knows = met_knows words.fixed second new_second m.history m.second_is (subst (λ (f : Fixed). IsLegal f m.history) same m.legal) c.requires.second.knows;
      };
      met = m;
    }
