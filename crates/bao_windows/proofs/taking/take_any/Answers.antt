use Rattle.std.proofs.Common.{◌≡◌, ◌<◌, ℕ, Bool, List, false, length, subst, arith, ◌∙◌}
use Rattle.bao_windows.proofs.Turns.{each_turn, next_turn}
use Rattle.bao_windows.specs.Available.{Refuses}
use Rattle.bao_windows.specs.Windows.{IsFrom, Takes, fixed_for}
use Rattle.bao_windows.proofs.taking.take_any.Goals as goal

pub loop-turn-preserved : goal.loop-turn-preserved
loop-turn-preserved g c =
    let wanted = c.args.wanted.now in
    let sources = c.args.sources.now in
    let mid : List ℕ = c.loop-turn.slot.bytes.items in
    let new : List ℕ = c.take_part.new.slot.bytes.items in
    let none : c.in_ok-take_part.field-0 ≡ false = c.if-branch.false in
    let kept : new ≡ mid =
    subst (λ (took : Bool). Takes took (IsFrom wanted g.S.Source.contents g.S.Source.faultless sources) (fixed_for wanted) c.args.part.start c.args.part.len mid new) none c.in_ok-take_part.ensures.took in
    record {
      same = kept ∙ c.loop-turn.invariant.same;
      refused = next_turn (λ (p : ℕ). Refuses g.S.Source.contents g.S.Source.faultless wanted sources c.args.part.start c.args.part.len c.args.span p) c.min-first.result (length sources) c.loop-turn.turn
          c.in_turn-place.result c.loop-turn.invariant.refused c.in_turn-place.ensures.turn (c.in_ok-take_part.ensures.refused none);
    }

pub returns-clause-refused : goal.returns-clause-refused
returns-clause-refused g c = λ _ place below.
    let first : ℕ = c.min-first.result in
    let count : ℕ = length c.args.sources.now in
    let begun : first < count = omega (arith, c.min-first.ensures, c.saturating_sub.ensures, below) in
    each_turn (λ (p : ℕ). Refuses g.S.Source.contents g.S.Source.faultless c.args.wanted.now c.args.sources.now c.args.part.start c.args.part.len c.args.span p) first count begun
    (λ turn other less is. c.loop-turn.invariant.refused turn other (omega (arith, less, c.loop-turn-test.false)) is) place below
