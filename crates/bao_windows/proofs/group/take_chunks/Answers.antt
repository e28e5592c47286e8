use Rattle.std.proofs.Common.{rules, ◌≡◌, ◌+◌, ◌-◌, ℕ, Bool, List, false, true, subst, arith, inl, inr}
use Rattle.bao_windows.proofs.Bytes.{adds_more, place_of}
use Rattle.bao_windows.specs.Available.{AllRefuse}
use Rattle.bao_windows.specs.Windows.{IsFrom, Takes, fixed_for}
use Rattle.bao_windows.proofs.group.take_chunks.Goals as goal

pub returns-then-not-branch-clause-lacks : goal.returns-then-not-branch-clause-lacks
returns-then-not-branch-clause-lacks g c = λ _.
    let none : c.in_ok-take_any.field-0 ≡ false = search rules in
    record {
      came = c.chunks.came;
      whole = omega (arith, c.chunks.invariant.step, c.chunks-test.true);
      below = c.chunks-test.true;
      refused = subst (λ (n : ℕ). AllRefuse g.S.Source.contents g.S.Source.faultless c.args.wanted.now c.args.sources.now (c.args.part.start + c.chunks.came) n 1024) c.min.ensures
          (c.in_ok-take_any.ensures.refused none);
    }

pub chunks-preserved : goal.chunks-preserved
chunks-preserved g c =
    let wanted = c.args.wanted.now in
    let sources = c.args.sources.now in
    let at : ℕ = c.args.part.start in
    let came : ℕ = c.chunks.came in
    let n : ℕ = c.min.result in
    let mid : List ℕ = c.chunks.slot.bytes.items in
    let new : List ℕ = c.take_any.new.slot.bytes.items in
    let yes : c.in_ok-take_any.field-0 ≡ true = search rules in
    record {
      within = omega (arith, c.min.ensures, c.chunks-test.true);
      step = elim (place_of (c.args.part.len - came) 1024) [
        | inl low ↦ inr (omega (arith, low, c.min.ensures, c.chunks-test.true))
        | inr high ↦ inl (omega (arith, high, c.min.ensures, c.chunks.invariant.step, c.chunks-test.true))
      ];
      done = adds_more (IsFrom wanted g.S.Source.contents g.S.Source.faultless sources) (fixed_for wanted) at came n _ mid new c.chunks.invariant.done
          (subst (λ (took : Bool). Takes took (IsFrom wanted g.S.Source.contents g.S.Source.faultless sources) (fixed_for wanted) (at + came) n mid new) yes c.in_ok-take_any.ensures.took);
    }
