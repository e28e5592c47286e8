use Rattle.std.proofs.Common.{Vec, Global, List, ap, ◌≡◌, ℕ, ◌+◌, ◌-◌, ◌*◌, [], length, arith, refl, subst, sym, ◌∙◌, inl, inr}
use Rattle.holders.proofs.Same.{alike, differs}
use Rattle.b3tree.specs.Hashing.{hash}
use Rattle.bao_windows.proofs.Bytes.{place_of}
use Rattle.bao_windows.proofs.Finishing.{none_is}
use Rattle.bao_windows.proofs.Taken.{all_taken, begins}
use Rattle.bao_windows.proofs.Writing.{begun_more, begun_so, more, nothing, taken_to}
use Rattle.bao_windows.proofs.Slots.{written_back}
use Rattle.bao_windows.specs.declared.window.Slot.{Slot}
use Rattle.bao_windows.specs.Windows.{AreOfWindow, IsFrom, fixed_for}
use Rattle.bao_windows.specs.Written.{IsBegun, WroteOf}
use Rattle.bao_windows.proofs.driver.write_all.Goals as goal

pub windows-init : goal.windows-init
windows-init g c =
    let back = written_back c.args.window.len c.fill_window.new.window c.args.window.items (omega (arith, c.args.window.ok.0)) (omega (arith, c.fill_window.ensures.same, ap (λ (ws : List Slot). length ws) c.as_mut_slice.ensures.value)) in
    record {
      place = omega arith;
      aligned = inl refl;
      some = omega (arith, ap (λ (ws : List Slot). length ws) back, c.fill_window.ensures.same, ap (λ (ws : List Slot). length ws) c.as_mut_slice.ensures.value, c.requires.some, c.args.window.ok.0);
      more = omega (arith, c.requires.more, c.args.next.ok.0);
      whole = λ _. subst (λ (ws : List Slot). AreOfWindow (IsFrom c.args.wanted.now g.S.Source.contents g.S.Source.faultless c.args.sources.now) (fixed_for c.args.wanted.now) 0 c.args.total ws) (sym back)
          c.in-Ok.ensures.whole;
      wrote = nothing _ _ _ _ _ _;
    }

pub write_window-requires-clause-taken : goal.write_window-requires-clause-taken
write_window-requires-clause-taken g c = λ _ _.
    taken_to (IsFrom c.args.wanted.now g.S.Source.contents g.S.Source.faultless c.args.sources.now) (fixed_for c.args.wanted.now) c.args.total c.windows.at
    (g.W.Write.contents c.args.out.now) (g.W.Write.contents c.windows.out) c.new-hasher.result c.windows.hasher (begins c.new-hasher.ensures.splits c.new-hasher.ensures.holds)
    c.windows.invariant.wrote c.windows.invariant.place

pub windows-preserved : goal.windows-preserved
windows-preserved g c =
    let handed = IsFrom c.args.wanted.now g.S.Source.contents g.S.Source.faultless c.args.sources.now in
    let fixed = fixed_for c.args.wanted.now in
    let at : ℕ = c.windows.at in
    let next : ℕ = c.in-Ok-write_window.end in
    let n : ℕ = next - at in
    let place : at ≡ 0 + at = omega arith in
    let long : at + n ≡ next = omega (arith, c.in-Ok-write_window.ensures.next) in
    let old = g.W.Write.contents c.args.out.now in
    let mid = g.W.Write.contents c.windows.out in
    let new = g.W.Write.contents c.write_window.new.out in
    let kept : length c.write_window.new.next ≡ length c.windows.next.items =
    omega (arith, c.write_window.auto.next, ap (λ (ws : List Slot). length ws) c.as_mut_slice-in-windows.ensures.value) in
    let there : c.swap.new.x.items ≡ c.write_window.new.next =
    ap (λ (v : Vec Slot Global). v.items) c.swap.ensures.x_after
    ∙ written_back c.windows.next.len c.write_window.new.next c.windows.next.items (omega (arith, c.windows.next.ok.0)) kept in
    record {
      place = omega (arith, c.in-Ok-write_window.ensures.next, c.windows-test.true);
      aligned = elim (place_of (65536 * length c.windows.window.items) (c.args.total - at)) [
        | inl low ↦ inl (omega (arith, low, c.in-Ok-write_window.ensures.next, c.windows.invariant.aligned, c.windows-test.true))
        | inr high ↦ inr (omega (arith, high, c.in-Ok-write_window.ensures.next, c.windows-test.true))
      ];
      some = omega (arith, ap (λ (ws : List Slot). length ws) there, kept, c.windows.invariant.more);
      more = omega (arith, ap (λ (v : Vec Slot Global). length v.items) c.swap.ensures.y_after, c.windows.invariant.some);
      whole = λ below. subst (λ (ws : List Slot). AreOfWindow handed fixed next c.args.total ws) (sym there) (c.in-Ok-write_window.ensures.whole below);
      wrote = subst (λ (k : ℕ). WroteOf handed fixed c.args.total 0 k old new c.new-hasher.result c.write_window.new.hasher) long
          (more handed fixed c.args.total 0 at n old mid new c.new-hasher.result c.windows.hasher c.write_window.new.hasher (omega (arith, c.windows.invariant.place)) c.windows.invariant.wrote
          (subst (λ (k : ℕ). WroteOf handed fixed c.args.total k n mid new c.windows.hasher c.write_window.new.hasher) place c.in-Ok-write_window.ensures.wrote));
    }

pub returns-in-Err-write_window-clause-begun : goal.returns-in-Err-write_window-clause-begun
returns-in-Err-write_window-clause-begun g c =
    let handed = IsFrom c.args.wanted.now g.S.Source.contents g.S.Source.faultless c.args.sources.now in
    let fixed = fixed_for c.args.wanted.now in
    let place : c.windows.at ≡ 0 + c.windows.at = omega arith in
    begun_more handed fixed c.args.total 0 c.windows.at (g.W.Write.contents c.args.out.now) (g.W.Write.contents c.windows.out) (g.W.Write.contents c.write_window.new.out) c.new-hasher.result c.windows.hasher
    c.windows.invariant.wrote
    (subst (λ (k : ℕ). IsBegun handed fixed k (g.W.Write.contents c.windows.out) (g.W.Write.contents c.write_window.new.out)) place c.write_window.ensures.begun)

pub returns-then-ne-clause-begun : goal.returns-then-ne-clause-begun
returns-then-ne-clause-begun g c = begun_so _ _ _ 0 c.windows.at _ _ _ _ c.windows.invariant.wrote

pub returns-clause-begun : goal.returns-clause-begun
returns-clause-begun g c = begun_so _ _ _ 0 c.windows.at _ _ _ _ c.windows.invariant.wrote

pub returns-then-ne-clause-none : goal.returns-then-ne-clause-none
returns-then-ne-clause-none g c = λ _ lengths.
    let mode = c.args.wanted.now.mode in
    let root = c.args.wanted.now.root in
    let wrote = c.windows.invariant.wrote in
    let size : length wrote.0 ≡ c.args.total = omega (arith, wrote.1, c.windows.invariant.place, c.windows-test.false) in
    let hashed : c.finalize.result.0 ≡ hash mode wrote.0 = c.finalize.ensures mode wrote.0 (all_taken c.args.total c.new-hasher.ensures.splits c.new-hasher.ensures.holds (wrote.2.took []) size) in
    none_is (IsFrom c.args.wanted.now g.S.Source.contents g.S.Source.faultless c.args.sources.now) mode root wrote.0 c.args.total wrote.2.each size
    (λ same. differs c.finalize.result.0 root.0 (sym c.if-ne.true ∙ c.ne.ensures) (hashed ∙ same)) lengths

pub returns-clause-blob : goal.returns-clause-blob
returns-clause-blob g c =
    let mode = c.args.wanted.now.mode in
    let root = c.args.wanted.now.root in
    let wrote = c.windows.invariant.wrote in
    let size : length wrote.0 ≡ c.args.total = omega (arith, wrote.1, c.windows.invariant.place, c.windows-test.false) in
    let hashed : c.finalize.result.0 ≡ hash mode wrote.0 = c.finalize.ensures mode wrote.0 (all_taken c.args.total c.new-hasher.ensures.splits c.new-hasher.ensures.holds (wrote.2.took []) size) in
    (wrote.0, sym hashed ∙ alike c.finalize.result.0 root.0 (sym c.if-ne.false ∙ c.ne.ensures), size, wrote.2.each, wrote.2.wrote, wrote.2.are)
