use Rattle.std.proofs.Common.{◌≡◌, ◌+◌, ◌-◌, ◌*◌, ◌/◌, ℕ, Bool, List, false, true, IfOk, IfSome, Option, Result, length, min, subst, refl, arith}
use Rattle.std.specs.declared.alloc.AllocError.{AllocError}
use Rattle.b3tree.specs.declared.values.Cv.{Cv}
use Rattle.b3tree.specs.Tree.{subtree_cv}
use Rattle.bao_windows.proofs.Pieces.{first_value}
use Rattle.bao_windows.proofs.Slots.{slot_filled}
use Rattle.bao_windows.specs.Available.{LacksGroup}
use Rattle.bao_windows.specs.Windows.{Adds, IsAddedValue, IsFrom, IsValue, fixed_for}
use Rattle.bao_windows.proofs.window.fill_slot.Goals as goal

pub returns : goal.returns
returns g c =
    let wanted = c.args.wanted.now in
    let sources = c.args.sources.now in
    let before : ℕ = c.saturating_mul-before.result in
    let at : ℕ = c.args.start + before in
    let len : ℕ = c.min.result in
    let whole : before ≡ 65536 * c.args.number = omega (arith, c.saturating_mul-before.ensures, c.if-before-total.false, c.ranges.total) in
    let place : at ≡ c.args.start + 65536 * c.args.number = omega (arith, whole) in
    let old : List ℕ = c.clear.new.self.items in
    let new : List ℕ = c.take_group.new.slot.bytes.items in
    let came : Option Cv = c.take_group.new.slot.value in
    record {
      filled = λ clean. slot_filled (IsFrom wanted g.S.Source.contents g.S.Source.faultless sources) (fixed_for wanted) c.args.start c.args.total c.args.number at len old _ place c.min.ensures c.clear.ensures.items
          (subst (λ (r : Result Bool AllocError). IfOk r (λ took. took ≡ true → Adds (IsFrom wanted g.S.Source.contents g.S.Source.faultless sources) (fixed_for wanted) at len old new))
          (c.fault_of-slot.ensures.none clean) c.take_group.ensures.took refl)
          (subst (λ (xs : List ℕ). IfSome came (λ v. v.0 ≡ subtree_cv wanted.mode (at / 1024) xs) → length xs ≡ min 65536 (c.args.total - at) → IsValue wanted.mode at c.args.total xs c.value_of-slot.result)
          c.as_slice.ensures.value c.value_of-slot.ensures
          (first_value wanted.mode at old new came c.clear.ensures.items
          (subst (λ (r : Result Bool AllocError). IfOk r (λ took. took ≡ true → IfSome came (IsAddedValue wanted.mode at old new))) (c.fault_of-slot.ensures.none clean) c.take_group.ensures.value refl)));
      fault = c.fault_of-slot.ensures.fault;
      missing = λ is.
          let lacks : LacksGroup g.S.Source.contents g.S.Source.faultless wanted sources at len =
          subst (λ (r : Result Bool AllocError). IfOk r (λ took. took ≡ false → LacksGroup g.S.Source.contents g.S.Source.faultless wanted sources at len))
          (c.fault_of-slot.ensures.unfinished is) c.take_group.ensures.lacks refl in
          record {
            at = at;
            whole = omega (arith, whole, c.requires.aligned);
            below = omega (arith, c.if-before-total.false);
            lacks = subst (λ (n : ℕ). LacksGroup g.S.Source.contents g.S.Source.faultless wanted sources at n) c.min.ensures lacks;
          };
    }
