use Rattle.std.proofs.Common.{◌≡◌, ◌+◌, ◌*◌, ◌/◌, ◌<◌, ℕ, List, ◌++◌, ◌∷◌, [], length, ◌∙◌, subst, arith, None, IsSome, Ok, Err, IsOk, OnOk}
use Rattle.std.specs.declared.option.Option.{Option}
use Rattle.std.specs.declared.result.Result.{Result}
use Rattle.b3tree.proofs.Joining.{Joins, Joins_end, Joins_start, Joins_left, Joins_step}
use Rattle.b3tree.proofs.stack.push_subtree.Goals as goal
use Rattle.b3tree.proofs.stack.push_subtree.Goals.{in-Some, in_default}

-- what a list has is not missing
not_missing : (r : Option (List ℕ)) (n : ℕ) → r ≡ None → (0 < n → IsSome r) → 0 < n → ⊥
not_missing r n none is some = let P : Option (List ℕ) → Type 0 = λ o. IsSome o in let bad : IsSome {T = List ℕ} None = subst P none (is some) in cc

-- what holds on success, of a success
on_success : {T E : Type 0} (r : Result T E) (P : Type 0) → IsOk r → OnOk r P → P
on_success (Ok x) P is h = h
on_success (Err e) P is h = cc

pub join-init : goal.join-init
join-init c = (
  omega arith,
  λ k s piece ls lp fits es ev. Joins_start c.args.mode.now k s piece c.args.stack.now.items c.args.value c.args.before ls lp fits es ev,
)

pub join-preserved : goal.join-preserved
join-preserved c = (
  omega arith,
  λ k s piece ls lp fits es ev.
      let half : ℕ = c.join.count / 2 in
      let some : 0 < half = omega arith in
      let even : c.join.count ≡ 2 * half = omega arith in
      let before : Joins c.args.mode.now (s ++ piece) c.join.stack.items c.join.value (2 * half) =
      subst (λ (n : ℕ). Joins c.args.mode.now (s ++ piece) c.join.stack.items c.join.value n) even (c.join.invariant.1 k s piece ls lp fits es ev) in
      elim c.match-pop.branch [
        | in-Some w ↦
            rw (w.value-is, w.cv-value.ensures, w.parent_input.ensures)
            (Joins_step c.args.mode.now (s ++ piece) c.join.stack.items c.pop.new.self.items w.in-Some.left c.join.value half some before w.in-Some.ensures.items)
        | in_default w ↦
            absurd (not_missing c.pop.result (length c.join.stack.items) w.in_default.is c.pop.ensures.variant.1
            (Joins_left c.args.mode.now (s ++ piece) c.join.stack.items c.join.value half some before))
      ],
)

pub returns : goal.returns
returns c = λ k s piece ls lp fits es ev.
    let half : ℕ = c.join.count / 2 in
    let odd : c.join.count ≡ 2 * half + 1 = omega arith in
    let last : Joins c.args.mode.now (s ++ piece) c.join.stack.items c.join.value (2 * half + 1) =
    subst (λ (n : ℕ). Joins c.args.mode.now (s ++ piece) c.join.stack.items c.join.value n) odd (c.join.invariant.1 k s piece ls lp fits es ev) in
    let done = Joins_end c.args.mode.now (s ++ piece) c.join.stack.items c.join.value half last in
    on_success c.try_push.result (c.try_push.new.self.items ≡ c.join.stack.items ++ c.join.value ∷ []) (c.try_push.ensures.variant.1 done.1) c.try_push.ensures.ok ∙ done.0
