use Rattle.std.proofs.Common.{◌≡◌, ℕ, ◌&&◌, ◌||◌, Bool, false, true, not, ap, sym, subst, refl}
use Rattle.bao_plan.specs.Plans.{state_of}
use Rattle.bao_plan.specs.Sets.{IsRunOf}
use Rattle.bao_plan.specs.States.{HolderState, has_better, is_late, is_under_way, is_wanted}
use Rattle.bao_plan.proofs.PlanLemmas.{read_at}
use Rattle.bao_plan.proofs.RunLemmas.{run_is, run_none}
use Rattle.bao_plan.proofs.plan.Plan.ready.Goals as goal

none : (w f l : Bool) → w ≡ false → (w && f && l) ≡ false
none w f l e = ap (λ b. b && f && l) e

left_out : (w f l : Bool) → (w && l) ≡ false → (w && f && l) ≡ false
left_out true true l e = e
left_out true false l e = refl
left_out false f l e = refl

turned : (w f l : Bool) → (w && l && f) ≡ (w && f && l)
turned true true true = refl
turned true true false = refl
turned true false true = refl
turned true false false = refl
turned false f l = refl

pub returns-then-wanted-eq0 : goal.returns-then-wanted-eq0
returns-then-wanted-eq0 c =
    let s = state_of c.args.self.now in
    run_none c.args.group c.wanted-wanted.result (is_wanted s c.args.holder) _ c.wanted-wanted.ensures c.if-wanted-eq0.true (λ k. none _ _ _)

pub returns-then-mine-eq0 : goal.returns-then-mine-eq0
returns-then-mine-eq0 c =
    let s = state_of c.args.self.now in
    let g = c.args.group in
    let better = subst (λ (y : HolderState). IsRunOf g c.better-left.result (has_better s y.rank c.args.now)) (sym (read_at c.args.self.now.holders.items c.args.holder c.index.result.now c.requires.holder c.index.ensures)) c.better-left.ensures in
    let left = has_better s (s.holder c.args.holder).rank c.args.now in
    run_none g c.and-mine.result (λ k. is_wanted s c.args.holder k && not (left k)) _
    (c.and-mine.ensures g (is_wanted s c.args.holder) (λ k. not (left k)) c.wanted-wanted.ensures (c.others.ensures.others g left better)) c.if-mine-eq0.true (λ k. left_out (is_wanted s c.args.holder k) (not (is_under_way s k) || (c.args.overtakes && is_late s c.args.now k)) (not (left k)))

pub returns : goal.returns
returns c =
    let s = state_of c.args.self.now in
    let g = c.args.group in
    let better = subst (λ (y : HolderState). IsRunOf g c.better-left.result (has_better s y.rank c.args.now)) (sym (read_at c.args.self.now.holders.items c.args.holder c.index.result.now c.requires.holder c.index.ensures)) c.better-left.ensures in
    let left = has_better s (s.holder c.args.holder).rank c.args.now in
    let late = λ (k : ℕ). c.args.overtakes && is_late s c.args.now k in
    let mine = c.and-mine.ensures g (is_wanted s c.args.holder) (λ k. not (left k)) c.wanted-wanted.ensures (c.others.ensures.others g left better) in
    let free = c.or.ensures g (λ k. not (is_under_way s k)) late (c.others-free.ensures.others g (is_under_way s) c.under_way.ensures) c.late.ensures in
    run_is g c.and.result (λ k. is_wanted s c.args.holder k && not (left k) && (not (is_under_way s k) || late k)) _ (λ k. turned (is_wanted s c.args.holder k) (not (is_under_way s k) || late k) (not (left k)))
    (c.and.ensures g (λ k. is_wanted s c.args.holder k && not (left k)) (λ k. not (is_under_way s k) || late k) mine free)
