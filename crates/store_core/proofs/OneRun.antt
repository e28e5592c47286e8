-- A schedule has one run: the machine's replies, events and end are determined by its steps.
use Rattle.std.proofs.Common.{◌≡◌, ℕ, ◌%◌, nat_lt, Bool, not, ◌&&◌, ◌||◌, List, [], ◌∷◌, ◌++◌, Option, Some, is_some, option_to_list, sym, ap, subst, ◌∙◌}
use Rattle.holders.specs.declared.fixed.Fixed.{Fixed}
use Rattle.store_core.specs.declared.history.Event.{Event}
use Rattle.store_core.specs.declared.micro.MicroStep.{MicroStep}
use Rattle.store_core.specs.declared.micro.MicroStep.TheVariants.{Claim, Publish, GiveBack}
use Rattle.store_core.specs.declared.micro.Reply.{Reply}
use Rattle.store_core.specs.declared.micro.Reply.TheVariants.{Granted, Committed, Given}
use Rattle.store_core.specs.Laws.{RunsAreOne}
use Rattle.store_core.specs.Machine.{Machine, current_holds, is_shown, seat_has}
use Rattle.store_core.specs.Masks.{IsMaskOf, has_bit}
use Rattle.store_core.specs.Schedules.{IsReply, Runs, after_step, step_events}
use Rattle.store_core.proofs.Tells.{mask_unique}

-- replies with one mask
same_mask : (group m n : ℕ) (test : ℕ → Bool) (kind : ℕ → Reply) (one other : Option Reply) → one ≡ Some (kind m) → other ≡ Some (kind n)
    → IsMaskOf group m test → IsMaskOf group n test → one ≡ other
same_mask group m n test kind one other e f is also = e ∙ ap (λ (k : ℕ). Some (kind k)) (mask_unique group m n test is also) ∙ sym f

one_reply : (fixed : Fixed) (m : Machine) (step : MicroStep) (one other : Option Reply) → IsReply fixed m step one → IsReply fixed m step other → one ≡ other
one_reply fixed m (Claim n group want) one other r s =
    same_mask group r.0 s.0 (λ c. has_bit want (c % 64) && (nat_lt c fixed.capacity && not (is_shown m c || is_some (m.claim c)))) (λ k. Granted k) one other r.1 s.1 r.2 s.2
one_reply fixed m (Publish n group) one other r s =
    same_mask group r.0 s.0 (λ c. seat_has m n c && current_holds (m.seat n).piece c) (λ k. Committed k) one other r.1 s.1 r.2 s.2
one_reply fixed m (GiveBack n group mask) one other r s =
    same_mask group r.0 s.0 (λ c. has_bit mask (c % 64) && seat_has m n c) (λ k. Given k) one other r.1 s.1 r.2 s.2
one_reply fixed m step one other r s = r ∙ sym s

pub runs_are_one : RunsAreOne
runs_are_one fixed pieces m [] replies replies' history history' last last' a b = (a.0 ∙ sym b.0, a.1 ∙ sym b.1, a.2 ∙ sym b.2)
runs_are_one fixed pieces m (step ∷ steps) replies replies' history history' last last' a b =
    let same : b.0 ≡ a.0 = one_reply fixed m step b.0 a.0 b.4 a.4 in
    let next : Runs fixed pieces (after_step fixed pieces m step a.0) steps b.1 b.2 last' =
    subst (λ (r : Option Reply). Runs fixed pieces (after_step fixed pieces m step r) steps b.1 b.2 last') same b.7 in
    let rest = runs_are_one fixed pieces (after_step fixed pieces m step a.0) steps a.1 b.1 a.2 b.2 last last' a.7 next in (
      a.5 ∙ ap (λ (xs : List Reply). option_to_list a.0 ++ xs) rest.0 ∙ ap (λ (r : Option Reply). option_to_list r ++ b.1) (sym same) ∙ sym b.5,
      a.6 ∙ ap (λ (xs : List Event). step_events fixed m step a.0 ++ xs) rest.1 ∙ ap (λ (r : Option Reply). step_events fixed m step r ++ b.2) (sym same) ∙ sym b.6,
      rest.2,
    )
