use Rattle.std.proofs.Common.{ℕ, Bool, true, false, cond, List, ◌∷◌, [], ◌++◌, refl, sym, ap, ◌∙◌, length, length-append, subst, arith}
use Rattle.std.specs.List.{All}
use Rattle.std.specs.Result.{is_ok}
use Rattle.std.proofs.lemmas.List.Elements.{All-append, All-cons}
use Rattle.bao_plan.specs.declared.holder.Holder.{Holder}
use Rattle.bao_plan.specs.Holders.{IsAskedBelow, seen_at}
use Rattle.bao_plan.proofs.PlanLemmas.{added, state_is}
use Rattle.bao_plan.proofs.plan.Plan.add_holder.Goals as goal

pushed : (b : Bool) (end : ℕ) (hs : List Holder) (x : Holder) → IsAskedBelow end x → All (IsAskedBelow end) hs → All (IsAskedBelow end) (cond b (hs ++ x ∷ []) hs)
pushed true end hs x one all = All-append (IsAskedBelow end) hs (x ∷ []) all (All-cons (IsAskedBelow end) x [] one (λ k d within. absurd (omega arith)))
pushed false end hs x one all = all

pub invariant_of-self : goal.invariant_of-self
invariant_of-self c =
    let p = c.args.self.now in
    record {
      small = p.small;
      opens = p.opens;
      times = p.times;
      asks = subst (All (IsAskedBelow p.chunks)) (sym c.push.ensures.items) (pushed (is_ok c.push.result) p.chunks p.holders.items c.new-holder.result (c.new-holder.ensures.below p.chunks) p.asks);
    }

pub returns-clause-ok : goal.returns-clause-ok
returns-clause-ok c =
    let hs = c.args.self.now.holders.items in
    record {
      right = tt;
      after = state_is _ _ refl refl refl (λ _. refl) (λ _. refl) (ap length c.in_ok-push.ensures.items ∙ length-append hs (c.new-holder.result ∷ []))
          (λ k. ap (λ xs. seen_at xs k) c.in_ok-push.ensures.items ∙ added hs c.new-holder.result c.new-holder.ensures.seen k);
    }
