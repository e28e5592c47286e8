-- What a peer whose seat has all names appends.
use Rattle.std.proofs.Common.{◌≡◌, ℕ, List, ◌++◌, inl, inr, sym, ap, ◌∙◌}
use Rattle.std.specs.Prelude.{Result, Ok, Err, OnOk}
use Rattle.holders.specs.declared.holder.HolderFault.{HolderFault}
use Rattle.gather.specs.Peers.{Fetches, IsFetchCall, text_of}
use Rattle.store_core.specs.declared.history.Call.TheVariants.{Serve}
use Rattle.store_core.specs.declared.history.Event.{Event}
use Rattle.store_core.specs.declared.history.Serving.{Serving}
use Rattle.store_core.specs.declared.history.Serving.TheVariants.{Lacking, NoLength, Text}
use Rattle.store_core.specs.declared.view.SeatView.{SeatView}
use Rattle.store_core.specs.Histories.{state_after}
use Rattle.store_core.specs.Knowledge.{Called, LooksRound}
use Rattle.store_core.specs.Serves.{serving}
use Rattle.determined_stores.specs.Alone.{AreAlike, IsLone}
use Rattle.determined_stores.proofs.Lone.{called_alone}
use Rattle.determined_stores.proofs.Pairs.{other_alone}

-- the reply of a call with which no other seat's came
replied : (old new later : SeatView) (start len : ℕ) (answer : Serving) → IsLone old → Called (Serve start len answer) old new → LooksRound new later
    → answer ≡ serving (state_after old.seen) start len
replied old new later start len answer lone did looked = (called_alone old new later (Serve start len answer) lone did looked).right

fetched_is : (old new later : SeatView) (start len : ℕ) (text : List ℕ) → IsLone old → IsFetchCall start len text old new → LooksRound new later
    → text ≡ text_of (serving (state_after old.seen) start len)
fetched_is old new later start len text lone (inl served) looked = ap text_of (replied old new later start len (Text text) lone served looked)
fetched_is old new later start len text lone (inr (is, inl served)) looked = is ∙ ap text_of (replied old new later start len NoLength lone served looked)
fetched_is old new later start len text lone (inr (is, inr (node, served))) looked = is ∙ ap text_of (replied old new later start len (Lacking node) lone served looked)

pub fetches_agree : (one one' then other other' next : SeatView) (start len : ℕ) (before after was now : List ℕ) → AreAlike one other → before ≡ was
    → Fetches start len before after one one' → LooksRound one' then → Fetches start len was now other other' → LooksRound other' next → after ≡ now
fetches_agree one one' then other other' next start len before after was now alike e did looked too round =
    let ours = fetched_is one one' then start len did.text alike.alone did.served looked in
    let theirs = fetched_is other other' next start len too.text (other_alone one other alike) too.served round in
    let text : did.text ≡ too.text = ours ∙ ap (λ (h : List Event). text_of (serving (state_after h) start len)) (sym alike.seen_are) ∙ sym theirs in
    did.is ∙ ap (λ (xs : List ℕ). before ++ xs) text ∙ ap (λ (xs : List ℕ). xs ++ too.text) e ∙ sym too.is

-- where both do
pub both_fetch : (one one' then other other' next : SeatView) (start len : ℕ) (before after was now : List ℕ) (r s : Result Unit HolderFault) → AreAlike one other
    → before ≡ was → OnOk r (Fetches start len before after one one') → LooksRound one' then → OnOk s (Fetches start len was now other other') → LooksRound other' next
    → OnOk r (OnOk s (after ≡ now))
both_fetch one one' then other other' next start len before after was now (Err f) s alike e did looked too round = tt
both_fetch one one' then other other' next start len before after was now (Ok u) (Err f) alike e did looked too round = tt
both_fetch one one' then other other' next start len before after was now (Ok u) (Ok v) alike e did looked too round =
    fetches_agree one one' then other other' next start len before after was now alike e did looked too round
