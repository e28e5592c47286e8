-- What a call of its own adds to a seat's calls, and which of its claims it leaves.
use Rattle.std.proofs.lemmas.Bool.Decides.{nat_tests}
use Rattle.std.proofs.Common.{◌≡◌, ℕ, ◌<◌, Bool, true, false, not, ◌&&◌, ◌||◌, if◌then◌else◌, List, [], ◌∷◌, length, Option, None, refl, ap, ◌∙◌, arith}
use Rattle.std.proofs.lemmas.Bool.{or_left}
use Rattle.store_core.specs.declared.history.Call.{Call}
use Rattle.store_core.specs.declared.history.Call.TheVariants.{Commit, Give, Length, Parents, Read, Serve, Settle, Take}
use Rattle.store_core.specs.declared.history.Event.{Event}
use Rattle.store_core.specs.declared.view.Named.{Named}
use Rattle.store_core.specs.Events.{after_call}
use Rattle.store_core.specs.Histories.{events_of, is_by}
use Rattle.store_core.specs.Masks.{in_mask}
use Rattle.store_core.specs.Names.{Name, least_name, share_name}
use Rattle.store_core.specs.States.{State, claims, is_among}
use Rattle.store_core.proofs.Joining.{plain}
use Rattle.store_core.proofs.Tells.{same_name-refl}
use Rattle.store_core.specs.Knowledge.{claims_after}
use Rattle.store_steps.proofs.Lists.{AreBy}

-- a set of names shares one with itself
pub shares_itself : (names : List Named) → 0 < length names → share_name (plain names) (plain names) ≡ true
shares_itself [] none = absurd (omega arith)
shares_itself (named ∷ names) more = or_left _ _ (or_left _ _ (same_name-refl named.name))

-- one with names has its least among them
pub least_among : (names : List Named) → 0 < length names → is_among (plain names) (least_name (plain names)) ≡ true
least_among [] none = absurd (omega arith)
least_among (named ∷ names) more = or_left _ _ (same_name-refl named.name)

-- events by a caller are all its own
pub own_all : (names : List Name) (events : List Event) → share_name names names ≡ true → AreBy names events → events_of names events ≡ events
own_all names [] shares by = refl
own_all names (e ∷ events) shares by =
    let ours : is_by names e ≡ true = ap (λ (ns : List Name). share_name names ns) by.0 ∙ shares in
    rw ours (ap (λ (es : List Event). e ∷ es) (own_all names events shares by.1))

-- what passes a test where a claim is made, or ends
pub if_taken : {A : Type 0} (test : Option A → Bool) (hit : Bool) (new old : Option A) → test new ≡ true → test (if hit then new else old) ≡ (hit || test old)
if_taken test hit new old is = grind (arith, nat_tests)

pub if_ended : {A : Type 0} (test : Option A → Bool) (hit : Bool) (old : Option A) → test None ≡ false → test (if hit then None else old) ≡ (not hit && test old)
if_ended test hit old none = grind (arith, nat_tests)

-- what a caller claims after its call
pub claims_then : (names : List Name) (call : Call) (t : State) (c : ℕ) → is_among names (least_name names) ≡ true
    → claims names (after_call names call t) c ≡ claims_after call (λ d. claims names t d) c
claims_then names (Take group want granted) t c least = if_taken (is_among names) (in_mask group granted c) (least_name names) (t.claim c) least
claims_then names (Give group mask given) t c least = if_ended (is_among names) (in_mask group given c) (t.claim c) refl
claims_then names (Commit group piece committed) t c least = if_ended (is_among names) (in_mask group committed c) (t.claim c) refl
claims_then names (Settle piece answer) t c least = refl
claims_then names (Read at len bytes) t c least = refl
claims_then names (Length recorded) t c least = refl
claims_then names (Parents group piece answer) t c least = refl
claims_then names (Serve start len answer) t c least = refl

-- by claims that are the same
pub claims_after-same : (call : Call) (one other : ℕ → Bool) (c : ℕ) → one c ≡ other c → claims_after call one c ≡ claims_after call other c
claims_after-same call one other c e = grind (arith, nat_tests)
