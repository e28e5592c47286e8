-- A worker's histories one after another.
use Rattle.std.specs.Prelude.{◌≡◌, ℕ, ◌+◌, List, [], ◌∷◌, ◌++◌}
use Rattle.std.proofs.Common.{refl, sym, ap, subst, ◌∙◌}
use Rattle.std.proofs.lemmas.List.Sums.{sum_by-append}
use Rattle.bao_check.proofs.Lists.{All-append}
use Rattle.holders.specs.declared.fixed.Fixed.{Fixed}
use Rattle.store_core.specs.declared.history.Call.{Call}
use Rattle.store_core.specs.declared.history.Call.TheVariants.{Take, Give, Commit, Settle, Read, Length, Parents, Serve}
use Rattle.store_core.specs.declared.history.Event.{Event}
use Rattle.holders.specs.declared.piece.Piece.{Piece}
use Rattle.store_core.specs.declared.store.Store.{Store}
use Rattle.store_core.proofs.Lasting.{legal-join, run-append}
use Rattle.store_core.specs.Histories.{AreLegalFrom, run}
use Rattle.store_core.specs.Laws.{chunks_of}
use Rattle.store_core.specs.States.{State}
use Rattle.store_core.specs.Stores.{fixed_of, state_of}
use Rattle.gather.specs.Counts.{Goes}
use Rattle.holders.specs.Holders.{IsNone}
use Rattle.gather.specs.Worked.{AreFrom, HasWorked, IsFrom, IsOwn, chunks_in, parents_in, parents_of}

pub no_work : (s : Store) → HasWorked IsNone s s 0 0
no_work s = record { events = []; own = tt; from = tt; legal = tt; after = refl; fixed = refl; counts = refl; counts_parents = refl }

call_wider : (handed wider : Piece → Type 0) → ((piece : Piece) → handed piece → wider piece) → (call : Call) → IsFrom handed call → IsFrom wider call
call_wider handed wider more (Take group want granted) from = tt
call_wider handed wider more (Give group mask given) from = tt
call_wider handed wider more (Commit group piece committed) from = more piece from
call_wider handed wider more (Settle piece answer) from = more piece from
call_wider handed wider more (Read at len bytes) from = tt
call_wider handed wider more (Length recorded) from = tt
call_wider handed wider more (Parents group piece answer) from = more piece from
call_wider handed wider more (Serve start len answer) from = tt

pub from_wider : (handed wider : Piece → Type 0) → ((piece : Piece) → handed piece → wider piece) → (events : List Event) → AreFrom handed events → AreFrom wider events
from_wider handed wider more [] from = tt
from_wider handed wider more (e ∷ events) from = (call_wider handed wider more e.call from.0, from_wider handed wider more events from.1)

pub wider_work : (handed wider : Piece → Type 0) → ((piece : Piece) → handed piece → wider piece) → (s t : Store) (n q : ℕ) → HasWorked handed s t n q
    → HasWorked wider s t n q
wider_work handed wider more s t n q worked = record {
  events = worked.events;
  own = worked.own;
  from = from_wider handed wider more worked.events worked.from;
  legal = worked.legal;
  after = worked.after;
  fixed = worked.fixed;
  counts = worked.counts;
  counts_parents = worked.counts_parents;
}

pub adds_work : (handed : Piece → Type 0) (r s t : Store) (m n p q : ℕ) → HasWorked handed r s m p → HasWorked handed s t n q → HasWorked handed r t (m + n) (p + q)
adds_work handed r s t m n p q first second =
    let same_fixed : AreLegalFrom (fixed_of r) (state_of s) second.events =
    subst (λ (fixed : Fixed). AreLegalFrom fixed (state_of s) second.events) first.fixed second.legal in
    let from_there : AreLegalFrom (fixed_of r) (run (state_of r) first.events) second.events =
    subst (λ (state : State). AreLegalFrom (fixed_of r) state second.events) first.after same_fixed in
    record {
      events = first.events ++ second.events;
      own = All-append IsOwn first.events second.events first.own second.own;
      from = All-append (λ (e : Event). IsFrom handed e.call) first.events second.events first.from second.from;
      legal = legal-join (fixed_of r) (state_of r) first.events second.events first.legal from_there;
      after = second.after ∙ ap (λ (state : State). run state second.events) first.after ∙ sym (run-append (state_of r) first.events second.events);
      fixed = second.fixed ∙ first.fixed;
      counts = ap (λ (k : ℕ). k + n) first.counts ∙ ap (λ (k : ℕ). chunks_in first.events + k) second.counts ∙ sym (sum_by-append (λ (e : Event). chunks_of e.call) first.events second.events);
      counts_parents = ap (λ (k : ℕ). k + q) first.counts_parents ∙ ap (λ (k : ℕ). parents_in first.events + k) second.counts_parents ∙ sym (sum_by-append (λ (e : Event). parents_of e.call) first.events second.events);
    }

pub keeps_fixed : (handed : Piece → Type 0) (s t : Store) (n q : ℕ) → HasWorked handed s t n q → fixed_of t ≡ fixed_of s
keeps_fixed handed s t n q worked = worked.fixed

pub goes_work : Goes fixed_of HasWorked
goes_work = record { stays = no_work; keeps = keeps_fixed; adds = adds_work; wider = wider_work }
