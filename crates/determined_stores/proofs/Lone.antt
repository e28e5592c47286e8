-- A seat that is alone: no call of others comes between its own.
use Rattle.std.proofs.Common.{◌≡◌, ◌+◌, List, [], ◌∷◌, ◌++◌, length, sym, ap, subst, ◌∙◌, arith, length-append, append-nil}
use Rattle.std.proofs.lemmas.List.{nil_from_length}
use Rattle.holders.specs.declared.fixed.Fixed.{Fixed}
use Rattle.store_core.specs.declared.history.Call.{Call}
use Rattle.store_core.specs.declared.history.Event.{Event}
use Rattle.store_core.specs.declared.view.Named.{Named}
use Rattle.store_core.specs.declared.view.SeatView.{SeatView}
use Rattle.store_core.specs.Events.{IsRightReply}
use Rattle.store_core.specs.Histories.{IsLegal, state_after}
use Rattle.store_core.specs.Knowledge.{AreAllNames, Called, Did, GoesOn, LooksRound, event_of}
use Rattle.store_core.specs.States.{empty}
use Rattle.store_core.specs.Views.{mine, names_of}
use Rattle.store_core.proofs.Lasting.{legal-append}
use Rattle.determined_stores.specs.Alone.{IsLone}

-- A lone seat goes on by these events of its own, and is alone still.
pub record Goes (old later : SeatView) (events : List Event) : Type 0 where
  pub alone : IsLone later
  pub fixed_is : later.fixed ≡ old.fixed
  pub names_are : later.names ≡ old.names
  pub seen_is : later.seen ≡ old.seen ++ events

-- What came between its own events, where it went on by these and looked round: nothing, before them and after them.
pub record Came (old new later : SeatView) (between own : List Event) : Type 0 where
  pub goes : Goes old later own
  pub before : between ≡ []
  pub then : later.seen ≡ new.seen
  pub legal : IsLegal old.fixed (old.seen ++ own)

pub came_alone : (old new later : SeatView) (between own : List Event) → IsLone old → GoesOn old new between own → LooksRound new later → Came old new later between own
came_alone old new later between own alone on looked =
    let more : List Event = looked.sees.between in
    let all : AreAllNames new.names = subst (λ (ns : List Named). AreAllNames ns) (sym on.names_are) alone.all in
    let whole : mine later ≡ later.seen = looked.alone all in
    let seen : later.seen ≡ old.seen ++ own =
    sym whole ∙ looked.sees.goes_on.mine_is ∙ append-nil (mine new) ∙ on.mine_is ∙ ap (λ (xs : List Event). xs ++ own) alone.own in
    let long : later.seen ≡ (((old.seen ++ between) ++ own) ++ more) ++ [] =
    looked.sees.goes_on.seen_is ∙ ap (λ (xs : List Event). (xs ++ more) ++ []) on.seen_is in
    let size : length between + length more ≡ 0 = omega (
      arith,
      ap length seen,
      ap length long,
      length-append old.seen own,
      length-append (((old.seen ++ between) ++ own) ++ more) [],
      length-append ((old.seen ++ between) ++ own) more,
      length-append (old.seen ++ between) own,
      length-append old.seen between,
    ) in
    let before : between ≡ [] = nil_from_length between (omega (arith, size)) in
    let rest : old.seen ++ between ≡ old.seen = ap (λ (xs : List Event). old.seen ++ xs) before ∙ append-nil old.seen in
    let same : new.seen ≡ old.seen ++ own = on.seen_is ∙ ap (λ (xs : List Event). xs ++ own) rest in
    record {
      goes = record {
        alone = record { all = subst (λ (ns : List Named). AreAllNames ns) (sym looked.sees.goes_on.names_are) all; own = whole };
        fixed_is = looked.sees.goes_on.fixed_is ∙ on.fixed_is;
        names_are = looked.sees.goes_on.names_are ∙ on.names_are;
        seen_is = seen;
      };
      before = before;
      then = seen ∙ sym same;
      legal = subst (λ (f : Fixed). IsLegal f (old.seen ++ own)) on.fixed_is (subst (λ (xs : List Event). IsLegal new.fixed xs) same on.legal);
    }

-- by none, where it looks round
pub looked_alone : (old later : SeatView) → IsLone old → LooksRound old later → Goes old later []
looked_alone old later alone looked =
    let whole : mine later ≡ later.seen = looked.alone alone.all in
    record {
      alone = record { all = subst (λ (ns : List Named). AreAllNames ns) (sym looked.sees.goes_on.names_are) alone.all; own = whole };
      fixed_is = looked.sees.goes_on.fixed_is;
      names_are = looked.sees.goes_on.names_are;
      seen_is = sym whole ∙ looked.sees.goes_on.mine_is ∙ ap (λ (xs : List Event). xs ++ []) alone.own;
    }

-- by one, where it calls and looks round: right in the state that it has seen
pub record Calls (old later : SeatView) (call : Call) : Type 0 where
  pub goes : Goes old later (event_of old call ∷ [])
  pub right : IsRightReply old.fixed (state_after old.seen) (names_of old) call

pub called_alone : (old new later : SeatView) (call : Call) → IsLone old → Called call old new → LooksRound new later → Calls old later call
called_alone old new later call alone did looked =
    let came = came_alone old new later did.between (event_of old call ∷ []) alone did.goes_on looked in
    record { goes = came.goes; right = (legal-append old.fixed empty old.seen (event_of old call ∷ []) came.legal).1.0 }

-- a call of one step is one of several
pub as_called : (call : Call) (old new : SeatView) → Did call old new → Called call old new
as_called call old new did = record { between = did.between; goes_on = did.goes_on; claims_are = did.claims_are; storing_is = did.storing_is }
