use Rattle.gather.proofs.SeatCommon.{ℕ, ◌<◌, List, length, arith, inl, inr, cases_lt, common_steps, ◌∙◌, refl}
use Rattle.gather.proofs.InTurn.{looks_none, turned_done, turned_rest}
use Rattle.gather.specs.declared.crew.Crew.{Crew}
use Rattle.gather.proofs.rounds.last_round.Goals as goal

pub loop-number-init : goal.loop-number-init
loop-number-init g c = (refl, λ i d below high. looks_none c.args.assembly.now _ (c.requires.of i d below), λ i d low. absurd (omega (arith, low)))

pub close_in_turn-requires-clause-of : goal.close_in_turn-requires-clause-of
close_in_turn-requires-clause-of g c = λ i d below. elim (cases_lt i c.loop-number.number) [
  | inl low ↦ (c.loop-number.invariant.2 i d low).worked.of
  | inr high ↦ (c.loop-number.invariant.1 i d (omega (arith, below, c.loop-number.invariant.0)) high).of
]

pub loop-number-preserved : goal.loop-number-preserved
loop-number-preserved g c =
    let old : List (Crew g.row.H.Denot) = c.args.crews.now in
    let now : List (Crew g.row.H.Denot) = c.loop-number.crews in
    let new : List (Crew g.row.H.Denot) = c.close_in_turn.new.crews in
    let k : ℕ = c.loop-number.number in
    let below : k < length now = grind (arith, common_steps) in
    let x = c.loop-number.invariant in
    let turn = c.close_in_turn.ensures in (
      turn.len ∙ x.0,
      turned_rest c.args.assembly.now c.args.form.now g.H.Holder.gives g.H.Holder.count old now new k c.requires.of x.0 below x.1 x.2 turn,
      turned_done c.args.assembly.now c.args.form.now g.H.Holder.gives g.H.Holder.count old now new k c.requires.of x.0 below x.1 x.2 turn,
    )
