use Rattle.gather.proofs.SeatCommon.{◌<◌, List, length, arith, subst}
use Rattle.std.proofs.lemmas.List.{get_or_default}
use Rattle.gather.proofs.InTurn.{turns}
use Rattle.gather.specs.Filling.{Closes}
use Rattle.gather.specs.SeatLasting.{IsBusyOn}
use Rattle.gather.specs.declared.crew.Crew.{Crew}
use Rattle.gather.proofs.rounds.close_in_turn.Goals as goal

pub returns : goal.returns
returns g c =
    let met : List (Crew g.row.H.Denot) = c.all_meet.new.crews in
    let below : c.args.number < length met = omega (arith, c.requires.count.0, c.all_meet.ensures.looks.len) in
    turns c.args.assembly.now c.args.form.now g.H.Holder.gives g.H.Holder.count c.args.number c.args.crews.now met c.all_meet-2.new.crews c.close.new.crew c.requires.count.0
    c.all_meet.ensures c.all_meet-2.ensures
    (λ d. subst (λ (crew : Crew g.row.H.Denot). Closes c.args.assembly.now c.args.form.now g.H.Holder.gives g.H.Holder.count IsBusyOn crew c.close.new.crew)
    (get_or_default met c.args.number c.index-crews-number.result d below) c.close.ensures)
