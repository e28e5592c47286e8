use Rattle.std.proofs.Common.{◌≡◌, ◌++◌, [], ◌∷◌, List, sym, subst}
use Rattle.std.proofs.lemmas.List.Elements.{All-push}
use Rattle.std.specs.List.{All}
use Rattle.crew_scenarios.proofs.place.crews_of.Goals as goal
use Rattle.gather.specs.declared.crew.Crew.{Crew}
use Rattle.store_shared.specs.Seats.{Gripped, IsSeatOf}

pub loop-holders-preserved : goal.loop-holders-preserved
loop-holders-preserved g c =
    let P : Crew g.row.H.Denot → Type 0 = λ crew. IsSeatOf c.args.assembly.now crew.seat in
    let all : c.push.new.self.items ≡ c.loop-holders.crews.items ++ c.new.result ∷ [] = c.in_ok-push.ensures.items in
    let new : IsSeatOf c.args.assembly.now c.new.result.seat = subst (λ (seat : Gripped). IsSeatOf c.args.assembly.now seat) (sym c.new.ensures.seat) c.in_ok-stays.ensures.1 in
    (c.in_ok-stays.ensures.0, subst (λ (crews : List (Crew g.row.H.Denot)). All P crews) (sym all) (All-push P _ _ c.loop-holders.invariant.1 new))
