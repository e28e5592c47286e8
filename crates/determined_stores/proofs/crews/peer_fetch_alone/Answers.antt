use Rattle.std.proofs.Common.{subst, sym}
use Rattle.store_core.specs.Knowledge.{LooksRound}
use Rattle.store_shared.specs.Seats.{Gripped}
use Rattle.determined_stores.specs.Alone.{AreAlike}
use Rattle.determined_stores.proofs.Fetched.{both_fetch}
use Rattle.determined_stores.proofs.crews.peer_fetch_alone.Goals as goal

pub returns-clause-text : goal.returns-clause-text
returns-clause-text c =
    let one = c.new-one.result.seat.view in
    both_fetch one c.fetch-fetched.new.self.seat.view c.look_round.new.seat.view c.new-other.result.seat.view c.fetch-also.new.self.seat.view c.look_round-2.new.seat.view
    c.args.start c.args.len c.args.ours.now.items c.fetch-fetched.new.into.items c.args.theirs.now.items c.fetch-also.new.into.items c.fetch-fetched.result c.fetch-also.result
    (subst (λ (s : Gripped). AreAlike one s.view) (sym c.new-other.ensures.seat) (subst (λ (s : Gripped). AreAlike s.view c.args.second.view) (sym c.new-one.ensures.seat) c.requires.alike))
    c.requires.buffers
    c.fetch-fetched.ensures.fetches (subst (λ (s : Gripped). LooksRound s.view c.look_round.new.seat.view) c.into_seat-seat.ensures.seat c.look_round.ensures.looked)
    c.fetch-also.ensures.fetches (subst (λ (s : Gripped). LooksRound s.view c.look_round-2.new.seat.view) c.into_seat-next.ensures.seat c.look_round-2.ensures.looked)
