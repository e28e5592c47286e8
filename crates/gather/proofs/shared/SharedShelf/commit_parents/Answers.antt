use Rattle.gather.proofs.SeatCommon.{◌≡◌, ◌/◌, ℕ, true, count_ones, inr, ParentsFault, SeatIsUnstored, subst, sym, IsIt, Fixed, piece_of, fixed_of, Parents, refl}
use Rattle.gather.proofs.Sharing.{goes_on}
use Rattle.gather.proofs.SeatKnowing.{parents_there, unstored_refused}
use Rattle.gather.specs.SeatLasting.{HasParentOn, RecordsOn}
use Rattle.gather.specs.Filled.{IsOfOtherLength}
use Rattle.holders.specs.Pieces.{holds_parent}
use Rattle.gather.proofs.shared.SharedShelf.commit_parents.Goals as goal
use Rattle.gather.specs.Seats.{GoneOn}
use Rattle.store_core.specs.declared.history.Storing.TheVariants as storing

pub returns-in-Ok-clause-gained : goal.returns-in-Ok-clause-gained
returns-in-Ok-clause-gained c =
    subst (λ (f : Fixed). GoneOn (IsIt (piece_of f.base c.args.piece.now)) c.args.seat.now c.commit_parents.new.seat 0 (count_ones c.in-Ok.stored)) (sym c.requires.knows.fixed_is)
    (goes_on (IsIt (piece_of (fixed_of c.args.self.now.0.now).base c.args.piece.now)) c.args.seat.now c.commit_parents.new.seat
    (Parents c.args.group (piece_of (fixed_of c.args.self.now.0.now).base c.args.piece.now) (storing.Stored c.in-Ok.stored)) refl c.in-Ok.ensures.called)

pub returns-in-Ok-clause-parents : goal.returns-in-Ok-clause-parents
returns-in-Ok-clause-parents c =
    subst (λ (f : Fixed). (m : ℕ) → m / 64 ≡ c.args.group → holds_parent (piece_of f.base c.args.piece.now) m ≡ true → HasParentOn c.commit_parents.new.seat m) (sym c.requires.knows.fixed_is)
    (parents_there c.args.seat.now c.commit_parents.new.seat c.args.group (piece_of (fixed_of c.args.self.now.0.now).base c.args.piece.now) c.in-Ok.stored c.in-Ok.ensures.called
    c.in-Ok.ensures.alone)

pub returns-in-Err-OtherLength-clause-refused : goal.returns-in-Err-OtherLength-clause-refused
returns-in-Err-OtherLength-clause-refused c =
    let fixed : Fixed = fixed_of c.args.self.now.0.now in
    let refused = subst (λ (fault : ParentsFault). SeatIsUnstored fixed c.args.group c.args.piece.now fault c.args.seat.now c.commit_parents.new.seat) c.in-Err-OtherLength.field-0-is c.in-Err-OtherLength.ensures.refused in
    inr (inr (subst (λ (f : Fixed). IsOfOtherLength RecordsOn c.args.seat.now (piece_of f.base c.args.piece.now)) (sym c.requires.knows.fixed_is)
    (unstored_refused fixed c.args.seat.now c.commit_parents.new.seat c.args.group c.args.piece.now refused)))
