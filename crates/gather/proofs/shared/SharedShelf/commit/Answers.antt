use Rattle.gather.proofs.SeatCommon.{◌≡◌, ◌/◌, ℕ, true, count_ones, subst, sym, IsIt, Fixed, in_mask, holds_chunk, piece_of, fixed_of, Commit, refl}
use Rattle.gather.proofs.SeatAlone.{held_there}
use Rattle.gather.proofs.Sharing.{goes_on, stays_same}
use Rattle.gather.proofs.SeatKnowing.{all_there}
use Rattle.gather.proofs.shared.SharedShelf.commit.Goals as goal
use Rattle.gather.specs.Seats.{GoneOn, claims_of}

pub returns-in-Ok-clause-gained : goal.returns-in-Ok-clause-gained
returns-in-Ok-clause-gained c =
    subst (λ (f : Fixed). GoneOn (IsIt (piece_of f.base c.args.piece.now)) c.args.seat.now c.commit.new.seat (count_ones c.in-Ok.committed) 0) (sym c.requires.knows.fixed_is)
    (goes_on (IsIt (piece_of (fixed_of c.args.self.now.0.now).base c.args.piece.now)) c.args.seat.now c.commit.new.seat
    (Commit c.args.group (piece_of (fixed_of c.args.self.now.0.now).base c.args.piece.now) c.in-Ok.committed) refl c.in-Ok.ensures.called)

pub returns-in-Ok-clause-all : goal.returns-in-Ok-clause-all
returns-in-Ok-clause-all c =
    subst (λ (f : Fixed). (n : ℕ) → n / 64 ≡ c.args.group → claims_of c.args.seat.now n ≡ true → holds_chunk (piece_of f.base c.args.piece.now) n ≡ true
    → in_mask c.args.group c.in-Ok.committed n ≡ true) (sym c.requires.knows.fixed_is)
    (all_there c.args.seat.now c.commit.new.seat c.args.group _ c.in-Ok.committed c.in-Ok.ensures.called)

pub returns-in-Ok-clause-held : goal.returns-in-Ok-clause-held
returns-in-Ok-clause-held c = held_there c.args.seat.now c.commit.new.seat c.args.group _ c.in-Ok.committed c.in-Ok.ensures.called

pub returns-in-Err-clause-gained : goal.returns-in-Err-clause-gained
returns-in-Err-clause-gained c = stays_same _ c.args.seat.now c.commit.new.seat c.in-Err.ensures.same
