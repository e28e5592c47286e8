use Rattle.std.proofs.Common.{◌≡◌, ℕ, subst, sym, arith}
use Rattle.store_core.specs.declared.view.SeatView.{SeatView}
use Rattle.holders.specs.Pieces.{piece_of}
use Rattle.store_shared.specs.Seats.{fixed_of}
use Rattle.berylwool.specs.Storing.{CommitsGroup}
use Rattle.berylwool.proofs.EachGroup.{each_next, each_none}
use Rattle.berylwool.proofs.storing.commit_groups.Goals as goal

pub loop-group-init : goal.loop-group-init
loop-group-init c = (c.requires.seat, each_none _ c.args.seat.now.view, λ is. is, omega arith)

pub loop-group-preserved : goal.loop-group-preserved
loop-group-preserved c =
    let step : ℕ → ℕ → SeatView → SeatView → Type 0 = CommitsGroup (fixed_of c.args.store.now) (piece_of (fixed_of c.args.store.now).base c.args.piece.now) in
    let one : c.from-count.result ≡ c.commit_group.result = omega arith in (
      c.commit_group.ensures.of,
      each_next step c.loop-group.group c.loop-group.count c.from-count.result c.args.seat.now.view c.loop-group.seat.view c.commit_group.new.seat.view c.loop-group.invariant.1
          (subst (λ (n : ℕ). step c.loop-group.group n c.loop-group.seat.view c.commit_group.new.seat.view) (sym one) c.commit_group.ensures.commits),
      λ is. c.commit_group.ensures.records (c.loop-group.invariant.2 is),
      omega (arith, c.loop-group.invariant.3, c.commit_group.type_inv, one),
    )
