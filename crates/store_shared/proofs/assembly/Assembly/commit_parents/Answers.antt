use Rattle.std.proofs.Common.{sym, subst}
use Rattle.holders.specs.declared.piece.Piece.{Piece}
use Rattle.store_core.specs.Knowledge.{AreAllNames}
use Rattle.holders.specs.Pieces.{piece_of}
use Rattle.store_shared.specs.Seats.{Gripped}
use Rattle.store_shared.proofs.ParentsHeld.{parents_held}
use Rattle.store_shared.proofs.assembly.Assembly.commit_parents.Goals.{in-Stored, in-OtherLength}
use Rattle.store_shared.proofs.assembly.Assembly.commit_parents.Goals as goal

pub returns-clause-held : goal.returns-clause-held
returns-clause-held c = λ all.
    let piece : Piece = piece_of c.args.self.now.words.fixed.base c.args.piece.now in
    let names : AreAllNames c.seat.inside.grip.view.names = subst (λ (x : Gripped). AreAllNames x.view.names) (sym c.seat.view_is) all in
    elim c.match-commit_parents.branch [
      | in-Stored w ↦
          rw w.result-is
          (parents_held c.seat.inside.grip.view c.commit_parents.new.grip.view c.args.group w.in-Stored.mask piece w.in-Stored.ensures.called (w.in-Stored.ensures.alone names))
      | in-OtherLength w ↦ rw w.result-is tt
    ]
