use Rattle.std.proofs.lemmas.Bool.Decides.{nat_tests}
use Rattle.std.proofs.Common.{refl, arith}
use Rattle.std.specs.Vec.{with_items}
use Rattle.std.proofs.lemmas.List.{with_items_is}
use Rattle.store_core.specs.declared.history.Call.TheVariants.{Commit}
use Rattle.holders.specs.Pieces.{IsAcceptedPiece, piece_of}
use Rattle.store_core.specs.Slots.{caller, state_in, with_parents}
use Rattle.store_core.proofs.BoundStore.{piece_binds}
use Rattle.store_core.proofs.SlotStates.{IsDone, accepted_piece, commit_done, commit_none, is_of_piece, reached_by}
use Rattle.store_core.proofs.store.Store.commit.Goals as goal
use Rattle.store_core.proofs.store.Store.commit.Goals.{After-groups, After-put_ready}

accepted : (c : After-groups) → IsAcceptedPiece c.args.self.now.fixed (piece_of c.args.self.now.fixed.base c.args.piece.now)
accepted c = grind (arith, nat_tests, accepted_piece, is_of_piece)

-- the call is an event
committed : (c : After-put_ready) → IsAcceptedPiece c.args.self.now.fixed (piece_of c.args.self.now.fixed.base c.args.piece.now)
    → IsDone c.args.self.now.fixed (with_parents (state_in c.args.self.now.slots.items c.args.self.now.recorded) c.args.self.now.parents.items)
    (with_parents (state_in (with_items c.args.self.now.slots c.put_ready.new.slots).items c.args.self.now.recorded) c.args.self.now.parents.items)
    (caller c.args.seat) (Commit c.args.group (piece_of c.args.self.now.fixed.base c.args.piece.now) c.chosen-committed.result)
committed c is =
    let s = c.args.self.now in
    rw (with_items_is s.slots c.put_ready.new.slots (omega (arith, c.put_ready.auto.slots, c.as_mut_slice.ensures.len)))
    (commit_done s.fixed s.slots.items c.in_ok-ready.ready.items c.put_ready.new.slots s.recorded s.parents.items c.args.seat c.args.group c.chosen-committed.result c.args.piece.now
    is (rw c.as_slice.ensures.value at c.chosen-committed.ensures) c.in_ok-ready.ensures
    (rw (c.as_mut_slice.ensures.value, c.as_mut_slice-2.ensures.value) at c.put_ready.ensures))

pub invariant_of-self-clause-within : goal.invariant_of-self-clause-within
invariant_of-self-clause-within c =
    let s = c.args.self.now in omega (arith, s.within, s.slots.ok.0, (with_items s.slots c.put_ready.new.slots).ok.0)

pub invariant_of-self-clause-reached : goal.invariant_of-self-clause-reached
invariant_of-self-clause-reached c = reached_by (committed (goal.at.invariant_of-self-clause-reached c).After-put_ready (accepted (goal.at.invariant_of-self-clause-reached c).After-groups)) c.args.self.now.reached

pub returns-clause-ok : goal.returns-clause-ok
returns-clause-ok c = let done = committed (goal.at.returns-clause-ok c).After-put_ready (accepted (goal.at.returns-clause-ok c).After-groups) in record { fixed = refl; right = done.right; after = done.after }

pub returns-then-group-groups-clause-ok : goal.returns-then-group-groups-clause-ok
returns-then-group-groups-clause-ok c =
    let s = c.args.self.now in
    let done = commit_none s.fixed s.slots.items s.recorded s.parents.items c.args.seat c.args.group c.args.piece.now (accepted (goal.at.returns-then-group-groups-clause-ok c).After-groups)
    s.within (omega (arith, c.groups.ensures, c.if-group-groups.true)) in
    record { fixed = refl; right = done.right; after = done.after }

pub returns-clause-binds : goal.returns-clause-binds
returns-clause-binds c = piece_binds c.args.self.now.fixed _ c.args.group c.chosen-committed.result c.is_keyed.ensures (accepted (goal.at.returns-clause-binds c).After-groups)

pub returns-then-group-groups-clause-binds : goal.returns-then-group-groups-clause-binds
returns-then-group-groups-clause-binds c = piece_binds c.args.self.now.fixed _ c.args.group 0 c.is_keyed.ensures (accepted (goal.at.returns-then-group-groups-clause-binds c).After-groups)
