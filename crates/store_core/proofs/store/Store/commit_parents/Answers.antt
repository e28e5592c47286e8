use Rattle.std.proofs.lemmas.Bool.Decides.{nat_tests}
use Rattle.std.proofs.Common.{◌≡◌, ◌≤◌, [], Some, refl, ap, ◌∙◌, arith, List}
use Rattle.std.specs.Vec.{with_items}
use Rattle.std.proofs.lemmas.List.{with_items_is}
use Rattle.store_core.specs.declared.history.Call.TheVariants.{Parents}
use Rattle.store_core.specs.declared.history.Storing.TheVariants.{Stored}
use Rattle.holders.specs.Room.{groups}
use Rattle.store_core.specs.Names.{Name}
use Rattle.holders.specs.Pieces.{IsAcceptedPiece, length_of, piece_of}
use Rattle.store_core.specs.Slots.{state_in, with_parents}
use Rattle.store_core.proofs.BoundStore.{parents_bind}
use Rattle.store_core.proofs.SlotStates.{IsDone, accepted_piece, reached_by}
use Rattle.store_core.proofs.StoredParents.{is_there, recorded_is, same_parents, store_none, stores_parent, unstored_memory}
use Rattle.store_core.proofs.store.Store.commit_parents.Goals as goal
use Rattle.store_core.proofs.store.Store.commit_parents.Goals.{After-make_room, After-put_parents, After-wanted-mask}

-- the piece is accepted, and claims the recorded length
accepted : (c : After-wanted-mask) → IsAcceptedPiece c.args.self.now.fixed (piece_of c.args.self.now.fixed.base c.args.piece.now)
    × (c.args.self.now.recorded ≡ Some (length_of (piece_of c.args.self.now.fixed.base c.args.piece.now)))
accepted c =
    let s = c.args.self.now in (
      accepted_piece s.fixed c.args.piece.now c.is_accepted.ensures.bytes c.is_accepted.ensures.accepted (c.is_of.ensures.0 c.if-not-is_of.false),
      recorded_is s.recorded c.claimed.result c.ne.result c.ne.ensures c.if-ne.false ∙ ap Some c.claimed.ensures,
    )

-- the group is there
there : (c : After-make_room) → c.args.self.now.recorded ≡ Some (length_of (piece_of c.args.self.now.fixed.base c.args.piece.now)) → groups c.args.self.now.fixed ≤ c.args.group → ⊥
there c =
    let s = c.args.self.now in
    is_there s.fixed s.slots.items s.recorded s.parents.items c.as_slice.result.now c.args.group c.wanted-mask.result (piece_of s.fixed.base c.args.piece.now) s.reached
    c.wanted-mask.ensures c.if-mask-eq0.false

-- the call is an event
stored : (c : After-put_parents) → IsAcceptedPiece c.args.self.now.fixed (piece_of c.args.self.now.fixed.base c.args.piece.now)
    × (c.args.self.now.recorded ≡ Some (length_of (piece_of c.args.self.now.fixed.base c.args.piece.now)))
    → (who : List Name) → IsDone c.args.self.now.fixed (with_parents (state_in c.args.self.now.slots.items c.args.self.now.recorded) c.args.self.now.parents.items)
    (with_parents (state_in c.args.self.now.slots.items c.args.self.now.recorded) (with_items c.make_room.new.parents c.put_parents.new.parents).items)
    who (Parents c.args.group (piece_of c.args.self.now.fixed.base c.args.piece.now) (Stored c.wanted-mask.result))
stored c is who = grind (arith, nat_tests, with_items_is)

pub returns-then-mask-eq0-clause-ok : goal.returns-then-mask-eq0-clause-ok
returns-then-mask-eq0-clause-ok c = λ who.
    let s = c.args.self.now in
    let is = accepted (goal.at.returns-then-mask-eq0-clause-ok c).After-wanted-mask in
    let done = store_none s.fixed (with_parents (state_in s.slots.items s.recorded) s.parents.items) c.args.group (piece_of s.fixed.base c.args.piece.now) is.0 is.1
    (rw (c.as_slice.ensures.value, c.if-mask-eq0.true) at c.wanted-mask.ensures) who in
    record { fixed = refl; right = done.right; after = done.after }

pub returns-then-mask-eq0-clause-binds : goal.returns-then-mask-eq0-clause-binds
returns-then-mask-eq0-clause-binds c = λ blob. parents_bind _ _ blob c.is_keyed.ensures

pub invariant_of-self : goal.invariant_of-self
invariant_of-self c =
    let s = c.args.self.now in
    record { limit = s.limit; low = s.low; within = s.within; reached = rw (same_parents (state_in s.slots.items s.recorded) _ _ c.make_room.ensures.same) s.reached }

pub returns-in_err-make_room-clause-refused : goal.returns-in_err-make_room-clause-refused
returns-in_err-make_room-clause-refused c =
    let s = c.args.self.now in
    unstored_memory _ _ c.args.group c.args.piece.now c.from_residual.result c.from_residual.ensures.1
    (record { fixed = refl; state = same_parents (state_in s.slots.items s.recorded) _ _ c.make_room.ensures.same })

pub returns-in_err-make_room-clause-absent : goal.returns-in_err-make_room-clause-absent
returns-in_err-make_room-clause-absent c = λ of length_is past. absurd (there (goal.at.returns-in_err-make_room-clause-absent c).After-make_room length_is past)

pub returns-in_err-make_room-clause-memory : goal.returns-in_err-make_room-clause-memory
returns-in_err-make_room-clause-memory c = λ out.
    stores_parent c.args.self.now c.args.group c.wanted-mask.result c.args.piece.now (omega (arith, c.if-mask-eq0.false)) (rw c.as_slice.ensures.value at c.wanted-mask.ensures)

pub returns-clause-absent : goal.returns-clause-absent
returns-clause-absent c = λ of length_is past. absurd (there (goal.at.returns-clause-absent c).After-make_room length_is past)

pub invariant_of-self-2-clause-reached : goal.invariant_of-self-2-clause-reached
invariant_of-self-2-clause-reached c =
    let g = goal.at.invariant_of-self-2-clause-reached c in reached_by (stored g.After-put_parents (accepted g.After-wanted-mask) []) c.args.self.now.reached

pub returns-clause-ok : goal.returns-clause-ok
returns-clause-ok c = λ who.
    let g = goal.at.returns-clause-ok c in
    let done = stored g.After-put_parents (accepted g.After-wanted-mask) who in record { fixed = refl; right = done.right; after = done.after }

pub returns-clause-binds : goal.returns-clause-binds
returns-clause-binds c = λ blob. parents_bind _ _ blob c.is_keyed.ensures
