use Rattle.std.proofs.Common.{◌≡◌, ℕ, Err, inl, inr, refl, subst, arith}
use Rattle.store_core.proofs.Choosing.{parents_marked}
use Rattle.store_core.specs.declared.history.Call.TheVariants.{Parents}
use Rattle.store_core.specs.declared.history.Storing.TheVariants.{Stored}
use Rattle.store_core.specs.Masks.{IsMaskOf}
use Rattle.holders.specs.Pieces.{holds_parent, length_of, piece_of}
use Rattle.store_shared.specs.Seats.{fixed_of}
use Rattle.berylwool.proofs.EachGroup.{never_unstored, passes, records_on}
use Rattle.berylwool.proofs.storing.store_group.Goals as goal

pub unreachable-requires : goal.unreachable-requires
unreachable-requires c =
    never_unstored (fixed_of c.args.store.now) c.args.seat.now c.commit_parents.new.seat c.args.group c.args.piece.now c.in_default.field-0
    (λ is. c.in_default.ensures.root.0 (λ i. Err (is i)) c.requires.piece) c.requires.records c.in_default.ensures.refused

pub returns-then-parents_of-eq0-clause-stores : goal.returns-then-parents_of-eq0-clause-stores
returns-then-parents_of-eq0-clause-stores c =
    let piece = c.args.piece.now in
    let group : c.from.result ≡ c.args.group = omega arith in
    let marked : IsMaskOf c.args.group c.parents_of.result (λ m. holds_parent (piece_of 0 piece) m) =
    subst (λ (g : ℕ). IsMaskOf g c.parents_of.result (λ m. holds_parent (piece_of 0 piece) m)) group
    (parents_marked piece c.from.result c.parents_of.result c.parents_of.type_inv c.parents_of.ensures) in
    inl (passes (λ m. holds_parent (piece_of 0 piece) m) c.args.group c.parents_of.result 0 c.args.seat.now.view c.args.seat.now.view marked c.if-parents_of-eq0.true refl refl)

pub returns-clause-records : goal.returns-clause-records
returns-clause-records c =
    let piece = piece_of (fixed_of c.args.store.now).base c.args.piece.now in
    records_on piece (Parents c.args.group piece (Stored c.in-Ok.mask)) c.args.seat.now c.commit_parents.new.seat (length_of piece) refl c.in-Ok.ensures.called c.requires.records

pub returns-clause-stores : goal.returns-clause-stores
returns-clause-stores c = inr (record { mask = c.in-Ok.mask; stores = c.in-Ok.ensures.called; binds = c.in-Ok.ensures.binds; held = c.in-Ok.ensures.held; count_is = refl })
