use Rattle.std.proofs.Common.{inr, refl, ◌≡◌, ℕ, ◌*◌, ◌%◌, ◌≤◌, nat_lt, true, false, not, ◌&&◌, List, Option, Some, is_some, sym, ap, subst, ◌∙◌, arith}
use Rattle.std.proofs.lemmas.Bool.{le-ltb, lt-ltb}
use Rattle.b3tree.specs.Valid.{IsKeyed}
use Rattle.holders.specs.declared.fixed.Fixed.{Fixed}
use Rattle.holders.specs.declared.piece.Piece.{Piece}
use Rattle.holders.specs.Room.{groups}
use Rattle.holders.specs.Pieces.{length_of, piece_of}
use Rattle.store_core.proofs.StoredParents.{recorded_is}
use Rattle.store_steps.specs.Slices.{is_recorded}
use Rattle.store_core.specs.declared.history.Event.{Event}
use Rattle.store_core.specs.declared.view.Named.{Named}
use Rattle.store_core.specs.declared.view.SeatView.{SeatView}
use Rattle.store_core.specs.Histories.{state_after}
use Rattle.store_core.specs.Knowledge.{AreAllNames, Sees}
use Rattle.store_core.specs.Masks.{IsMaskOf, has_bit}
use Rattle.holders.specs.Pieces.{holds_parent}
use Rattle.store_core.proofs.HasRoom.{recorded_fits}
use Rattle.store_shared.proofs.AllParents.{all_parents, none_absent, saw_nothing}
use Rattle.store_shared.proofs.ParentsCommitting.{group_absent, length_differs, only_seen, other_is, parents_bind, parents_stored, words_written, own_parents}
use Rattle.store_shared.proofs.parents.commit_parents.Goals as goal

pub returns-then-ne-clause-called : goal.returns-then-ne-clause-called
returns-then-ne-clause-called c =
    let piece : Piece = piece_of c.args.words.now.fixed.base c.args.piece.now in
    let load = c.length_to_store-length in
    let differs : is_recorded load.result (length_of piece) ≡ false =
    ap (λ (l : ℕ). is_recorded load.result l) (sym c.claimed.ensures) ∙ other_is load.result c.claimed.result c.ne.result c.ne.ensures c.if-ne.true in
    length_differs c.args.group piece c.args.grip.now.view load.new.grip.view c.requires.of.knows.legal load.ensures.looked
    (ap (λ (o : Option ℕ). is_recorded o (length_of piece)) (sym load.ensures.recorded) ∙ differs)

pub returns-then-ne-clause-binds : goal.returns-then-ne-clause-binds
returns-then-ne-clause-binds c =
    parents_bind c.args.words.now c.length_to_store-length.new.grip (subst (λ (f : Fixed). IsKeyed f.mode) c.fixed-fixed.ensures c.is_keyed.ensures)
    c.length_to_store-length.ensures.of

pub returns-then-group-div_ceil : goal.returns-then-group-div_ceil
returns-then-group-div_ceil c =
    let piece : Piece = piece_of c.args.words.now.fixed.base c.args.piece.now in
    let load = c.length_to_store-length in
    let view : SeatView = load.new.grip.view in
    let there : (state_after view.seen).recorded ≡ Some (length_of piece) =
    sym load.ensures.recorded ∙ recorded_is load.result c.claimed.result c.ne.result c.ne.ensures c.if-ne.false ∙ ap (λ (l : ℕ). Some l) c.claimed.ensures in
    let count : c.fixed-fixed.result.capacity ≡ c.args.words.now.fixed.capacity = ap (λ (f : Fixed). f.capacity) c.fixed-fixed.ensures in
    let same : view.fixed.capacity ≡ c.args.words.now.fixed.capacity = ap (λ (f : Fixed). f.capacity) load.ensures.of.knows.fixed_is in
    let fits : length_of piece ≤ 1024 * view.fixed.capacity = recorded_fits view.fixed view.seen (length_of piece) load.ensures.of.knows.legal there in
    let absent : nat_lt c.args.group (groups c.args.grip.now.view.fixed) ≡ false =
    ap (λ (f : Fixed). nat_lt c.args.group (groups f)) c.requires.of.knows.fixed_is ∙ le-ltb c.args.group (groups c.args.words.now.fixed) (omega (arith, count)) in
    record {
      of = load.ensures.of;
      called = group_absent c.args.group piece c.args.grip.now.view view c.requires.of.knows.legal load.ensures.looked there absent;
      alone = λ all. none_absent c.args.words.now.fixed.capacity c.args.group piece (state_after c.args.grip.now.view.seen) (omega (arith, fits, same)) (omega (arith, count));
      absent = λ none. inr refl;
      binds = parents_bind c.args.words.now load.new.grip (subst (λ (f : Fixed). IsKeyed f.mode) c.fixed-fixed.ensures c.is_keyed.ensures) load.ensures.of;
    }

pub store_items-requires-clause-own : goal.store_items-requires-clause-own
store_items-requires-clause-own c =
    own_parents c.args.group c.parents_in-want.result c.claim_parents-mask.result c.fixed-fixed.result.capacity (piece_of c.args.words.now.fixed.base c.args.piece.now)
    c.length_to_store-length.new.grip.view c.claim_parents-mask.new.grip.view c.parents_in-want.ensures c.claim_parents-mask.ensures.among c.claim_parents-mask.ensures.claimed
    (ap (λ (f : Fixed). f.capacity) (c.claim_parents-mask.ensures.of.knows.fixed_is ∙ sym c.fixed-fixed.ensures))

pub publish_parents-requires-clause-written : goal.publish_parents-requires-clause-written
publish_parents-requires-clause-written c =
    let piece : Piece = piece_of c.args.words.now.fixed.base c.args.piece.now in
    words_written c.args.group c.claim_parents-mask.result piece c.length_to_store-length.new.grip.view c.claim_parents-mask.new.grip.view c.store_items.new.grip.view
    c.claim_parents-mask.ensures.claimed c.store_items.ensures.stored
    (own_parents c.args.group c.parents_in-want.result c.claim_parents-mask.result c.fixed-fixed.result.capacity piece c.length_to_store-length.new.grip.view
    c.claim_parents-mask.new.grip.view c.parents_in-want.ensures c.claim_parents-mask.ensures.among c.claim_parents-mask.ensures.claimed
    (ap (λ (f : Fixed). f.capacity) (c.claim_parents-mask.ensures.of.knows.fixed_is ∙ sym c.fixed-fixed.ensures)))

pub returns : goal.returns
returns c =
    let piece : Piece = piece_of c.args.words.now.fixed.base c.args.piece.now in
    let load = c.length_to_store-length in
    let claim = c.claim_parents-mask in
    let capacity : ℕ = c.args.words.now.fixed.capacity in
    let old : SeatView = c.args.grip.now.view in
    let view : SeatView = load.new.grip.view in
    let there : (state_after view.seen).recorded ≡ Some (length_of piece) =
    sym load.ensures.recorded ∙ recorded_is load.result c.claimed.result c.ne.result c.ne.ensures c.if-ne.false ∙ ap (λ (l : ℕ). Some l) c.claimed.ensures in
    let count : c.fixed-fixed.result.capacity ≡ capacity = ap (λ (f : Fixed). f.capacity) c.fixed-fixed.ensures in
    let within : nat_lt c.args.group (groups old.fixed) ≡ true =
    ap (λ (f : Fixed). nat_lt c.args.group (groups f)) c.requires.of.knows.fixed_is ∙ lt-ltb c.args.group (groups c.args.words.now.fixed) (omega (arith, count)) in
    record {
      of = c.publish_parents.ensures.of;
      called = parents_stored c.args.group piece old view c.requires.of.knows.legal load.ensures.looked claim.result claim.new.grip.view c.store_items.new.grip.view
          c.publish_parents.new.grip.view there within c.requires.none claim.ensures.claimed c.store_items.ensures.stored c.publish_parents.ensures.called;
      alone = λ all.
          let same : view.fixed.capacity ≡ capacity = ap (λ (f : Fixed). f.capacity) load.ensures.of.knows.fixed_is in
          let saw : Sees old view = only_seen c.args.group piece old view c.requires.of.knows.legal load.ensures.looked there within in
          let whole : AreAllNames view.names = subst (λ (ns : List Named). AreAllNames ns) (sym saw.goes_on.names_are) all in
          let seen : view.seen ≡ old.seen = saw_nothing old view saw (claim.ensures.own whole) in
          let fits : length_of piece ≤ 1024 * capacity = omega (arith, same, recorded_fits view.fixed view.seen (length_of piece) load.ensures.of.knows.legal there) in
          let wants : IsMaskOf c.args.group c.parents_in-want.result (λ m. nat_lt m capacity && holds_parent piece m) =
          subst (λ (n : ℕ). IsMaskOf c.args.group c.parents_in-want.result (λ m. nat_lt m n && holds_parent piece m)) count c.parents_in-want.ensures in
          all_parents capacity c.args.group c.parents_in-want.result claim.result piece (state_after old.seen) fits wants
          (subst (λ (xs : List Event). IsMaskOf c.args.group claim.result (λ m. has_bit c.parents_in-want.result (m % 64)
          && (nat_lt m capacity && not (is_some ((state_after xs).parents m))))) seen (claim.ensures.alone whole));
      absent = λ none. absurd (none (omega (arith, count)));
      binds = parents_bind c.args.words.now c.publish_parents.new.grip (subst (λ (f : Fixed). IsKeyed f.mode) c.fixed-fixed.ensures c.is_keyed.ensures) c.publish_parents.ensures.of;
    }
