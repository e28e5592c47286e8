use Rattle.std.proofs.Common.{◌∙◌, ℕ, List, ap, inr, length-take-le, subst, sym, take, arith}
use Rattle.b3tree.specs.declared.mode.Mode.{Mode}
use Rattle.b3tree.specs.declared.values.Hash.{Hash}
use Rattle.bao_check.specs.Accepted.{IsAccepted, slice_nodes}
use Rattle.bao_text.specs.Cut.{slice_len}
use Rattle.holders.specs.declared.fixed.Fixed.{Fixed}
use Rattle.holders.specs.declared.piece.Piece.{Piece}
use Rattle.holders.specs.Room.{groups}
use Rattle.store_shared.specs.Seats.{fixed_of}
use Rattle.berylwool.specs.Calls.{slice_piece}
use Rattle.berylwool.specs.Storing.{CommitsGroup, EachGroup}
use Rattle.berylwool.proofs.FrontGood.{front_of}
use Rattle.berylwool.proofs.Texts.{piece_is}
use Rattle.berylwool.proofs.fronts.commit_front.Goals as goal

pub slice_bounds-new-end : goal.slice_bounds-new-end
slice_bounds-new-end c =
    let fixed : Fixed = fixed_of c.args.store.now in
    let front = front_of fixed.mode fixed.root.0 c.args.text.now c.args.start c.args.len c.args.at c.in-Some.part c.claimed-total.result c.slice_size-size.result c.args.fault.now
    c.claimed-total.ensures c.slice_size-size.ensures.value c.if-total-eq0.false c.requires.fault c.requires.at c.in-Some.ensures.within c.in-Some.ensures.before in
    sym (length-take-le c.slice_size-size.result c.args.text.now front.1)

pub new-piece-requires : goal.new-piece-requires
new-piece-requires c =
    let fixed : Fixed = fixed_of c.args.store.now in
    let part : ℕ = c.in-Some.part in
    let text : List ℕ = take c.slice_size-size.result c.args.text.now in
    let front = front_of fixed.mode fixed.root.0 c.args.text.now c.args.start c.args.len c.args.at part c.claimed-total.result c.slice_size-size.result c.args.fault.now
    c.claimed-total.ensures c.slice_size-size.ensures.value c.if-total-eq0.false c.requires.fault c.requires.at c.in-Some.ensures.within c.in-Some.ensures.before in
    subst (λ (m : Mode). IsAccepted m c.root.result.0 text (slice_nodes text c.args.start part)) (sym c.mode.ensures)
    (subst (λ (r : Hash). IsAccepted fixed.mode r.0 text (slice_nodes text c.args.start part)) (sym c.root.ensures) front.2)

pub returns-clause-commits : goal.returns-clause-commits
returns-clause-commits c =
    let fixed : Fixed = fixed_of c.args.store.now in
    let start : ℕ = c.args.start in
    let part : ℕ = c.in-Some.part in
    let count : ℕ = c.slice_size-size.result in
    let text : List ℕ = c.args.text.now in
    let front = front_of fixed.mode fixed.root.0 text start c.args.len c.args.at part c.claimed-total.result count c.args.fault.now
    c.claimed-total.ensures c.slice_size-size.ensures.value c.if-total-eq0.false c.requires.fault c.requires.at c.in-Some.ensures.within c.in-Some.ensures.before in
    let is = piece_is fixed.base c.new-piece.result c.mode.result c.root.result.0 start part (take count text) c.new-piece.ensures ∙ ap (λ (n : ℕ). slice_piece fixed.base (take n text) start part) front.0 in
    inr (
      part,
      record {
        within = c.in-Some.ensures.within;
        before = omega (arith, front.0, c.slice_size-size.ensures.value, c.in-Some.ensures.before);
        most = λ n above below. omega (arith, c.in-Some.ensures.most n above below, ap (λ (total : ℕ). slice_len total start n) c.claimed-total.ensures);
        accepted = subst (λ (n : ℕ). IsAccepted fixed.mode fixed.root.0 (take n text) (slice_nodes (take n text) start part)) front.0 front.2;
      },
      subst (λ (p : Piece). EachGroup (CommitsGroup fixed p) (groups fixed) c.commit_groups.result c.args.seat.now.view c.commit_groups.new.seat.view) is c.commit_groups.ensures.commits,
    )
