use Rattle.std.proofs.Common.{◌≡◌, ◌<◌, ◌++◌, ℕ, true, false, Bool, List, Option, Some, refl, sym, subst, ◌∙◌}
use Rattle.std.specs.List.{AllByRecursion}
use Rattle.std.proofs.lemmas.Result.{err_from_is_err_and}
use Rattle.b3tree.specs.Valid.{IsKeyed}
use Rattle.bao_text.specs.declared.walk.Node.{Node}
use Rattle.bao_text.specs.Rest.{rest_of}
use Rattle.holders.specs.declared.fixed.Fixed.{Fixed}
use Rattle.store_core.specs.declared.history.Call.TheVariants.{Serve}
use Rattle.store_core.specs.declared.history.Serving.TheVariants.{Text}
use Rattle.store_core.specs.declared.view.SeatView.{SeatView}
use Rattle.store_core.specs.Histories.{state_after}
use Rattle.store_core.specs.Serves.{node_held}
use Rattle.store_core.specs.Stores.{GainsNode}
use Rattle.store_steps.specs.Slices.{node_number}
use Rattle.store_core.specs.Knowledge.{Called, Sees}
use Rattle.store_shared.proofs.Slices.{AreBelow, IsServing, below_next, has_length, lacks, names_below, none_told, serve_accepted, serve_binds, serves_first, serves_on}
use Rattle.store_shared.proofs.serving.serve_slice.Goals as goal

pub returns-in_err-extend_from_slice-clause-refused : goal.returns-in_err-extend_from_slice-clause-refused
returns-in_err-extend_from_slice-clause-refused c =
    let p = err_from_is_err_and c.from_residual.result c.from_residual.ensures.1 in
    rw (p.1, p.2) (has_length c.args.grip.now.view c.length_to_serve.new.grip.view c.args.start c.args.len c.requires.of.knows.legal c.length_to_serve.ensures.looked
    c.in-Some.length (sym c.length_to_serve.ensures.recorded ∙ c.in-Some.is))

pub nodes-init : goal.nodes-init
nodes-init c =
    let first : SeatView = c.args.grip.now.view in
    let new : SeatView = c.length_to_serve.new.grip.view in
    let fixed : Fixed = c.args.words.now.fixed in
    let some : (state_after new.seen).recorded ≡ Some c.in-Some.length = sym c.length_to_serve.ensures.recorded ∙ c.in-Some.is in
    let sees : Sees first new = has_length first new c.args.start c.args.len c.requires.of.knows.legal c.length_to_serve.ensures.looked c.in-Some.length some in
    let capacity : 0 < new.fixed.capacity = subst (λ (f : Fixed). 0 < f.capacity) (sym c.length_to_serve.ensures.of.knows.fixed_is) c.args.words.now.some in
    let below : AllByRecursion (λ node. node_number node < fixed.capacity) (rest_of c.nodes-rest.result) =
    subst (λ (f : Fixed). AllByRecursion (λ node. node_number node < f.capacity) (rest_of c.nodes-rest.result)) c.length_to_serve.ensures.of.knows.fixed_is
    (subst (λ (nodes : List Node). AllByRecursion (λ node. node_number node < new.fixed.capacity) nodes) (sym c.nodes-rest.ensures)
    (names_below new.fixed new.seen c.in-Some.length c.args.start c.args.len c.length_to_serve.ensures.of.knows.legal some capacity)) in (
      c.length_to_serve.ensures.of,
      serves_first first new c.args.start c.args.len c.in-Some.length c.next-next.result (rest_of c.nodes-rest.result) (rest_of c.next-next.new.self) c.extend_from_slice.new.self.items
          sees some c.nodes-rest.ensures c.next-next.ensures.steps
          (c.in_ok-extend_from_slice.ensures.items ∙ (λ i. c.new-out.ensures.items i ++ c.to_le_bytes.ensures i)),
      below_next fixed.capacity c.next-next.result (rest_of c.nodes-rest.result) (rest_of c.next-next.new.self) c.next-next.ensures.steps below,
    )

pub returns-then-not-branch-clause-refused : goal.returns-then-not-branch-clause-refused
returns-then-not-branch-clause-refused c =
    let first : SeatView = c.args.grip.now.view in
    let view : SeatView = c.nodes.grip.view in
    let new : SeatView = c.append_node.new.grip.view in
    let node : Node = c.in-Some-next.node in
    let going : IsServing first view c.args.start c.args.len (Some node) (rest_of c.nodes.rest) c.nodes.out.items =
    subst (λ (o : Option Node). IsServing first view c.args.start c.args.len o (rest_of c.nodes.rest) c.nodes.out.items) c.in-Some-next.is c.nodes.invariant.1 in
    let gains : GainsNode (node_held (state_after new.seen) node) c.nodes.out.items c.append_node.new.out.items false =
    subst (λ (b : Bool). GainsNode (node_held (state_after new.seen) node) c.nodes.out.items c.append_node.new.out.items b) c.if-not-branch.true c.in_ok-append_node.ensures.appended in
    lacks first view new c.args.start c.args.len node c.next-next-in-Some-next.result (rest_of c.nodes.rest) (rest_of c.next-next-in-Some-next.new.self)
    c.nodes.out.items c.append_node.new.out.items going c.next-next-in-Some-next.ensures.steps c.is_none.result
    (none_told c.is_none.result c.next-next-in-Some-next.result c.is_none.ensures) c.in_ok-append_node.ensures.looked gains

pub nodes-preserved : goal.nodes-preserved
nodes-preserved c =
    let first : SeatView = c.args.grip.now.view in
    let view : SeatView = c.nodes.grip.view in
    let new : SeatView = c.append_node.new.grip.view in
    let node : Node = c.in-Some-next.node in
    let next : Option Node = c.next-next-in-Some-next.result in
    let capacity : ℕ = c.args.words.now.fixed.capacity in
    let going : IsServing first view c.args.start c.args.len (Some node) (rest_of c.nodes.rest) c.nodes.out.items =
    subst (λ (o : Option Node). IsServing first view c.args.start c.args.len o (rest_of c.nodes.rest) c.nodes.out.items) c.in-Some-next.is c.nodes.invariant.1 in
    let below : AreBelow capacity (Some node) (rest_of c.nodes.rest) =
    subst (λ (o : Option Node). AreBelow capacity o (rest_of c.nodes.rest)) c.in-Some-next.is c.nodes.invariant.2 in
    let gains : GainsNode (node_held (state_after new.seen) node) c.nodes.out.items c.append_node.new.out.items true =
    subst (λ (b : Bool). GainsNode (node_held (state_after new.seen) node) c.nodes.out.items c.append_node.new.out.items b) c.if-not-branch.false c.in_ok-append_node.ensures.appended in (
      c.append_node.ensures.of,
      serves_on first view new c.args.start c.args.len node next (rest_of c.nodes.rest) (rest_of c.next-next-in-Some-next.new.self)
          c.nodes.out.items c.append_node.new.out.items going c.next-next-in-Some-next.ensures.steps c.is_none.result
          (none_told c.is_none.result c.next-next-in-Some-next.result c.is_none.ensures) c.in_ok-append_node.ensures.looked gains next refl,
      below_next capacity next (rest_of c.nodes.rest) (rest_of c.next-next-in-Some-next.new.self) c.next-next-in-Some-next.ensures.steps below.1,
    )

pub returns : goal.returns
returns c =
    let first : SeatView = c.args.grip.now.view in
    let new : SeatView = c.nodes.grip.view in
    let text : List ℕ = c.nodes.out.items in
    let called : Called (Serve c.args.start c.args.len (Text text)) first new =
    subst (λ (o : Option Node). IsServing first new c.args.start c.args.len o (rest_of c.nodes.rest) text) c.in_default-next.is c.nodes.invariant.1 in
    record {
      of = c.nodes.invariant.0;
      served = called;
      refused = tt;
      storing = called.storing_is;
      binds = serve_binds first new c.args.start c.args.len text (subst (λ (f : Fixed). IsKeyed f.mode) (c.fixed.ensures ∙ sym c.nodes.invariant.0.knows.fixed_is) c.is_keyed.ensures) called;
      accepted = serve_accepted first new c.args.start c.args.len text called;
    }
