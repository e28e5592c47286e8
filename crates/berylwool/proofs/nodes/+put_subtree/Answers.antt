use Rattle.std.proofs.Common.{◌≡◌, ◌∙◌, [], ◌∷◌, ◌++◌, length, Option, None, Some, IfNone, ap, arith, refl, sym, take}
use Rattle.std.proofs.lemmas.Option.{IfSome_then}
use Rattle.bao_text.specs.Nodes.{left, right, subtree_nodes}
use Rattle.berylwool.specs.declared.nodes.BwPlaced.{BwPlaced}
use Rattle.berylwool.proofs.Placed.{chunk_many, chunk_placed, none_many, none_placed, parent_many, parent_placed}
use Rattle.berylwool.proofs.nodes.+put_subtree.Goals as goal

none_then : {T : Type 0} (r : Option T) {P Q : Type 0} → IfNone r P → (P → Q) → IfNone r Q
none_then None p f = f p
none_then (Some x) p f = tt

none_so : {T : Type 0} (r : Option T) {Q : Type 0} → Q → IfNone r Q
none_so None q = q
none_so (Some x) q = tt

pub returns-then-not-wants-clause-count : goal.returns-then-not-wants-clause-count
returns-then-not-wants-clause-count t c = λ sides.
    let many : length (subtree_nodes c.args.choice.now c.args.number c.args.n sides c.args.combined_at) ≡ 0 =
    none_many c.args.choice.now c.args.number c.args.n sides c.args.combined_at (sym c.wants.ensures ∙ c.if-not-wants.true) in
    (c.requires.count, omega (arith, many))

pub returns-then-not-wants-clause-nodes : goal.returns-then-not-wants-clause-nodes
returns-then-not-wants-clause-nodes t c = λ total own sides has.
    none_placed total c.args.choice.now c.args.number c.args.n sides c.args.combined_at _ (sym c.wants.ensures ∙ c.if-not-wants.true)

pub returns-then-n-clause-count : goal.returns-then-n-clause-count
returns-then-n-clause-count t c = IfSome_then c.put_node.result c.put_node.ensures.count (λ k is sides.
    let many : length (subtree_nodes c.args.choice.now c.args.number c.args.n sides c.args.combined_at) ≡ 1 =
    chunk_many c.args.choice.now c.args.number c.args.n sides c.args.combined_at (sym c.wants.ensures ∙ c.if-not-wants.false) c.if-n.true c.requires.chunks in
    (is.1, omega (arith, is.0, many)))

pub returns-then-n-clause-nodes : goal.returns-then-n-clause-nodes
returns-then-n-clause-nodes t c = IfSome_then c.put_node.result c.put_node.ensures.node (λ k is total own sides has.
    chunk_placed total c.args.choice.now c.args.number c.args.n sides c.args.combined_at _ _ c.chunk.result (sym c.wants.ensures ∙ c.if-not-wants.false)
    c.if-n.true c.requires.chunks (c.chunk.ensures total sides) is)

pub returns-then-n-clause-full : goal.returns-then-n-clause-full
returns-then-n-clause-full t c = none_then c.put_node.result c.put_node.ensures.full (λ is sides.
    let many : length (subtree_nodes c.args.choice.now c.args.number c.args.n sides c.args.combined_at) ≡ 1 =
    chunk_many c.args.choice.now c.args.number c.args.n sides c.args.combined_at (sym c.wants.ensures ∙ c.if-not-wants.false) c.if-n.true c.requires.chunks in
    omega (arith, is, many))

pub returns-in_err-top-clause-full : goal.returns-in_err-top-clause-full
returns-in_err-top-clause-full t c = none_so c.from_residual.result (λ sides.
    let many = parent_many c.args.choice.now c.args.number c.args.n c.left_len-left_len.result _ sides c.args.combined_at (omega (arith, c.if-n.false))
    (sym c.wants.ensures ∙ c.if-not-wants.false) c.left_len-left_len.ensures.value refl in
    omega (arith, c.in_err-top.ensures.full, many))

pub returns-in_err-near-clause-full : goal.returns-in_err-near-clause-full
returns-in_err-near-clause-full t c = none_so c.from_residual-in_err-near.result (λ sides.
    let many = parent_many c.args.choice.now c.args.number c.args.n c.left_len-left_len.result _ sides c.args.combined_at (omega (arith, c.if-n.false))
    (sym c.wants.ensures ∙ c.if-not-wants.false) c.left_len-left_len.ensures.value refl in
    omega (arith, c.in_err-near.ensures.full (sides ++ left ∷ []), c.in_ok-top.ensures.count.0, c.in_ok-top.ensures.size, many))

pub returns-clause-count : goal.returns-clause-count
returns-clause-count t c = IfSome_then c.put_subtree-2.result c.put_subtree-2.ensures.count (λ k is sides.
    let many = parent_many c.args.choice.now c.args.number c.args.n c.left_len-left_len.result c.subtree_size.result sides c.args.combined_at (omega (arith, c.if-n.false))
    (sym c.wants.ensures ∙ c.if-not-wants.false) c.left_len-left_len.ensures.value c.subtree_size.ensures in (
      (is (sides ++ right ∷ [])).0,
      omega (arith, (is (sides ++ right ∷ [])).1, (c.in_ok-near.ensures.count (sides ++ left ∷ [])).1, c.in_ok-top.ensures.count.0, many),
    ))

pub returns-clause-nodes : goal.returns-clause-nodes
returns-clause-nodes t c = IfSome_then c.put_subtree-2.result c.put_subtree-2.ensures.nodes (λ k third total own sides has.
    parent_placed total c.args.choice.now own c.args.number c.args.n c.left_len-left_len.result c.subtree_size.result sides c.args.combined_at c.args.outboard_at _ _ _ _
    (omega (arith, c.if-n.false)) (sym c.wants.ensures ∙ c.if-not-wants.false) c.left_len-left_len.ensures.value c.subtree_size.ensures has
    (c.in_ok-top.ensures.node ∙ ap (λ (it : BwPlaced). take c.args.count c.args.out.now ++ it ∷ []) c.parent.ensures) (λ its. c.in_ok-near.ensures.nodes total own (sides ++ left ∷ []) its) (λ its. third total own (sides ++ right ∷ []) its))

pub returns-clause-full : goal.returns-clause-full
returns-clause-full t c = none_then c.put_subtree-2.result c.put_subtree-2.ensures.full (λ is sides.
    let many = parent_many c.args.choice.now c.args.number c.args.n c.left_len-left_len.result c.subtree_size.result sides c.args.combined_at (omega (arith, c.if-n.false))
    (sym c.wants.ensures ∙ c.if-not-wants.false) c.left_len-left_len.ensures.value c.subtree_size.ensures in
    omega (arith, is (sides ++ right ∷ []), (c.in_ok-near.ensures.count (sides ++ left ∷ [])).1, c.in_ok-top.ensures.count.0, c.in_ok-top.ensures.size, c.in_ok-near.ensures.size, many))
