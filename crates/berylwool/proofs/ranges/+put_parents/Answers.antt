use Rattle.std.proofs.Common.{◌∙◌, ◌+◌, [], ◌∷◌, ◌++◌, arith, refl, sym}
use Rattle.std.proofs.lemmas.Option.{IfSome_then}
use Rattle.bao_text.specs.Nodes.{left, right, subtree_size}
use Rattle.berylwool.proofs.Beside.{beside_no_chunk, beside_none, beside_parent}
use Rattle.berylwool.proofs.ranges.+put_parents.Goals as goal

pub returns-then-not-wants-clause-parts : goal.returns-then-not-wants-clause-parts
returns-then-not-wants-clause-parts t c = λ own first sides source text has.
    beside_none text [] first c.args.choice.now c.args.number c.args.n sides source _ _ (sym c.wants.ensures ∙ c.if-not-wants.true) refl

pub returns-then-n-chunk_len-clause-parts : goal.returns-then-n-chunk_len-clause-parts
returns-then-n-chunk_len-clause-parts t c = λ own first sides source text has.
    beside_no_chunk text first c.args.choice.now c.args.number c.args.n sides source _ _ (sym c.wants.ensures ∙ c.if-not-wants.false) c.if-n-chunk_len.true c.requires.chunks refl

pub returns-clause-parts : goal.returns-clause-parts
returns-clause-parts t c =
    IfSome_then c.put_parents-2.result c.put_parents-2.ensures.parts (λ k third own first sides source text has.
    beside_parent text [] first c.args.choice.now own c.args.number c.args.n c.left_len-left_len.result sides source c.args.at _ _ _ _ (omega (arith, c.if-n-chunk_len.false))
    (sym c.wants.ensures ∙ c.if-not-wants.false) c.left_len-left_len.ensures.value has (c.in_ok-top.ensures.parts text)
    (λ its. c.in_ok-near.ensures.parts own first (sides ++ left ∷ []) (source + 64) text its)
    (λ its. third own first (sides ++ right ∷ []) (source + 64 + subtree_size c.left_len-left_len.result) text its))
