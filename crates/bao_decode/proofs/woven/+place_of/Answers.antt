use Rattle.std.proofs.Common.{rules, ◌≡◌, ◌∙◌, ◌*◌, ◌≤◌, ◌+◌, [], ◌∷◌, ◌++◌, if◌then◌else◌, max, sym, arith}
use Rattle.std.proofs.lemmas.Result.{IfErr-weaker, IfOk-weaker}
use Rattle.bao_text.specs.Nodes.{left, right, subtree_nodes, subtree_size}
use Rattle.bao_text.proofs.Runs.{IsRun, run-chunk, run-subtree}
use Rattle.bao_decode.proofs.Cuttings.{find_after, find_none}
use Rattle.bao_decode.proofs.Weavings.{place_chunk, place_left, place_parent, place_right}
use Rattle.bao_decode.proofs.woven.+place_of.Goals as goal

pub returns-then-not-wants-clause-after : goal.returns-then-not-wants-clause-after
returns-then-not-wants-clause-after t c = λ sides. find_none c.args.choice.now c.args.number c.args.n sides c.args.at c.args.skip (sym c.wants.ensures ∙ c.if-not-wants.true)

pub returns-then-skip-len-clause-after : goal.returns-then-skip-len-clause-after
returns-then-skip-len-clause-after t c = λ sides.
    let len : c.from-len.result ≡ c.args.n = search rules in
    let run : IsRun c.args.at (subtree_size c.args.n) (subtree_nodes c.args.choice.now c.args.number c.args.n sides c.args.at) =
    run-chunk c.args.choice.now c.args.number c.args.n sides c.args.at c.if-n.true c.requires.chunks (sym c.wants.ensures ∙ c.if-not-wants.false) in
    omega (arith, run.len, len, c.if-skip-len.true, c.if-n.true)

pub returns-then-n-clause-found : goal.returns-then-n-clause-found
returns-then-n-clause-found t c = λ outline copy sides rest.
    let base : c.from-base.result ≡ 1024 * c.args.number = search rules in
    let len : c.from-len.result ≡ c.args.n = search rules in
    place_chunk outline copy c.args.choice.now c.args.number c.args.n sides rest c.args.at c.args.skip (sym c.wants.ensures ∙ c.if-not-wants.false) c.from-base.result c.from-len.result
    c.requires.chunks base len (omega (arith, c.if-n.true)) (omega (arith, c.if-skip-len.false))

pub returns-then-skip-size-clause-after : goal.returns-then-skip-size-clause-after
returns-then-skip-size-clause-after t c = λ sides.
    let choice = c.args.choice.now in
    let both : (choice.start ≤ 1024 * c.args.number) × (1024 * c.args.number + max c.args.n 1 ≤ choice.end) = c.covers.ensures.0 c.if-covers.true in
    let run : IsRun c.args.at (subtree_size c.args.n) (subtree_nodes choice c.args.number c.args.n sides c.args.at) =
    run-subtree choice c.requires.chunks c.args.number c.args.n sides c.args.at both.0 both.1 in
    omega (arith, run.len, c.subtree_size-size.ensures, c.if-skip-size.true)

pub returns-then-skip-lt-NODE_LEN-clause-found : goal.returns-then-skip-lt-NODE_LEN-clause-found
returns-then-skip-lt-NODE_LEN-clause-found t c = λ outline copy sides rest.
    let base : c.from-base.result ≡ 1024 * c.args.number = search rules in
    place_parent outline copy c.args.choice.now c.args.number c.args.n sides rest c.args.at c.args.skip (sym c.wants.ensures ∙ c.if-not-wants.false) c.from-base.result base
    (omega (arith, c.if-n.false)) (omega (arith, c.if-skip-lt-NODE_LEN.true))

pub returns-in_default-clause-found : goal.returns-in_default-clause-found
returns-in_default-clause-found t c = IfOk-weaker c.place_of-near.result _ _ (λ place on outline copy sides rest.
    place_left outline copy c.args.choice.now c.args.number c.args.n sides rest c.args.at c.args.skip (sym c.wants.ensures ∙ c.if-not-wants.false) (if place.is_in_copy then copy else outline)
    c.left_len-left_len.result place.at place.len (omega (arith, c.if-n.false)) (omega (arith, c.if-skip-lt-NODE_LEN.false)) c.left_len-left_len.ensures.value
    (λ later. on outline copy (sides ++ left ∷ []) later)) c.place_of-near.ensures.found

pub returns-clause-found : goal.returns-clause-found
returns-clause-found t c = IfOk-weaker c.place_of.result _ _ (λ place on outline copy sides rest.
    place_right outline copy c.args.choice.now c.args.number c.args.n sides rest c.args.at c.args.skip (sym c.wants.ensures ∙ c.if-not-wants.false) (if place.is_in_copy then copy else outline)
    c.left_len-left_len.result c.subtree_size.result c.in-Err.left place.at place.len (omega (arith, c.if-n.false)) (omega (arith, c.if-skip-lt-NODE_LEN.false)) c.left_len-left_len.ensures.value
    c.subtree_size.ensures (c.in-Err.ensures.after (sides ++ left ∷ [])) (on outline copy (sides ++ right ∷ []) rest)) c.place_of.ensures.found

pub returns-clause-after : goal.returns-clause-after
returns-clause-after t c = IfErr-weaker c.place_of.result _ _ (λ last far sides.
    find_after c.args.choice.now c.args.number c.args.n sides c.args.at c.args.skip c.left_len-left_len.result c.subtree_size.result c.in-Err.left last (sym c.wants.ensures ∙ c.if-not-wants.false)
    (omega (arith, c.if-n.false)) (omega (arith, c.if-skip-lt-NODE_LEN.false)) c.left_len-left_len.ensures.value c.subtree_size.ensures (c.in-Err.ensures.after (sides ++ left ∷ [])) (far (sides ++ right ∷ []))) c.place_of.ensures.after
