use Rattle.std.proofs.Common.{◌∙◌, ◌+◌, ◌*◌, ◌≤◌, [], ◌∷◌, ◌++◌, max, sym, arith}
use Rattle.std.proofs.lemmas.Result.{IfErr-weaker, IfOk-weaker}
use Rattle.bao_text.specs.Nodes.{left, right, subtree_nodes, subtree_size}
use Rattle.bao_text.proofs.Runs.{IsRun, run-chunk, run-subtree}
use Rattle.bao_decode.proofs.Cuttings.{find_after, find_left, find_none, find_parent, find_right, find_run, paired}
use Rattle.bao_decode.proofs.cut.+find.Goals.{then-n-via-then-n, then-n-via-else-n+then-covers}
use Rattle.bao_decode.proofs.cut.+find.Goals as goal

pub returns-then-not-wants-clause-after : goal.returns-then-not-wants-clause-after
returns-then-not-wants-clause-after t c = λ sides. find_none c.args.choice.now c.args.number c.args.n sides c.args.at c.args.skip (sym c.wants.ensures ∙ c.if-not-wants.true)

pub returns-then-skip-size-clause-after : goal.returns-then-skip-size-clause-after
returns-then-skip-size-clause-after t c = λ sides.
    let choice = c.args.choice.now in
    let run : IsRun c.args.at (subtree_size c.args.n) (subtree_nodes choice c.args.number c.args.n sides c.args.at) =
    elim c.then-n.branch [
      | then-n-via-then-n w ↦ run-chunk choice c.args.number c.args.n sides c.args.at w.if-n.true c.requires.chunks (sym c.wants.ensures ∙ c.if-not-wants.false)
      | then-n-via-else-n+then-covers w ↦
          let both : (choice.start ≤ 1024 * c.args.number) × (1024 * c.args.number + max c.args.n 1 ≤ choice.end) = w.covers.ensures.0 w.if-covers.true in
          run-subtree choice c.requires.chunks c.args.number c.args.n sides c.args.at both.0 both.1
    ] in
    omega (arith, run.len, c.subtree_size-size.ensures, c.if-skip-size.true)

pub returns-then-n-clause-found : goal.returns-then-n-clause-found
returns-then-n-clause-found t c = λ s sides rest.
    let choice = c.args.choice.now in
    let run : IsRun c.args.at (subtree_size c.args.n) (subtree_nodes choice c.args.number c.args.n sides c.args.at) =
    elim c.then-n.branch [
      | then-n-via-then-n w ↦ run-chunk choice c.args.number c.args.n sides c.args.at w.if-n.true c.requires.chunks (sym c.wants.ensures ∙ c.if-not-wants.false)
      | then-n-via-else-n+then-covers w ↦
          let both : (choice.start ≤ 1024 * c.args.number) × (1024 * c.args.number + max c.args.n 1 ≤ choice.end) = w.covers.ensures.0 w.if-covers.true in
          run-subtree choice c.requires.chunks c.args.number c.args.n sides c.args.at both.0 both.1
    ] in
    find_run choice c.args.number c.args.n s sides rest c.args.at c.args.skip c.subtree_size-size.result run c.subtree_size-size.ensures (omega (arith, c.if-skip-size.false))

pub returns-then-skip-lt-NODE_LEN-clause-found : goal.returns-then-skip-lt-NODE_LEN-clause-found
returns-then-skip-lt-NODE_LEN-clause-found t c = λ s sides rest.
    find_parent c.args.choice.now c.args.number c.args.n s sides rest c.args.at c.args.skip (sym c.wants.ensures ∙ c.if-not-wants.false) (omega (arith, c.if-n.false)) (omega (arith, c.if-skip-lt-NODE_LEN.true))

pub returns-in_default-clause-found : goal.returns-in_default-clause-found
returns-in_default-clause-found t c = IfOk-weaker c.find-near.result _ _ (λ run both s sides rest.
    find_left c.args.choice.now c.args.number c.args.n s sides rest c.args.at c.args.skip c.left_len-left_len.result run.at run.len (sym c.wants.ensures ∙ c.if-not-wants.false) (omega (arith, c.if-n.false))
    (omega (arith, c.if-skip-lt-NODE_LEN.false)) c.left_len-left_len.ensures.value both.1.0 (λ later. both.0 s (sides ++ left ∷ []) later)) (paired _ _ c.find-near.result c.find-near.ensures.found c.find-near.ensures.within)

pub returns-clause-found : goal.returns-clause-found
returns-clause-found t c = IfOk-weaker c.find.result _ _ (λ run both s sides rest.
    find_right c.args.choice.now c.args.number c.args.n s sides rest c.args.at c.args.skip c.left_len-left_len.result c.subtree_size.result c.in-Err.left run.at run.len (sym c.wants.ensures ∙ c.if-not-wants.false)
    (omega (arith, c.if-n.false)) (omega (arith, c.if-skip-lt-NODE_LEN.false)) c.left_len-left_len.ensures.value c.subtree_size.ensures both.1.0 (c.in-Err.ensures.after (sides ++ left ∷ []))
    (both.0 s (sides ++ right ∷ []) rest)) (paired _ _ c.find.result c.find.ensures.found c.find.ensures.within)

pub returns-clause-after : goal.returns-clause-after
returns-clause-after t c = IfErr-weaker c.find.result _ _ (λ last far sides.
    find_after c.args.choice.now c.args.number c.args.n sides c.args.at c.args.skip c.left_len-left_len.result c.subtree_size.result c.in-Err.left last (sym c.wants.ensures ∙ c.if-not-wants.false)
    (omega (arith, c.if-n.false)) (omega (arith, c.if-skip-lt-NODE_LEN.false)) c.left_len-left_len.ensures.value c.subtree_size.ensures (c.in-Err.ensures.after (sides ++ left ∷ [])) (far (sides ++ right ∷ []))) c.find.ensures.after
