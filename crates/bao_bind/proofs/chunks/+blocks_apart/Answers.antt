use Rattle.std.proofs.Common.{ℕ, List, false, sym, ◌∙◌, arith, inl, inr}
use Rattle.bao_bind.proofs.Blocks.{blocks_collide, blocks_on, blocks_start}
use Rattle.bao_bind.proofs.CollidingPairs.{told, told_not}
use Rattle.bao_bind.proofs.chunks.+blocks_apart.Goals as goal
use Rattle.bao_bind.proofs.chunks.+blocks_apart.Goals.{then-k-eq0-via-then-k-eq0, then-k-eq0-via-else-k-eq0+then-l-eq0}

pub returns-then-k-eq0 : goal.returns-then-k-eq0
returns-then-k-eq0 t c = λ top either e.
    let s : List ℕ = c.args.ours.now.bytes.now in
    let u : List ℕ = c.args.theirs.now.bytes.now in
    elim c.then-k-eq0.branch [
      | then-k-eq0-via-then-k-eq0 w ↦
          blocks_start c.args.mode.now c.args.ours.now.first c.args.theirs.now.first s u c.bytes_are.ensures c.bytes_are-2.ensures either c.args.k c.args.l (inl w.if-k-eq0.true) e
      | then-k-eq0-via-else-k-eq0+then-l-eq0 w ↦
          blocks_start c.args.mode.now c.args.ours.now.first c.args.theirs.now.first s u c.bytes_are.ensures c.bytes_are-2.ensures either c.args.k c.args.l (inr w.if-l-eq0.true) e
    ]

pub returns-then-not-are_same : goal.returns-then-not-are_same
returns-then-not-are_same t c = λ top either e.
    blocks_collide c.args.mode.now c.args.ours.now.first c.args.theirs.now.first c.args.ours.now.bytes.now c.args.theirs.now.bytes.now c.bytes_are.ensures c.bytes_are-2.ensures
    top either c.args.k c.args.l c.chunk_input-x.result c.chunk_input-y.result (omega (arith, c.if-k-eq0.false)) (omega (arith, c.if-l-eq0.false)) c.requires.our_block c.requires.their_block e
    c.chunk_input-x.ensures c.chunk_input-y.ensures (told_not c.are_same.result c.are_same.ensures c.if-not-are_same.true)

pub returns : goal.returns
returns t c = λ top either e.
    blocks_on c.args.mode.now c.args.ours.now.first c.args.theirs.now.first c.args.ours.now.bytes.now c.args.theirs.now.bytes.now c.bytes_are.ensures c.bytes_are-2.ensures
    top either c.args.k c.args.l c.blocks_apart.result (omega (arith, c.if-k-eq0.false)) (omega (arith, c.if-l-eq0.false)) e
    (c.blocks_apart.ensures top false (sym c.chunk_input-x.ensures ∙ told c.are_same.result c.are_same.ensures c.if-not-are_same.false ∙ c.chunk_input-y.ensures))
