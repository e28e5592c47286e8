use Rattle.std.proofs.Common.{◌≡◌, ◌+◌, ◌-◌, ◌*◌, ℕ, Bool, List, length, take, sym, ap, subst, ◌∙◌}
use Rattle.b3word.specs.declared.input.Input.{Input}
use Rattle.b3tree.specs.declared.mode.Mode.{Mode}
use Rattle.b3tree.specs.Chunk.{block_count, chunk_input, last_chunk_input}
use Rattle.bao_check.specs.Inputs.{marked, whole_chunk}
use Rattle.bao_bind.specs.Search.{Finds}
use Rattle.bao_bind.proofs.Blocks.{chunks_collide, chunks_on}
use Rattle.bao_bind.proofs.CollidingPairs.{told, told_not}
use Rattle.bao_bind.proofs.chunks.chunks_apart.Goals as goal

-- a chunk's last input, marked
last_is : (top : Bool) (mode : Mode) (i : ℕ) (s : List ℕ) (k : ℕ) (input x : Input) → k ≡ block_count (length s) - 1 → input ≡ chunk_input mode i s k → x ≡ marked top input
    → x ≡ marked top (last_chunk_input mode i s)
last_is top mode i s k input x k_is input_is x_is = x_is ∙ ap (marked top) input_is ∙ ap (λ (n : ℕ). marked top (chunk_input mode i s n)) k_is

pub returns-then-not-are_same : goal.returns-then-not-are_same
returns-then-not-are_same c = λ same.
    let mode : Mode = c.args.mode.now in
    let s : List ℕ = c.args.ours.now.bytes.now in
    let u : List ℕ = c.args.theirs.now.bytes.now in
    chunks_collide mode c.args.ours.now.first c.args.theirs.now.first s u c.bytes_are.ensures c.bytes_are-2.ensures c.args.top c.marked-x.result c.marked-y.result same
    (last_is c.args.top mode c.args.ours.now.first s c.last_block-k.result c.chunk_input.result c.marked-x.result c.last_block-k.ensures c.chunk_input.ensures c.marked-x.ensures)
    (last_is c.args.top mode c.args.theirs.now.first u c.last_block-l.result c.chunk_input-2.result c.marked-y.result c.last_block-l.ensures c.chunk_input-2.ensures c.marked-y.ensures)
    (told_not c.are_same.result c.are_same.ensures c.if-not-are_same.true)

pub returns : goal.returns
returns c = λ same.
    let mode : Mode = c.args.mode.now in
    let i : ℕ = c.args.ours.now.first in
    let j : ℕ = c.args.theirs.now.first in
    let s : List ℕ = c.args.ours.now.bytes.now in
    let u : List ℕ = c.args.theirs.now.bytes.now in
    let x_is : c.marked-x.result ≡ marked c.args.top (last_chunk_input mode i s) =
    last_is c.args.top mode i s c.last_block-k.result c.chunk_input.result c.marked-x.result c.last_block-k.ensures c.chunk_input.ensures c.marked-x.ensures in
    let y_is : c.marked-y.result ≡ marked c.args.top (last_chunk_input mode j u) =
    last_is c.args.top mode j u c.last_block-l.result c.chunk_input-2.result c.marked-y.result c.last_block-l.ensures c.chunk_input-2.ensures c.marked-y.ensures in
    let both : marked c.args.top (last_chunk_input mode i s) ≡ marked c.args.top (last_chunk_input mode j u) = sym x_is ∙ told c.are_same.result c.are_same.ensures c.if-not-are_same.false ∙ y_is in
    let here : marked c.args.top (chunk_input mode i s c.last_block-k.result) ≡ marked c.args.top (chunk_input mode j u c.last_block-l.result) =
    ap (λ (n : ℕ). marked c.args.top (chunk_input mode i s n)) c.last_block-k.ensures ∙ both ∙ ap (λ (n : ℕ). marked c.args.top (chunk_input mode j u n)) (sym c.last_block-l.ensures) in
    chunks_on mode i j s u c.bytes_are.ensures c.bytes_are-2.ensures c.args.top c.blocks_apart.result both
    (subst (λ (l : ℕ). Finds (whole_chunk c.args.top mode i s) (whole_chunk c.args.top mode j u) (take (64 * (block_count (length s) - 1 + 1)) s ≡ take (64 * (l + 1)) u) c.blocks_apart.result) c.last_block-l.ensures
    (subst (λ (k : ℕ). Finds (whole_chunk c.args.top mode i s) (whole_chunk c.args.top mode j u) (take (64 * (k + 1)) s ≡ take (64 * (c.last_block-l.result + 1)) u) c.blocks_apart.result) c.last_block-k.ensures
    (c.blocks_apart.ensures c.args.top c.args.top here)))
