use Rattle.std.proofs.Common.{◌∙◌, sym, arith}
use Rattle.b3tree.proofs.TopInput.{top_input-chunk, top_input-parent}
use Rattle.b3tree.proofs.tree.+subtrees.Goals as goal

pub top_input-returns-then-bytes-le-CHUNK_LEN-clause-value : goal.top_input-returns-then-bytes-le-CHUNK_LEN-clause-value
top_input-returns-then-bytes-le-CHUNK_LEN-clause-value t c =
    c.last_chunk_input.ensures ∙ sym (top_input-chunk c.args.mode.now c.args.first c.args.bytes.now c.if-bytes-le-CHUNK_LEN.true)

pub top_input-returns-clause-value : goal.top_input-returns-clause-value
top_input-returns-clause-value t c =
    c.parent_input.ensures
    ∙ rw (c.subtree_value.ensures, c.subtree_value-2.ensures, c.split_at.ensures.front, c.split_at.ensures.back)
    (sym (top_input-parent c.args.mode.now c.args.first c.args.bytes.now c.left_len-left_len.result c.left_len-left_len.ensures.largest (omega arith)))

-- by lanes
pub top_input-returns-in-Some-clause-value : goal.top_input-returns-in-Some-clause-value
top_input-returns-in-Some-clause-value t c = c.whole_top.ensures c.in-Some.ensures.0

pub top_input-returns-in-Some-clause-parent : goal.top_input-returns-in-Some-clause-parent
top_input-returns-in-Some-clause-parent t c = λ l is more.
    c.whole_top.ensures c.in-Some.ensures.0 ∙ top_input-parent c.args.mode.now c.args.first c.args.bytes.now l is more

pub top_input-returns-then-bytes-clause-parent : goal.top_input-returns-then-bytes-clause-parent
top_input-returns-then-bytes-clause-parent t c = λ l is more.
    c.few_top.ensures ∙ top_input-parent c.args.mode.now c.args.first c.args.bytes.now l is more
