use Rattle.std.proofs.Common.{◌≡◌, ◌*◌, sym, arith}
use Rattle.bao_text.specs.Choice.{wants}
use Rattle.bao_text.specs.Texts.{joined}
use Rattle.b3par.proofs.Parents.{SplitsAt, text_beside}
use Rattle.b3par.proofs.tree.+trees.Goals as goal

pub returns-clause-text : goal.returns-clause-text
returns-clause-text g t c =
    let contents = g.S.Source.contents c.args.source.now in
    let choice = c.args.choice.now in
    let mode = c.args.mode.now in
    let first = c.args.first in
    let len = c.args.len in
    let l = c.left_len-left_len.result in
    let left = c.in_ok-left.left in
    let right = c.in_ok-right.right in
    let tree = c.in_ok-tree_of_parts.field-0 in
    let splits : SplitsAt mode first len l = record {
      parts = c.left_len-left_len.ensures.parts mode first;
      value = c.left_len-left_len.ensures.value;
      whole = omega (arith, c.left_len-left_len.ensures.largest.form.1);
      below = c.left_len-left_len.ensures.largest.below;
      more = omega (arith, c.requires.some, c.if-len-chunks.false);
    } in
    let wanted : wants choice (1024 * first) len ≡ c.wants-is_wanted.result = sym c.wants-is_wanted.ensures in
    text_beside contents choice mode first len l left.top right.top tree.top (joined left.texts.items) (joined right.texts.items) (joined tree.texts.items)
    c.wants-is_wanted.result splits wanted c.in_ok-left.ensures.text c.in_ok-right.ensures.text c.in_ok-tree_of_parts.ensures.top c.in_ok-tree_of_parts.ensures.texts
