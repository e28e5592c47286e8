use Rattle.std.proofs.Common.{rules, ◌≡◌, ℕ, ◌+◌, ◌-◌, ◌*◌, ◌/◌, ◌<◌, List, length, take, drop, ◌++◌, sym, ap, subst, ◌∙◌, arith}
use Rattle.std.proofs.lemmas.Result.{err_from_is_err_and}
use Rattle.b3tree.specs.Tree.{left_len}
use Rattle.bao_text.specs.Pieces.{whole_text}
use Rattle.bao_files.specs.Again.{Sends}
use Rattle.bao_files.specs.Encoded.{AppendsPart}
use Rattle.bao_files.proofs.SecondPass.{Joins, PartsAt, Splits, chunk_whole, joins, part_first, part_rest, replaces_read, replaces_same, sends_after, sends_err, sends_same, splits, unread}
use Rattle.bao_files.proofs.again.+again.Goals as goal

pub write_subtree-returns-in_err-read_chunk-clause-written : goal.write_subtree-returns-in_err-read_chunk-clause-written
write_subtree-returns-in_err-read_chunk-clause-written g t c = λ total before choice has len value.
    let p = err_from_is_err_and c.from_residual.result c.from_residual.ensures.1 in
    unread (g.S.Source.contents c.args.source.now) total c.args.mode.now c.args.first c.args.parents.now before (g.W.Write.contents c.args.out.now) c.from_residual.result p.0 p.1 has
    (omega (arith, len, c.requires.some))

pub write_subtree-returns-then-n-clause-written : goal.write_subtree-returns-then-n-clause-written
write_subtree-returns-then-n-clause-written g t c = λ total before choice has len value.
    let again : List ℕ = c.read_chunk.new.chunk in
    let size : length again ≡ c.args.n = search rules in
    let text : whole_text total c.args.mode.now c.args.first again ≡ again =
    chunk_whole total c.args.mode.now c.args.first again has.start (omega (arith, size, c.if-n.true)) in (
      again,
      replaces_read (g.S.Source.contents c.args.source.now) c.args.mode.now c.args.first before again c.args.asked.now.0 (size ∙ sym len) value
          c.in_ok-read_chunk.ensures.value c.in_ok-read_chunk.ensures.are c.in_ok-read_chunk.ensures.given,
      sends_same again (whole_text total c.args.mode.now c.args.first again) (g.W.Write.contents c.args.out.now) (g.W.Write.contents c.send.new.out) c.send.result (sym text) c.send.ensures,
    )

pub write_subtree-returns-in_err-fetch-clause-written : goal.write_subtree-returns-in_err-fetch-clause-written
write_subtree-returns-in_err-fetch-clause-written g t c = λ total before choice has len value.
    let p = err_from_is_err_and c.from_residual-in_err-fetch.result c.from_residual-in_err-fetch.ensures.1 in
    unread (g.S.Source.contents c.args.source.now) total c.args.mode.now c.args.first c.args.parents.now before (g.W.Write.contents c.args.out.now)
    c.from_residual-in_err-fetch.result p.0 p.1 has (omega (arith, len, c.requires.some))

pub write_parts-returns-in_err-send-clause-written : goal.write_parts-returns-in_err-send-clause-written
write_parts-returns-in_err-send-clause-written g t c = λ total before choice has len.
    let contents = g.S.Source.contents c.args.source.now in
    let mode = c.args.mode.now in
    let first = c.args.first in
    let l = c.left_len-left_len.result in
    let old = g.W.Write.contents c.args.out.now in
    let parent : List ℕ = c.split_at.result.0.now in
    let parted : Splits total mode first l parent c.split_at-2.result.0.now c.split_at-2.result.1.now before =
    splits total mode first l c.args.parents.now parent c.split_at-2.result.0.now c.split_at-2.result.1.now before has (record { key = c.is_keyed.ensures.key; flags = c.is_keyed.ensures.flags })
    (omega (arith, len, c.requires.more)) (omega (arith, len, c.requires.range)) (c.left_len-left_len.ensures.value ∙ ap left_len (sym len)) c.split_at.ensures.front
    (c.split_at-2.ensures.front ∙ ap (take (64 * (l / 1024 - 1))) c.split_at.ensures.back) (c.split_at-2.ensures.back ∙ ap (drop (64 * (l / 1024 - 1))) c.split_at.ensures.back) in
    let parts : PartsAt mode first (length before) l = λ s is. c.left_len-left_len.ensures.parts mode first s (is ∙ len) in
    let more : 1024 < length before = omega (arith, len, c.requires.more) in
    let new = g.W.Write.contents c.send.new.out in
    let p = err_from_is_err_and c.from_residual.result c.from_residual.ensures.1 in
    let near : List ℕ = take l before in
    let far : List ℕ = drop l before in
    let joined : Joins contents total mode first l parent before near far =
    joins contents total mode first l parent c.split_at-2.result.0.now c.split_at-2.result.1.now before near far parted parts more
    (replaces_same contents mode first (take l before)) (replaces_same contents mode (first + l / 1024) (drop l before)) in
    let near_text : List ℕ = whole_text total mode first near in
    let far_text : List ℕ = whole_text total mode (first + l / 1024) far in
    let part : AppendsPart old new (parent ++ (near_text ++ far_text)) = part_first old new parent (near_text ++ far_text) c.in_err-send.ensures.1 in (
      near ++ far,
      joined.top,
      joined.replaces,
      sends_err (whole_text total mode first (near ++ far)) old new c.from_residual.result p.0 p.1 (subst (AppendsPart old new) (sym joined.text) part),
    )

pub write_parts-returns-in_err-write_subtree-clause-written : goal.write_parts-returns-in_err-write_subtree-clause-written
write_parts-returns-in_err-write_subtree-clause-written g t c = λ total before choice has len.
    let contents = g.S.Source.contents c.args.source.now in
    let mode = c.args.mode.now in
    let first = c.args.first in
    let l = c.left_len-left_len.result in
    let old = g.W.Write.contents c.args.out.now in
    let parent : List ℕ = c.split_at.result.0.now in
    let parted : Splits total mode first l parent c.split_at-2.result.0.now c.split_at-2.result.1.now before =
    splits total mode first l c.args.parents.now parent c.split_at-2.result.0.now c.split_at-2.result.1.now before has (record { key = c.is_keyed.ensures.key; flags = c.is_keyed.ensures.flags })
    (omega (arith, len, c.requires.more)) (omega (arith, len, c.requires.range)) (c.left_len-left_len.ensures.value ∙ ap left_len (sym len)) c.split_at.ensures.front
    (c.split_at-2.ensures.front ∙ ap (take (64 * (l / 1024 - 1))) c.split_at.ensures.back) (c.split_at-2.ensures.back ∙ ap (drop (64 * (l / 1024 - 1))) c.split_at.ensures.back) in
    let parts : PartsAt mode first (length before) l = λ s is. c.left_len-left_len.ensures.parts mode first s (is ∙ len) in
    let more : 1024 < length before = omega (arith, len, c.requires.more) in
    let mid = g.W.Write.contents c.send.new.out in
    let new = g.W.Write.contents c.write_subtree.new.out in
    let p = err_from_is_err_and c.from_residual-in_err-write_subtree.result c.from_residual-in_err-write_subtree.ensures.1 in
    let near_again = c.in_err-write_subtree.ensures.written total (take l before) choice parted.near_has parted.near_len (parted.near_value ∙ sym c.part_values.ensures.left) in
    let near : List ℕ = near_again.0 in
    let far : List ℕ = drop l before in
    let joined : Joins contents total mode first l parent before near far =
    joins contents total mode first l parent c.split_at-2.result.0.now c.split_at-2.result.1.now before near far parted parts more
    (near_again.1) (replaces_same contents mode (first + l / 1024) (drop l before)) in
    let near_text : List ℕ = whole_text total mode first near in
    let far_text : List ℕ = whole_text total mode (first + l / 1024) far in
    let part : AppendsPart old new (parent ++ (near_text ++ far_text)) =
    part_rest old mid new parent (near_text ++ far_text) c.in_ok-send.ensures.0 (part_first mid new near_text far_text near_again.2.1) in (
      near ++ far,
      joined.top,
      joined.replaces,
      sends_err (whole_text total mode first (near ++ far)) old new c.from_residual-in_err-write_subtree.result p.0 p.1 (subst (AppendsPart old new) (sym joined.text) part),
    )

pub write_parts-returns-clause-written : goal.write_parts-returns-clause-written
write_parts-returns-clause-written g t c = λ total before choice has len.
    let contents = g.S.Source.contents c.args.source.now in
    let mode = c.args.mode.now in
    let first = c.args.first in
    let l = c.left_len-left_len.result in
    let old = g.W.Write.contents c.args.out.now in
    let parent : List ℕ = c.split_at.result.0.now in
    let parted : Splits total mode first l parent c.split_at-2.result.0.now c.split_at-2.result.1.now before =
    splits total mode first l c.args.parents.now parent c.split_at-2.result.0.now c.split_at-2.result.1.now before has (record { key = c.is_keyed.ensures.key; flags = c.is_keyed.ensures.flags })
    (omega (arith, len, c.requires.more)) (omega (arith, len, c.requires.range)) (c.left_len-left_len.ensures.value ∙ ap left_len (sym len)) c.split_at.ensures.front
    (c.split_at-2.ensures.front ∙ ap (take (64 * (l / 1024 - 1))) c.split_at.ensures.back) (c.split_at-2.ensures.back ∙ ap (drop (64 * (l / 1024 - 1))) c.split_at.ensures.back) in
    let parts : PartsAt mode first (length before) l = λ s is. c.left_len-left_len.ensures.parts mode first s (is ∙ len) in
    let more : 1024 < length before = omega (arith, len, c.requires.more) in
    let mid = g.W.Write.contents c.send.new.out in
    let then = g.W.Write.contents c.write_subtree.new.out in
    let new = g.W.Write.contents c.write_subtree-2.new.out in
    let near_again = c.in_ok-write_subtree.ensures.written total (take l before) choice parted.near_has parted.near_len (parted.near_value ∙ sym c.part_values.ensures.left) in
    let far_again = c.write_subtree-2.ensures.written total (drop l before) choice parted.far_has (parted.far_len ∙ ap (λ (n : ℕ). n - l) len) (parted.far_value ∙ sym c.part_values.ensures.right) in
    let near : List ℕ = near_again.0 in
    let far : List ℕ = far_again.0 in
    let joined : Joins contents total mode first l parent before near far =
    joins contents total mode first l parent c.split_at-2.result.0.now c.split_at-2.result.1.now before near far parted parts more
    (near_again.1) (far_again.1) in
    let near_text : List ℕ = whole_text total mode first near in
    let far_text : List ℕ = whole_text total mode (first + l / 1024) far in
    let sent : Sends (parent ++ (near_text ++ far_text)) old new c.write_subtree-2.result =
    sends_after parent (near_text ++ far_text) old mid new c.write_subtree-2.result c.in_ok-send.ensures.0
    (sends_after near_text far_text mid then new c.write_subtree-2.result near_again.2.0 far_again.2) in (
      near ++ far,
      joined.top,
      joined.replaces,
      sends_same (parent ++ (near_text ++ far_text)) (whole_text total mode first (near ++ far)) old new c.write_subtree-2.result (sym joined.text) sent,
    )
