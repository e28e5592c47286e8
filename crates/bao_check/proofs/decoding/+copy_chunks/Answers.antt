use Rattle.std.proofs.Common.{◌≡◌, ℕ, ◌+◌, ◌-◌, ◌/◌, List, ◌++◌, take, drop, sym, ap, ◌∙◌, arith}
use Rattle.std.proofs.lemmas.List.{append_assoc, drop-drop}
use Rattle.bao_check.specs.Decoded.{Kind, chunk_bytes, kinds_size, subtree_kinds}
use Rattle.bao_check.proofs.ChunkBytes.{chunk_bytes-parent, kinds_size-parent}
use Rattle.bao_check.proofs.decoding.+copy_chunks.Goals as goal

pub copy_chunks-at-requires : goal.copy_chunks-at-requires
copy_chunks-at-requires t c =
    let l : ℕ = c.left_len-left_len.result in
    let size = kinds_size-parent c.args.choice.now c.args.number c.args.n l (sym c.wants.ensures ∙ c.if-not-wants.false) (omega (arith, c.if-n.false)) c.left_len-left_len.ensures.value in (
      omega (arith, c.left_len-left_len.ensures.largest.below),
      (c.requires.chunks, (omega (arith, c.left_len-left_len.ensures.largest.below, c.requires.range), (omega (arith, size, c.requires.there), omega (arith, size, c.requires.room)))),
    )

pub returns-clause-bytes : goal.returns-clause-bytes
returns-clause-bytes t c =
    let choice = c.args.choice.now in
    let l : ℕ = c.left_len-left_len.result in
    let text : List ℕ = c.args.text.now in
    let front : List ℕ = take c.args.filled c.args.room.now in
    let near : List Kind = subtree_kinds choice c.args.number l in
    let far : List Kind = subtree_kinds choice (c.args.number + l / 1024) (c.args.n - l) in
    let whole = chunk_bytes-parent choice c.args.number c.args.n l (drop c.args.at text) (sym c.wants.ensures ∙ c.if-not-wants.false) (omega (arith, c.if-n.false)) c.left_len-left_len.ensures.value in
    let below : drop 64 (drop c.args.at text) ≡ drop (c.args.at + 64) text = drop-drop 64 c.args.at text in
    let after : drop c.copy_chunks-at.result.0 text ≡ drop (kinds_size near) (drop 64 (drop c.args.at text)) =
    ap (λ (k : ℕ). drop k text) c.copy_chunks-at.ensures.at ∙ sym (drop-drop (kinds_size near) (c.args.at + 64) text) ∙ ap (drop (kinds_size near)) (sym below) in
    c.copy_chunks.ensures.bytes
    ∙ (λ i. c.copy_chunks-at.ensures.bytes i ++ chunk_bytes far (after i))
    ∙ append_assoc front (chunk_bytes near (drop (c.args.at + 64) text)) (chunk_bytes far (drop (kinds_size near) (drop 64 (drop c.args.at text))))
    ∙ ap (λ (s : List ℕ). front ++ (chunk_bytes near s ++ chunk_bytes far (drop (kinds_size near) (drop 64 (drop c.args.at text))))) (sym below)
    ∙ ap (λ (s : List ℕ). front ++ s) (sym whole)
