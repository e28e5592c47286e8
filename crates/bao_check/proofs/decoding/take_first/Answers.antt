use Rattle.std.proofs.Common.{◌≡◌, ◌+◌, ◌-◌, nat_le, if◌then◌else◌, List, [], ◌∷◌, ◌++◌, ℕ, length, take, Some, sym, ap, ◌∙◌, arith}
use Rattle.std.proofs.lemmas.List.{length-take-le, take-take}
use Rattle.std.proofs.lemmas.Result.{err_from_is_err_and}
use Rattle.std.proofs.lemmas.Slice.{take-put_mid}
use Rattle.b3word.specs.Compression.{cv}
use Rattle.b3tree.specs.declared.values.Cv.{Cv}
use Rattle.b3tree.specs.Chunk.{last_chunk_input}
use Rattle.bao_check.specs.declared.part.WaitingPart.{WaitingPart}
use Rattle.bao_check.specs.Decoded.{chunk_bytes, subtree_kinds}
use Rattle.bao_check.specs.Waiting.{last_part, part_size}
use Rattle.bao_check.proofs.ChunkBytes.{kinds_size-some, refused_front, same_part, some_weaker, whole_decodes, whole_size, whole_taken_from}
use Rattle.bao_check.proofs.Feeding.{first_next, part_taken}
use Rattle.bao_check.proofs.decoding.take_first.Goals as goal

pub whole_at_hand-requires : goal.whole_at_hand-requires
whole_at_hand-requires c =
    let first = first_next c.args.choice.now c.args.waiting.now.items c.requires.parts c.next_part.ensures c.in-Some.is in
    first.within

pub copy_chunks-free-requires-clause-range : goal.copy_chunks-free-requires-clause-range
copy_chunks-free-requires-clause-range c =
    let first = first_next c.args.choice.now c.args.waiting.now.items c.requires.parts c.next_part.ensures c.in-Some.is in
    first.within

pub copy_chunks-free-requires-clause-there : goal.copy_chunks-free-requires-clause-there
copy_chunks-free-requires-clause-there c =
    let whole = c.in-Some-whole_at_hand.ensures in
    let size = whole_size c.in-Some.part c.args.choice.now c.args.mode.now c.in-Some-whole_at_hand.len c.args.bytes.now whole in
    omega (arith, size, whole.there)

pub copy_chunks-free-requires-clause-room : goal.copy_chunks-free-requires-clause-room
copy_chunks-free-requires-clause-room c =
    let whole = c.in-Some-whole_at_hand.ensures in
    let size = whole_size c.in-Some.part c.args.choice.now c.args.mode.now c.in-Some-whole_at_hand.len c.args.bytes.now whole in
    omega (arith, size, whole.there, c.requires.room)

pub returns-in-Some-whole_at_hand-clause-parts : goal.returns-in-Some-whole_at_hand-clause-parts
returns-in-Some-whole_at_hand-clause-parts c =
    let first = first_next c.args.choice.now c.args.waiting.now.items c.requires.parts c.next_part.ensures c.in-Some.is in
    (part_taken c.args.choice.now c.args.waiting.now.items c.pop-taken.new.self.items c.in-Some.part c.requires.parts
    (first.is ∙ ap (λ (s : List WaitingPart). s ++ c.in-Some.part ∷ []) (sym c.pop-taken.ensures.rest))).waiting

pub returns-in-Some-whole_at_hand-clause-taken : goal.returns-in-Some-whole_at_hand-clause-taken
returns-in-Some-whole_at_hand-clause-taken c =
    let first = first_next c.args.choice.now c.args.waiting.now.items c.requires.parts c.next_part.ensures c.in-Some.is in
    let whole = c.in-Some-whole_at_hand.ensures in
    let size = whole_size c.in-Some.part c.args.choice.now c.args.mode.now c.in-Some-whole_at_hand.len c.args.bytes.now whole in
    let some = kinds_size-some c.args.choice.now c.in-Some.part.number c.in-Some.part.len first.wanted c.requires.chunks c.in-Some.part.some in (
      omega (arith, size, some),
      whole.there,
      c.copy_chunks-free.ensures.filled.0,
      omega (arith, size, c.copy_chunks-free.ensures.filled.1),
    )

pub returns-in-Some-whole_at_hand-clause-nodes : goal.returns-in-Some-whole_at_hand-clause-nodes
returns-in-Some-whole_at_hand-clause-nodes c = grind (arith, first_next, whole_taken_from)

pub returns-in-Some-whole_at_hand-clause-chunks : goal.returns-in-Some-whole_at_hand-clause-chunks
returns-in-Some-whole_at_hand-clause-chunks c =
    let first = first_next c.args.choice.now c.args.waiting.now.items c.requires.parts c.next_part.ensures c.in-Some.is in
    let whole = c.in-Some-whole_at_hand.ensures in (
      chunk_bytes (subtree_kinds c.args.choice.now c.in-Some.part.number c.in-Some.part.len) c.args.bytes.now,
      c.copy_chunks-free.ensures.bytes,
      whole_decodes c.args.mode.now c.args.choice.now c.args.waiting.now.items c.pop-taken.new.self.items c.in-Some.part c.in-Some-whole_at_hand.len c.args.bytes.now
          (first.is ∙ ap (λ (s : List WaitingPart). s ++ c.in-Some.part ∷ []) (sym c.pop-taken.ensures.rest)) whole,
    )

pub take_node-requires-clause-known : goal.take_node-requires-clause-known
take_node-requires-clause-known c =
    let mode = c.args.mode.now in
    let bytes : List ℕ = c.args.bytes.now in
    let len : ℕ = c.size-len.result in
    let last : last_part c.args.waiting.now.items ≡ Some c.in-Some.part = sym c.next_part.ensures ∙ c.in-Some.is in
    let whole : (part : WaitingPart) → last_part c.args.waiting.now.items ≡ Some part → part.len ≡ 1024 → take 1024 bytes ≡ take 1024 (take len bytes) = λ part next one.
    let len_is : len ≡ 1024 = c.size-len.ensures ∙ ap part_size (same_part (last_part c.args.waiting.now.items) c.in-Some.part part last next)
    ∙ ap (λ (n : ℕ). if nat_le n 1024 then n else 64) one in
    sym (take-take 1024 len bytes (omega (arith, len_is))) in
    some_weaker c.args.known (λ (value : Cv). (part : WaitingPart) → last_part c.args.waiting.now.items ≡ Some part → part.len ≡ 1024 → value.0 ≡ cv (last_chunk_input mode part.number (take 1024 bytes)))
    (λ (value : Cv). (part : WaitingPart) → last_part c.args.waiting.now.items ≡ Some part → part.len ≡ 1024 → value.0 ≡ cv (last_chunk_input mode part.number (take 1024 (take len bytes))))
    (λ value known part next one. known part next one ∙ ap (λ (s : List ℕ). cv (last_chunk_input mode part.number s)) (whole part next one)) c.requires.known

pub returns-in_err-take_node-clause-err : goal.returns-in_err-take_node-clause-err
returns-in_err-take_node-clause-err c =
    let p = err_from_is_err_and c.from_residual.result c.from_residual.ensures.1 in
    let node : ℕ = length (take c.size-len.result c.args.bytes.now) in
    rw (p.1, p.2) (
      node,
      refused_front c.args.mode.now c.args.choice.now c.args.waiting.now.items c.args.at c.size-len.result node c.args.bytes.now c.in_err-take_node.field-0.0 (omega (arith, c.if-bytes-len.false))
          c.in_err-take_node.ensures.err,
    )

pub returns-clause-chunks : goal.returns-clause-chunks
returns-clause-chunks c =
    let last : last_part c.args.waiting.now.items ≡ Some c.in-Some.part = sym c.next_part.ensures ∙ c.in-Some.is in
    let len : ℕ = c.size-len.result in
    let n : len ≡ c.args.filled + len - c.args.filled = omega arith in
    let node : List ℕ = take len c.args.bytes.now in
    let size : length node ≡ len = length-take-le len c.args.bytes.now (omega (arith, c.if-bytes-len.false)) in
    let own : c.copy_from_slice.new.self ≡ node = c.copy_from_slice.ensures.after in
    let len_is : length c.copy_from_slice.new.self ≡ len = ap length own ∙ size in (
      node,
      take-put_mid c.args.filled _ c.args.room.now c.copy_from_slice.new.self _ (omega (arith, len_is)) (omega (arith, c.requires.room))
          ∙ ap (λ (s : List ℕ). take c.args.filled c.args.room.now ++ s) own,
      c.in_ok-take_node.ensures.chunk c.in-Some.part last (omega (arith, c.if-part.false)),
    )
