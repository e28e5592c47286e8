use Rattle.std.proofs.Common.{◌≡◌, ◌-◌, ℕ, List, Some, [], ◌∷◌, ◌++◌, length, take, sym, ap, subst, ◌∙◌, arith}
use Rattle.std.proofs.lemmas.List.{take_all}
use Rattle.b3word.specs.Compression.{cv}
use Rattle.b3word.specs.declared.input.Input.{Input}
use Rattle.b3tree.specs.declared.values.Cv.{Cv}
use Rattle.b3tree.specs.Chunk.{last_chunk_input}
use Rattle.b3tree.specs.Tree.{parent_input}
use Rattle.bao_text.specs.Nodes.{left, right}
use Rattle.bao_check.specs.declared.part.WaitingPart.{WaitingPart}
use Rattle.bao_check.specs.Accepted.{part_value}
use Rattle.bao_check.specs.Waiting.{last_part}
use Rattle.bao_check.specs.Walk.{Meets}
use Rattle.bao_check.proofs.ChunkBytes.{chunk_decodes, parent_decodes, some_weaker}
use Rattle.bao_check.proofs.Feeding.{chunk_refused, chunk_taken_from, first_part, parent_refused, parent_taken_from, part_taken, wrong_from}
use Rattle.bao_check.proofs.waiting.take_node.Goals as goal

pub chunk_meets-requires-clause-range : goal.chunk_meets-requires-clause-range
chunk_meets-requires-clause-range c =
    let first = first_part c.args.choice.now c.args.waiting.now.items c.in-Some.part (length c.args.node.now) c.requires.parts (sym c.next_part.ensures ∙ c.in-Some.is) c.requires.next in
    omega (arith, first.within, first.chunk c.if-part.true)

pub chunk_meets-requires-clause-known : goal.chunk_meets-requires-clause-known
chunk_meets-requires-clause-known c =
    let mode = c.args.mode.now in
    let node : List ℕ = c.args.node.now in
    let last : last_part c.args.waiting.now.items ≡ Some c.in-Some.part = sym c.next_part.ensures ∙ c.in-Some.is in
    let first = first_part c.args.choice.now c.args.waiting.now.items c.in-Some.part (length node) c.requires.parts last c.requires.next in
    let len : length node ≡ c.in-Some.part.len = first.chunk c.if-part.true in
    some_weaker c.args.known (λ (value : Cv). (part : WaitingPart) → last_part c.args.waiting.now.items ≡ Some part → part.len ≡ 1024 → value.0 ≡ cv (last_chunk_input mode part.number (take 1024 node)))
    (λ (value : Cv). length node ≡ 1024 → value.0 ≡ cv (last_chunk_input mode c.in-Some.part.number node))
    (λ value known size. known c.in-Some.part last (sym len ∙ size) ∙ ap (λ (s : List ℕ). cv (last_chunk_input mode c.in-Some.part.number s)) (take_all 1024 node (omega (arith, size)))) c.requires.known

pub returns-then-not-chunk_meets-clause-err : goal.returns-then-not-chunk_meets-clause-err
returns-then-not-chunk_meets-clause-err c =
    let first = first_part c.args.choice.now c.args.waiting.now.items c.in-Some.part (length c.args.node.now) c.requires.parts (sym c.next_part.ensures ∙ c.in-Some.is) c.requires.next in
    let len : length c.args.node.now ≡ c.in-Some.part.len = first.chunk c.if-part.true in
    chunk_refused c.args.mode.now c.args.choice.now c.args.waiting.now.items (take (length c.args.waiting.now.items - 1) c.args.waiting.now.items) c.in-Some.part c.args.node.now c.args.at
    first.is first.wanted c.requires.chunks c.if-part.true len
    (wrong_from c.chunk_meets.result (Meets c.in-Some.part.asked (last_chunk_input c.args.mode.now c.in-Some.part.number c.args.node.now)) c.chunk_meets.ensures.1 c.if-not-chunk_meets.true)

pub returns-then-part-clause-parts : goal.returns-then-part-clause-parts
returns-then-part-clause-parts c =
    let first = first_part c.args.choice.now c.args.waiting.now.items c.in-Some.part (length c.args.node.now) c.requires.parts (sym c.next_part.ensures ∙ c.in-Some.is) c.requires.next in
    (part_taken c.args.choice.now c.args.waiting.now.items c.pop-taken.new.self.items c.in-Some.part c.requires.parts
    (first.is ∙ ap (λ (s : List WaitingPart). s ++ c.in-Some.part ∷ []) (sym c.pop-taken.ensures.rest))).waiting

pub returns-then-part-clause-ok : goal.returns-then-part-clause-ok
returns-then-part-clause-ok c =
    let first = first_part c.args.choice.now c.args.waiting.now.items c.in-Some.part (length c.args.node.now) c.requires.parts (sym c.next_part.ensures ∙ c.in-Some.is) c.requires.next in
    let len : length c.args.node.now ≡ c.in-Some.part.len = first.chunk c.if-part.true in
    chunk_taken_from c.args.mode.now c.args.choice.now c.args.waiting.now.items c.pop-taken.new.self.items c.in-Some.part c.args.node.now
    (first.is ∙ ap (λ (s : List WaitingPart). s ++ c.in-Some.part ∷ []) (sym c.pop-taken.ensures.rest)) first.wanted c.requires.chunks c.if-part.true len
    (c.chunk_meets.ensures.0 c.if-not-chunk_meets.false)

pub returns-then-not-meets-clause-err : goal.returns-then-not-meets-clause-err
returns-then-not-meets-clause-err c =
    let first = first_part c.args.choice.now c.args.waiting.now.items c.in-Some.part (length c.args.node.now) c.requires.parts (sym c.next_part.ensures ∙ c.in-Some.is) c.requires.next in
    let is : c.parent_input.result ≡ parent_input c.args.mode.now (part_value left c.args.node.now) (part_value right c.args.node.now) =
    c.parent_input.ensures ∙ (λ i. parent_input c.args.mode.now (c.halves.ensures.left i).value.0 (c.halves.ensures.right i).value.0) in
    parent_refused c.args.mode.now c.args.choice.now c.args.waiting.now.items (take (length c.args.waiting.now.items - 1) c.args.waiting.now.items) c.in-Some.part c.args.node.now c.args.at
    first.is first.wanted c.if-part.false (first.parent c.if-part.false)
    (subst (λ (x : Input). ¬ Meets c.in-Some.part.asked x) is (wrong_from c.meets.result (Meets c.in-Some.part.asked c.parent_input.result) c.meets.ensures.1 c.if-not-meets.true))

pub returns-clause-ok : goal.returns-clause-ok
returns-clause-ok c =
    let first = first_part c.args.choice.now c.args.waiting.now.items c.in-Some.part (length c.args.node.now) c.requires.parts (sym c.next_part.ensures ∙ c.in-Some.is) c.requires.next in
    let is : c.parent_input.result ≡ parent_input c.args.mode.now (part_value left c.args.node.now) (part_value right c.args.node.now) =
    c.parent_input.ensures ∙ (λ i. parent_input c.args.mode.now (c.halves.ensures.left i).value.0 (c.halves.ensures.right i).value.0) in
    parent_taken_from c.args.mode.now c.args.choice.now c.args.waiting.now.items c.pop-taken-2.new.self.items c.push_halves.ensures.before.0 c.push_halves.new.waiting.items c.in-Some.part
    c.args.node.now c.halves.result.0 c.halves.result.1
    (first.is ∙ ap (λ (s : List WaitingPart). s ++ c.in-Some.part ∷ []) (sym c.pop-taken-2.ensures.rest)) first.wanted c.if-part.false (first.parent c.if-part.false)
    (subst (λ (x : Input). Meets c.in-Some.part.asked x) is (c.meets.ensures.0 c.if-not-meets.false))
    c.halves.ensures.left c.halves.ensures.right c.push_halves.ensures.before.1 c.push_halves.ensures.before.2

pub returns-then-part-clause-chunk : goal.returns-then-part-clause-chunk
returns-then-part-clause-chunk c = grind (arith, first_part, chunk_decodes)

pub returns-clause-parent : goal.returns-clause-parent
returns-clause-parent c = grind (arith, first_part, parent_decodes)
