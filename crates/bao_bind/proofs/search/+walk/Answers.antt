use Rattle.std.proofs.Common.{◌≡◌, ℕ, ◌+◌, ◌-◌, ◌*◌, ◌/◌, ◌<◌, ◌≤◌, List, length, take, drop, None, Some, Option, false, sym, ap, ◌∙◌, arith, length-drop, ◌^◌}
use Rattle.b3tree.specs.declared.mode.Mode.{Mode}
use Rattle.b3tree.specs.Chunk.{last_chunk_input}
use Rattle.b3tree.specs.Tree.{left_len, top_input}
use Rattle.bao_text.specs.Nodes.{left, right}
use Rattle.bao_text.proofs.SubtreeText.{Parts, left_len-Parts}
use Rattle.bao_check.specs.Accepted.{part_value}
use Rattle.bao_check.specs.Inputs.{marked}
use Rattle.bao_check.proofs.Ways.{AtParent}
use Rattle.bao_bind.proofs.CollidingPairs.{told, told_not}
use Rattle.bao_bind.proofs.Walks.{at_parent, chunk_chunk, chunk_parent, goes_left, goes_right, parent_chunk, parent_of, parents_differ, searches_same}
use Rattle.bao_bind.proofs.search.+walk.Goals as goal
use Rattle.bao_bind.proofs.search.+walk.Goals.{then-ours-le-CHUNK_LEN-2-via-then-ours-le-CHUNK_LEN-2, then-ours-le-CHUNK_LEN-2-via-else-ours-le-CHUNK_LEN-2+then-not-are_same}

pub returns-then-ours-le-CHUNK_LEN : goal.returns-then-ours-le-CHUNK_LEN
returns-then-ours-le-CHUNK_LEN g t c = λ theirs value w same.
    chunk_chunk (g.P.Parents.bytes c.args.parents.now) theirs c.args.mode.now c.args.top value c.args.number c.args.n c.args.chunk.now.first c.args.chunk.now.bytes.now w
    c.args.ours.now.first c.args.ours.now.bytes.now same c.chunks_apart.result c.if-n.true c.if-ours-le-CHUNK_LEN.true c.chunks_apart.ensures

pub returns-then-n : goal.returns-then-n
returns-then-n g t c = λ theirs value w same.
    let mode : Mode = c.args.mode.now in
    let y_is : c.marked-y.result ≡ marked c.args.top (last_chunk_input mode c.args.chunk.now.first c.args.chunk.now.bytes.now) =
    c.marked-y.ensures ∙ ap (marked c.args.top) (c.top_input-then-n.ensures.chunk c.requires.chunk_len) in
    parent_chunk (g.P.Parents.bytes c.args.parents.now) theirs mode c.args.top value c.args.number c.args.n c.args.chunk.now.first c.args.chunk.now.bytes.now w
    c.args.ours.now.first c.args.ours.now.bytes.now same c.marked-x.result c.marked-y.result c.if-n.true c.if-ours-le-CHUNK_LEN.false
    (c.marked-x.ensures ∙ ap (marked c.args.top) c.top_input.ensures.value) y_is

pub returns-in_err-parent : goal.returns-in_err-parent
returns-in_err-parent g t c = λ theirs value w same.
    let bytes : ℕ → Option (List ℕ) = g.P.Parents.bytes c.args.parents.now in
    let parted : c.left_len-left_len.result ≡ left_len c.args.n = c.left_len-left_len.ensures.value in
    let at : AtParent bytes theirs c.args.mode.now c.args.top value c.args.number c.args.n c.args.chunk.now.first c.args.chunk.now.bytes.now =
    at_parent bytes theirs c.args.mode.now c.args.top value c.args.number c.args.n c.args.chunk.now.first c.args.chunk.now.bytes.now w
    c.args.ours.now.first c.args.ours.now.bytes.now same c.if-n.false in
    let bad : None ≡ Some at.parent = c.in_err-parent.ensures.value ∙ ap (λ (l : ℕ). bytes (c.args.number + l / 1024)) parted ∙ at.there in cc

pub returns-then-ours-le-CHUNK_LEN-2 : goal.returns-then-ours-le-CHUNK_LEN-2
returns-then-ours-le-CHUNK_LEN-2 g t c = λ theirs value w same.
    let mode : Mode = c.args.mode.now in
    let s : List ℕ = c.args.ours.now.bytes.now in
    let parent : List ℕ = c.in_ok-parent.parent.now in
    let bytes : ℕ → Option (List ℕ) = g.P.Parents.bytes c.args.parents.now in
    let parted : c.left_len-left_len.result ≡ left_len c.args.n = c.left_len-left_len.ensures.value in
    let there : bytes (c.args.number + left_len c.args.n / 1024) ≡ Some parent = ap (λ (l : ℕ). bytes (c.args.number + l / 1024)) (sym parted) ∙ sym c.in_ok-parent.ensures.value in
    let x_is : c.marked-x.result ≡ marked c.args.top (top_input mode c.args.ours.now.first s) = c.marked-x.ensures ∙ ap (marked c.args.top) c.top_input.ensures.value in
    let y_is : c.marked-y-2.result ≡ marked c.args.top (parent_of mode parent) = c.marked-y-2.ensures ∙ ap (marked c.args.top) c.input_of.ensures in
    elim c.then-ours-le-CHUNK_LEN-2.branch [
      | then-ours-le-CHUNK_LEN-2-via-then-ours-le-CHUNK_LEN-2 b ↦
          chunk_parent bytes theirs mode c.args.top value c.args.number c.args.n c.args.chunk.now.first c.args.chunk.now.bytes.now w c.args.ours.now.first s same
          parent c.marked-x.result c.marked-y-2.result c.if-n.false there b.if-ours-le-CHUNK_LEN-2.true x_is y_is
      | then-ours-le-CHUNK_LEN-2-via-else-ours-le-CHUNK_LEN-2+then-not-are_same b ↦
          parents_differ bytes theirs mode c.args.top value c.args.number c.args.n c.args.chunk.now.first c.args.chunk.now.bytes.now w c.args.ours.now.first s same
          parent c.marked-x.result c.marked-y-2.result c.if-n.false there b.if-ours-le-CHUNK_LEN-2.false x_is y_is (told_not b.are_same.result b.are_same.ensures b.if-not-are_same.true)
    ]

pub walk-requires-else-chunk-middle : goal.walk-requires-else-chunk-middle
walk-requires-else-chunk-middle g t c κs within =
    let parted : c.left_len-left_len.result ≡ left_len c.args.n = c.left_len-left_len.ensures.value in
    let parts : Parts c.args.n (left_len c.args.n) = left_len-Parts c.args.n c.if-n.false in
    let s : List ℕ = c.args.ours.now.bytes.now in
    let own : Parts (length s) (left_len (length s)) = left_len-Parts (length s) c.if-ours-le-CHUNK_LEN-2.false in
    let size : length c.parts.result.1.bytes.now ≡ length s - left_len (length s) = ap length c.parts.ensures.right ∙ length-drop (left_len (length s)) s in
    let right_first : c.parts.result.1.first ≡ c.args.ours.now.first + left_len (length s) / 1024 = c.parts.ensures.right_first in
    let smaller : c.args.n - c.left_len-left_len.result < t = omega (arith, parted, parts.whole, parts.some, parts.below, c.decreases, c.if-n.false) in
    let range : 1024 * (c.args.number + c.left_len-left_len.result / 1024) + (c.args.n - c.left_len-left_len.result) ≤ 2 ^ 64 - 1 =
    omega (arith, parted, parts.whole, parts.below, c.requires.range) in
    let our_range : 1024 * c.parts.result.1.first + length c.parts.result.1.bytes.now ≤ 2 ^ 64 - 1 = omega (arith, right_first, size, own.whole, own.below, c.requires.our_range) in
    (smaller, ((λ a m. within a m), (range, (our_range, (c.requires.chunk_range, c.requires.chunk_len)))))

pub returns-then-chunk-middle : goal.returns-then-chunk-middle
returns-then-chunk-middle g t c = λ theirs value w same.
    let mode : Mode = c.args.mode.now in
    let first : ℕ = c.args.ours.now.first in
    let s : List ℕ = c.args.ours.now.bytes.now in
    let parent : List ℕ = c.in_ok-parent.parent.now in
    let bytes : ℕ → Option (List ℕ) = g.P.Parents.bytes c.args.parents.now in
    let parted : c.left_len-left_len.result ≡ left_len c.args.n = c.left_len-left_len.ensures.value in
    let there : bytes (c.args.number + left_len c.args.n / 1024) ≡ Some parent = ap (λ (l : ℕ). bytes (c.args.number + l / 1024)) (sym parted) ∙ sym c.in_ok-parent.ensures.value in
    let x_is : c.marked-x.result ≡ marked c.args.top (top_input mode first s) = c.marked-x.ensures ∙ ap (marked c.args.top) c.top_input.ensures.value in
    let y_is : c.marked-y-2.result ≡ marked c.args.top (parent_of mode parent) = c.marked-y-2.ensures ∙ ap (marked c.args.top) c.input_of.ensures in
    let before : c.args.chunk.now.first < c.args.number + left_len c.args.n / 1024 = omega (arith, parted, c.if-chunk-middle.true) in
    goes_left bytes theirs mode c.args.top value c.args.number c.args.n c.args.chunk.now.first c.args.chunk.now.bytes.now w first s same
    c.walk.result parent c.marked-x.result c.marked-y-2.result c.if-n.false there c.if-ours-le-CHUNK_LEN-2.false x_is y_is (told c.are_same.result c.are_same.ensures c.if-not-are_same.false) before
    (searches_same bytes theirs mode false (part_value left parent) c.args.chunk.now.first c.args.chunk.now.bytes.now c.walk.result
    c.parts.result.0.first first c.parts.result.0.bytes.now (take (left_len (length s)) s) c.args.number c.args.number c.left_len-left_len.result (left_len c.args.n)
    c.parts.ensures.left_first c.parts.ensures.left (λ _. c.args.number) parted (c.walk.ensures theirs (part_value left parent)))

pub returns-else-chunk-middle : goal.returns-else-chunk-middle
returns-else-chunk-middle g t c = λ theirs value w same.
    let mode : Mode = c.args.mode.now in
    let first : ℕ = c.args.ours.now.first in
    let s : List ℕ = c.args.ours.now.bytes.now in
    let parent : List ℕ = c.in_ok-parent.parent.now in
    let bytes : ℕ → Option (List ℕ) = g.P.Parents.bytes c.args.parents.now in
    let parted : c.left_len-left_len.result ≡ left_len c.args.n = c.left_len-left_len.ensures.value in
    let there : bytes (c.args.number + left_len c.args.n / 1024) ≡ Some parent = ap (λ (l : ℕ). bytes (c.args.number + l / 1024)) (sym parted) ∙ sym c.in_ok-parent.ensures.value in
    let x_is : c.marked-x.result ≡ marked c.args.top (top_input mode first s) = c.marked-x.ensures ∙ ap (marked c.args.top) c.top_input.ensures.value in
    let y_is : c.marked-y-2.result ≡ marked c.args.top (parent_of mode parent) = c.marked-y-2.ensures ∙ ap (marked c.args.top) c.input_of.ensures in
    let after : c.args.number + left_len c.args.n / 1024 ≤ c.args.chunk.now.first = omega (arith, parted, c.if-chunk-middle.false) in
    goes_right bytes theirs mode c.args.top value c.args.number c.args.n c.args.chunk.now.first c.args.chunk.now.bytes.now w first s same
    c.walk-else-chunk-middle.result parent c.marked-x.result c.marked-y-2.result c.if-n.false there c.if-ours-le-CHUNK_LEN-2.false x_is y_is (told c.are_same.result c.are_same.ensures c.if-not-are_same.false) after
    (searches_same bytes theirs mode false (part_value right parent) c.args.chunk.now.first c.args.chunk.now.bytes.now c.walk-else-chunk-middle.result
    c.parts.result.1.first (first + left_len (length s) / 1024) c.parts.result.1.bytes.now (drop (left_len (length s)) s)
    (c.args.number + c.left_len-left_len.result / 1024) (c.args.number + left_len c.args.n / 1024) (c.args.n - c.left_len-left_len.result) (c.args.n - left_len c.args.n)
    c.parts.ensures.right_first c.parts.ensures.right (ap (λ (l : ℕ). c.args.number + l / 1024) parted) (ap (λ (l : ℕ). c.args.n - l) parted)
    (c.walk-else-chunk-middle.ensures theirs (part_value right parent)))
