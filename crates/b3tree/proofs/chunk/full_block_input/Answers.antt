use Rattle.std.proofs.Common.{◌≡◌, ℕ, ◌+◌, ◌-◌, ◌*◌, List, length, take, drop, sym, ap, ◌∙◌, arith, length-drop}
use Rattle.std.proofs.lemmas.List.{length-take-le}
use Rattle.b3tree.specs.declared.mode.Mode.{Mode}
use Rattle.b3tree.specs.Bytes.{words_of}
use Rattle.b3tree.specs.Chunk.{block, block_count, block_flags}
use Rattle.b3tree.proofs.Pieces.{block_words-full}
use Rattle.b3tree.proofs.chunk.full_block_input.Goals as goal

pub returns : goal.returns
returns c =
    let mode : Mode = c.args.mode.now in
    let s : List ℕ = c.args.chunk.now in
    let k : ℕ = c.args.k in
    let full : length (block s k) ≡ 64 = length-take-le 64 (drop (64 * k) s) (omega (arith, length-drop (64 * k) s)) in
    let n : 64 * k + 64 - 64 * k ≡ 64 = omega arith in
    let words = c.words_of.ensures
    ∙ ap (λ (n : ℕ). words_of 16 (take n (drop (64 * k) s))) n
    ∙ sym (block_words-full (block s k) full) in
    let flags = c.block_flags.ensures ∙ sym (ap (λ (n : ℕ). block_flags mode (block_count n) k) c.requires.len) in
    λ i. record {
      h = c.args.h;
      m = words i;
      t = c.args.i;
      b = sym full i;
      d = flags i;
    }
