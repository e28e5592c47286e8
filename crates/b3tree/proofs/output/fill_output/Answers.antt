use Rattle.std.proofs.Common.{◌≡◌, ◌+◌, ◌-◌, ◌/◌, ◌%◌, ◌≤◌, ℕ, List, ◌++◌, length, take, drop, ◌∙◌, sym, ap, arith}
use Rattle.std.proofs.lemmas.Slice.{take-put_mid}
use Rattle.std.proofs.lemmas.List.FromFn.{length-map-range_with_len}
use Rattle.b3tree.specs.Hashing.{output, output_block, output_byte}
use Rattle.b3tree.proofs.OutputBlocks.{output-append, output-block}
use Rattle.b3tree.proofs.output.fill_output.Goals as goal

pub fill-preserved : goal.fill-preserved
fill-preserved c =
    let p : ℕ = c.args.at + c.fill.done in
    let count : ℕ = c.min-count.result in
    let start : ℕ = p % 64 in
    let last : ℕ = c.fill.done + count in
    let piece : List ℕ = c.copy_from_slice.new.self in
    let block : List ℕ = c.output_block-block.result in
    let part : piece ≡ take (start + count - start) (drop start block) = c.copy_from_slice.ensures.after in
    let plain : start + count - start ≡ count = omega arith in
    let fits : start + count ≤ 64 = omega arith in
    let size : length (output_block c.args.root.now (p / 64)) ≡ 64 = ap length (sym c.output_block-block.ensures.block) ∙ c.output_block-block.ensures.len in
    let stream : piece ≡ output c.args.root.now p count =
    part ∙ (λ i. take (plain i) (drop start (c.output_block-block.ensures.block i))) ∙ output-block c.args.root.now p count size fits in
    let len : length piece ≡ count = ap length stream ∙ length-map-range_with_len (output_byte c.args.root.now) p count in (
      omega arith,
      take-put_mid c.fill.done (last - c.fill.done) c.fill.out piece last (omega arith) (omega arith)
          ∙ (λ i. c.fill.invariant.1 i ++ stream i) ∙ output-append c.args.root.now c.args.at c.fill.done count,
    )
