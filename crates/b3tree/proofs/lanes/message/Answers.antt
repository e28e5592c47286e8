use Rattle.std.proofs.Common.{◌≡◌, ◌≤◌, ℕ, ◌+◌, ◌*◌, List, ◌++◌, length, ◌∙◌, arith}
use Rattle.std.proofs.Math.Nat.{mul-le-mul_left}
use Rattle.b3tree.specs.Bytes.{words_of}
use Rattle.b3tree.specs.Pieces.{piece}
use Rattle.b3tree.proofs.Pieces.{block_words-piece}
use Rattle.b3tree.proofs.lanes.message.Goals as goal

pub returns : goal.returns
returns c = λ j h.
    let s : List ℕ = c.args.bytes.now in
    let at : ℕ = c.args.at + c.args.stride * j in
    let near : c.args.at + 64 * c.args.k + c.args.stride * j ≡ at + 64 * c.args.k = omega arith in
    let far : c.args.at + 64 * c.args.k + 32 + c.args.stride * j ≡ at + 64 * c.args.k + 32 = omega arith in
    let within : c.args.stride * j ≤ c.args.stride * 7 = mul-le-mul_left c.args.stride (omega arith) in
    let fits : at + 1024 ≤ length s = omega (arith, c.requires.len) in
    c.joined.ensures j h
    ∙ (λ i. c.half_blocks-front.ensures j h i ++ c.half_blocks-back.ensures j h i)
    ∙ (λ i. words_of 8 (piece s (near i) 32) ++ words_of 8 (piece s (far i) 32))
    ∙ block_words-piece s at c.args.k c.requires.block fits
