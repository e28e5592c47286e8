use Rattle.std.proofs.Common.{◌≡◌, ◌≤◌, ◌+◌, ◌-◌, ◌^◌, ℕ, List, length}
use Rattle.bao_decode.proofs.encoding_pass.encoding_pass.Given as goal
use Rattle.bao_decode.proofs.EncodingPasses.{IsCopied}

abbrev pub invariant-blocks-2 : goal.invariant-blocks-2
invariant-blocks-2 g l = record {
  block : length l.block ≡ length l.fn.block;
  room : length l.room ≡ length l.fn.room;
  most : l.at ≤ 2 ^ 63 + 2 ^ 32;
  copied : (text blob : List ℕ) × IsCopied l.mode l.root.0 l.part (g.F.Forward.contents l.source) l.first l.last l.checking l.at (g.W.Write.contents l.fn.out) (g.W.Write.contents l.out) text blob;
}

abbrev pub decreases-blocks-2 : goal.decreases-blocks-2
decreases-blocks-2 g l = 2 ^ 63 + 2 ^ 32 - l.at
