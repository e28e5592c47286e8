use Rattle.std.proofs.Common.{◌≡◌, ◌≤◌, ◌+◌, ◌-◌, ◌^◌, ℕ, List, length, take}
use Rattle.bao_decode.specs.Ranges.{positions}
use Rattle.bao_decode.specs.TextPass.{HaveLen}
use Rattle.bao_decode.proofs.text_pass.text_pass.Given as goal
use Rattle.bao_decode.proofs.TextPasses.{IsBegun, end_of, skip_of}

abbrev pub invariant-texts : goal.invariant-texts
invariant-texts g l = record {
  sizes : HaveLen 294912 l.blocks;
  most : l.at ≤ 2 ^ 63 + 2 ^ 32;
  less : l.done + l.waiting ≤ l.at;
  within : l.waiting ≤ 294912;
  begun : (text blob : List ℕ) × (l.done + l.waiting ≡ length blob)
      × IsBegun l.mode l.root.0 l.part (g.F.Forward.contents l.source) l.total l.checking l.at (g.W.Write.contents l.initial.out) (g.W.Write.contents l.out)
      (positions l.done (skip_of l.mode l.root.0 l.part l.total) (end_of l.mode l.root.0 l.part l.total) (take l.waiting l.blocks.before.items)) text blob;
}

abbrev pub decreases-texts : goal.decreases-texts
decreases-texts g l = 2 ^ 63 + 2 ^ 32 - l.at
