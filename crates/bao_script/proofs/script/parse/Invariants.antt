use Rattle.std.proofs.Common.{map, take}
use Rattle.bao_script.specs.Scripts.{AreRead, numbered}
use Rattle.bao_script.proofs.script.parse.Given as goal

abbrev pub invariant-loop-index : goal.invariant-loop-index
invariant-loop-index l = AreRead l.files (numbered 1 (take l.index (map (λ line. line.now) l.line-items))) l.lines.items
