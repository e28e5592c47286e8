use Rattle.std.proofs.Common.{◌≡◌, ◌≤◌, ◌+◌, ◌-◌, length, take}
use Rattle.bao_check.specs.Decoded.{Decodes}
use Rattle.bao_check.specs.Known.{AreKnown}
use Rattle.bao_check.specs.Waiting.{AreParts, HasTaken}
use Rattle.bao_check.proofs.decoding.take_nodes.Given as goal

abbrev pub invariant-nodes : goal.invariant-nodes
invariant-nodes l = record {
  known : AreKnown l.mode l.bytes l.known;
  parts : AreParts l.choice l.waiting.items;
  size : length l.room ≡ length l.initial.room;
  at : l.at ≡ l.initial.at + l.used;
  used : l.used ≤ length l.bytes;
  filled : l.filled ≤ l.used;
  taken : HasTaken l.mode l.choice l.initial.waiting.items l.waiting.items (take l.used l.bytes);
  decodes : Decodes l.choice l.initial.waiting.items l.waiting.items (take l.used l.bytes) (take l.filled l.room);
}

abbrev pub decreases-nodes : goal.decreases-nodes
decreases-nodes l = length l.bytes - l.used
