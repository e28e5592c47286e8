use Rattle.std.proofs.Common.{◌≡◌, ◌*◌, take}
use Rattle.b3tree.specs.Bytes.{bytes_of}
use Rattle.b3tree.proofs.bytes.put_bytes.Given as goal

abbrev pub invariant-words : goal.invariant-words
invariant-words l = take (4 * l.i) l.out ≡ bytes_of (take l.i l.words)
