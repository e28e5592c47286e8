use Rattle.std.proofs.Common.{◌∙◌, sym}
use Rattle.b3word.specs.Compression.{out}
use Rattle.b3tree.proofs.Words.{bytes_of-take}
use Rattle.b3tree.proofs.hashing.root_hash.Goals as goal

pub returns : goal.returns
returns c = c.to_bytes.ensures ∙ rw c.cv.ensures (sym (bytes_of-take 8 (out c.args.root.now)))
