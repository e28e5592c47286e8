use Rattle.std.proofs.Common.{◌≡◌, ℕ, ◌+◌, ◌≤◌, List, ◌++◌, length, take, arith, length-append}
use Rattle.std.proofs.lemmas.List.{length-take-le, take-append-le}
use Rattle.std.proofs.Math.Seq.{take-append-add}
use Rattle.bao_check.proofs.Streamed.{Consumes-then}
use borrow.Rule.Slice.PartMut.{put_mid}
use Rattle.bao_check.proofs.stream.fill.Goals as goal

-- what a buffer begins with, after `count` more bytes were put at `at`
put_more : (at k count : ℕ) (buffer new : List ℕ) → at ≤ length buffer → count ≤ length new → take (at + count) (put_mid at k buffer new) ≡ take at buffer ++ take count new
put_more at k count buffer new fits within = grind (arith, length-take-le, take-append-add, take-append-le)

pub reads-preserved : goal.reads-preserved
reads-preserved g c = grind (arith, length-append, length-take-le, put_more, Consumes-then)
