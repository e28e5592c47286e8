use Rattle.std.proofs.Common.{rules, ◌≡◌, ℕ, ◌-◌, ◌≤◌, List, length, arith}
use Rattle.b3par.proofs.Parts.{GivenAt-more}
use borrow.Rule.Slice.PartMut.{put_mid}
use Rattle.b3par.proofs.pieces.fill.Goals as goal

pub reads-preserved : goal.reads-preserved
reads-preserved g c =
    let filled : ℕ = c.reads.filled in
    let count : ℕ = c.in-Ok.count in
    let buffer : List ℕ = c.reads.buf in
    let new : List ℕ = c.read_at.new.buf in
    let fits : filled ≤ length buffer = c.reads.invariant.0 in
    let within : count ≤ length new = c.in-Ok.ensures.bound.0 in
    let k : ℕ = length buffer - filled in
    let size : length (put_mid filled k buffer new) ≡ length buffer = search rules in (
      omega (arith, size, c.read_at.auto.buf),
      omega (arith, size, c.reads.invariant.1),
      GivenAt-more (g.S.Source.contents c.args.source.now) c.args.at filled k count buffer new fits within c.reads.invariant.2 c.in-Ok.ensures.bytes,
    )
