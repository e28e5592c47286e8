use Rattle.std.proofs.Common.{rules, ◌≡◌, ℕ, ◌-◌, ◌≤◌, List, length, take, sym, arith}
use Rattle.std.proofs.lemmas.List.{length-take-le}
use Rattle.b3par.specs.Given.{GivenAt}
use Rattle.b3par.proofs.Parts.{GivenAt-more}
use borrow.Rule.Slice.PartMut.{put_mid}
use Rattle.bao_decode.proofs.Forwards.{reaches_more}
use Rattle.bao_decode.proofs.copy_pass.fill_most.Goals as goal

pub reads-preserved : goal.reads-preserved
reads-preserved g c =
    let filled : ℕ = c.reads.filled in
    let count : ℕ = c.in-Ok.count in
    let buffer : List ℕ = c.reads.buf in
    let new : List ℕ = c.read_on.new.buf in
    let fits : filled ≤ length buffer = c.reads.invariant.0 in
    let within : count ≤ length new = c.in-Ok.ensures.bound.0 in
    let k : ℕ = length buffer - filled in
    let size : length (put_mid filled k buffer new) ≡ length buffer = search rules in (
      omega (arith, size, c.read_on.auto.buf),
      omega (arith, size, c.reads.invariant.1),
      λ reach.
          let contents = g.F.Forward.contents c.args.source.now in
          let given : GivenAt contents c.args.at (take filled buffer) = c.reads.invariant.2 reach in
          let had : filled ≡ length (take filled buffer) = sym (length-take-le filled buffer fits) in
          GivenAt-more contents c.args.at filled k count buffer new fits within given
          (c.in-Ok.ensures.bytes (reaches_more contents (g.F.Forward.anywhere c.args.source.now) c.args.at filled (take filled buffer) had given reach)),
    )
