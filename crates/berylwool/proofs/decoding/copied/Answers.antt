use Rattle.std.proofs.Common.{◌≡◌, ◌∙◌, ℕ, ◌+◌, ◌≤◌, List, length, arith, refl}
use Rattle.holders.specs.Pieces.{piece_of}
use Rattle.berylwool.proofs.Bytes.{copied_all, copied_next, same_size, stays_after}
use Rattle.berylwool.proofs.decoding.copied.Goals as goal

pub loop-bytes-preserved : goal.loop-bytes-preserved
loop-bytes-preserved c =
    let f : ℕ = c.loop-bytes.filled in
    let out : List ℕ = c.loop-bytes.out in
    let part : List ℕ = c.in-Some.bytes.now in
    let fits : f + length part ≤ length out = omega (arith, c.loop-bytes.invariant.0, c.in-Some.ensures.some.1) in
    let size : length c.put_bytes.new.out ≡ length out = same_size f out part c.put_bytes.new.out fits c.put_bytes.ensures in (
      omega (arith, fits, size),
      size ∙ c.loop-bytes.invariant.1,
      copied_next (piece_of 0 c.args.piece.now) c.args.start f out part c.put_bytes.new.out fits c.put_bytes.ensures c.loop-bytes.invariant.2 c.in-Some.ensures.are,
      stays_after f c.args.out.now out part c.put_bytes.new.out fits c.put_bytes.ensures c.loop-bytes.invariant.3,
    )

pub returns-clause-bytes : goal.returns-clause-bytes
returns-clause-bytes c =
    copied_all (piece_of 0 c.args.piece.now) c.args.start (length c.args.out.now) c.loop-bytes.filled c.loop-bytes.out c.loop-bytes.invariant.0 c.loop-bytes.invariant.1
    c.loop-bytes.invariant.2 (λ below. c.in_default.ensures.none refl (omega (arith, below, c.loop-bytes.invariant.1)))
