use Rattle.gather.proofs.Common.{◌≡◌, ◌∙◌, ℕ, List, ◌++◌, take, length, length-append, length-take, ap, arith, take_at}
use Rattle.gather.proofs.Finishing.{begun_more, read_lacks}
use Rattle.gather.proofs.judging.read_all.Goals as goal

pub returns-in_err-read-clause-lacks : goal.returns-in_err-read-clause-lacks
returns-in_err-read-clause-lacks c = λ _.
    read_lacks c.read_means.ensures c.args.store.now _ _ c.read.new.out _ c.args.end c.requires
    (omega (arith, length-take c.min-count.result c.loop-part.part, c.min-count.ensures, c.loop-part-test.true, c.len-in-loop-part.ensures, c.len-in-loop-part-2.ensures, c.len.ensures)) c.in_err-read.ensures.event

pub loop-part-preserved : goal.loop-part-preserved
loop-part-preserved c =
    let here : c.len-in-loop-part-2.result ≡ length c.loop-part.blob.items = omega (arith, c.len-in-loop-part-2.ensures, c.loop-part.blob.ok.0) in
    let long : length c.read.new.out ≡ c.min-count.result = omega (arith, c.read.auto.out, length-take c.min-count.result c.loop-part.part, c.min-count.ensures, c.len-in-loop-part-2.array_long) in
    let is : c.extend_from_slice.new.self.items ≡ c.loop-part.blob.items ++ c.read.new.out =
    c.in_ok-extend_from_slice.ensures.items ∙ ap (λ (xs : List ℕ). c.loop-part.blob.items ++ xs) (take_at c.read.new.out _ c.min-count.result long) in (
      begun_more c.read_means.ensures c.args.store.now c.loop-part.blob.items (take c.min-count.result c.loop-part.part) c.read.new.out c.extend_from_slice.new.self.items c.len-in-loop-part-2.result
          here c.loop-part.invariant.0 c.in_ok-read.ensures.event is,
      omega (arith, ap length is, length-append c.loop-part.blob.items c.read.new.out, long, here, c.min-count.ensures, c.len-in-loop-part.ensures, c.loop-part.invariant.1, c.loop-part.blob.ok.0),
    )
