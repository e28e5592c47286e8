use Rattle.std.proofs.Common.{ℕ, List, ◌++◌}
use Rattle.std.proofs.lemmas.Result.{err_from_is_err_and}
use Rattle.bao_files.proofs.SecondPass.{part_first, part_rest, sends_after, sends_err}
use Rattle.bao_files.proofs.ahead.Parts.send.Goals as goal

pub returns-in_err-send-2 : goal.returns-in_err-send-2
returns-in_err-send-2 g c =
    let old = g.W.Write.contents c.args.out.now in
    let mid = g.W.Write.contents c.send.new.out in
    let new = g.W.Write.contents c.send-2.new.out in
    let parent : List ℕ = c.as_slice.result.now in
    let near : List ℕ = c.as_slice-2.result.now in
    let far : List ℕ = c.args.self.now.far.items in
    let p = err_from_is_err_and c.from_residual-in_err-send-2.result c.from_residual-in_err-send-2.ensures.1 in
    rw (← c.as_slice.ensures.value, ← c.as_slice-2.ensures.value)
    (sends_err (parent ++ (near ++ far)) old new c.from_residual-in_err-send-2.result p.0 p.1
    (part_rest old mid new parent (near ++ far) c.in_ok-send.ensures.0 (part_first mid new near far c.in_err-send-2.ensures.1)))

pub returns : goal.returns
returns g c =
    let old = g.W.Write.contents c.args.out.now in
    let mid = g.W.Write.contents c.send.new.out in
    let then = g.W.Write.contents c.send-2.new.out in
    let new = g.W.Write.contents c.send-3.new.out in
    let parent : List ℕ = c.as_slice.result.now in
    let near : List ℕ = c.as_slice-2.result.now in
    let far : List ℕ = c.as_slice-3.result.now in
    rw (← c.as_slice.ensures.value, ← c.as_slice-2.ensures.value, ← c.as_slice-3.ensures.value)
    (sends_after parent (near ++ far) old mid new c.send-3.result c.in_ok-send.ensures.0
    (sends_after near far mid then new c.send-3.result c.in_ok-send-2.ensures.0 c.send-3.ensures))
