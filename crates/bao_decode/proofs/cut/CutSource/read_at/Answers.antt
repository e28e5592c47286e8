use Rattle.std.proofs.Common.{rules, ◌≡◌, ℕ, List, ◌++◌, length, drop, min, arith, length-append, length-drop}
use Rattle.std.proofs.lemmas.Result.{IfOk-weaker}
use Rattle.bao_decode.specs.Cutting.{GoesOn, cut_as}
use Rattle.bao_decode.proofs.Cuttings.{cut_past, cut_read, paired}
use Rattle.bao_decode.proofs.cut.CutSource.read_at.Goals as goal

pub returns-in-Some-clause-bytes : goal.returns-in-Some-clause-bytes
returns-in-Some-clause-bytes g c =
    let it = c.args.self.now in
    let run = c.in-Some.run' in
    let new : List ℕ = c.read_at.new.buf in
    let rest : List ℕ = drop c.min-room.result c.args.buf.now in
    let size : length new ≡ c.min-room.result = search rules in
    let room : length new ≡ min run.len (length (new ++ rest)) = omega (arith, size, c.min-room.ensures, length-append new rest, length-drop c.min-room.result c.args.buf.now) in
    IfOk-weaker c.read_at.result _ _ (λ count both.
    cut_read it.total it.start it.len (g.S.Source.contents it.encoding.now) c.args.at run.at run.len count new rest (λ s. c.in-Some.ensures.some s) c.in-Some.ensures.len room both.0.0 both.1)
    (paired _ _ c.read_at.result c.read_at.ensures.bound c.read_at.ensures.bytes)

pub returns-in_default-clause-bytes : goal.returns-in_default-clause-bytes
returns-in_default-clause-bytes g c =
    let it = c.args.self.now in
    let run = c.in-Some.run' in
    cut_past it.total it.start it.len (g.S.Source.contents it.encoding.now) c.args.at c.args.buf.now
    (λ s fits. let on : GoesOn s (cut_as it.total it.start it.len s) c.args.at run.at run.len = c.in-Some.ensures.some s in
    on.ends (omega (arith, fits, c.if-run-lt-END.false)))
