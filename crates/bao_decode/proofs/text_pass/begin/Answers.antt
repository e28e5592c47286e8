use Rattle.std.proofs.Common.{◌≡◌, ℕ, List, [], length, take, subst, arith}
use Rattle.std.proofs.lemmas.List.{take_all}
use Rattle.bao_check.specs.Checking.{HasDecodedAs, IsNodeFault}
use Rattle.bao_check.specs.Waiting.{CheckTask}
use Rattle.b3par.specs.Given.{GivenAt}
use Rattle.bao_decode.specs.TextPass.{task_of_part}
use Rattle.bao_decode.proofs.Forwards.{reaches_first}
use Rattle.bao_decode.proofs.TextPasses.{node_stops}
use Rattle.bao_decode.proofs.text_pass.begin.Goals as goal

pub returns-in-Ok-clause-given : goal.returns-in-Ok-clause-given
returns-in-Ok-clause-given g c =
    let header : List ℕ = c.fill_most.new.buf in
    let size : length header ≡ 8 = c.fill_most.ensures.size in
    let count : c.in_ok-count.count ≡ 8 = omega (arith, size, c.in_ok-count.ensures.bound, c.if-count-lt-LENGTH_LEN.false) in
    let all : take c.in_ok-count.count header ≡ header = take_all c.in_ok-count.count header (omega (arith, size, count)) in
    subst (GivenAt (g.F.Forward.contents c.args.source.now) 0) all (c.in_ok-count.ensures.given (reaches_first (g.F.Forward.contents c.args.source.now) (g.F.Forward.anywhere c.args.source.now)))

pub returns-in-Ok-clause-decodes : goal.returns-in-Ok-clause-decodes
returns-in-Ok-clause-decodes g c =
    let header : List ℕ = c.fill_most.new.buf in
    let start : CheckTask = record { mode = c.args.mode.now; root = c.args.root.now.0; start = c.slice_of-start.result.0; len = c.slice_of-start.result.1 } in
    let task : start ≡ task_of_part c.args.mode.now c.args.root.now.0 c.args.part.now =
    (λ i. record { mode = c.args.mode.now; root = c.args.root.now.0; start = c.slice_of-start.ensures.start i; len = c.slice_of-start.ensures.len i }) in
    subst (λ (t : CheckTask). HasDecodedAs c.take.new.self t header []) task (c.in-Ok.ensures.begun start c.of_slice-checking.ensures.taken)

pub returns-in-Err-clause-fault : goal.returns-in-Err-clause-fault
returns-in-Err-clause-fault g c =
    let header : List ℕ = c.fill_most.new.buf in
    let size : length header ≡ 8 = c.fill_most.ensures.size in
    let count : c.in_ok-count.count ≡ 8 = omega (arith, size, c.in_ok-count.ensures.bound, c.if-count-lt-LENGTH_LEN.false) in
    let all : take c.in_ok-count.count header ≡ header = take_all c.in_ok-count.count header (omega (arith, size, count)) in
    let start : CheckTask = record { mode = c.args.mode.now; root = c.args.root.now.0; start = c.slice_of-start.result.0; len = c.slice_of-start.result.1 } in
    let task : start ≡ task_of_part c.args.mode.now c.args.root.now.0 c.args.part.now =
    (λ i. record { mode = c.args.mode.now; root = c.args.root.now.0; start = c.slice_of-start.ensures.start i; len = c.slice_of-start.ensures.len i }) in
    let fault = c.in-Err.ensures.fault start [] c.of_slice-checking.ensures.taken in
    node_stops (g.F.Forward.contents c.args.source.now) (g.F.Forward.faultless c.args.source.now) (task_of_part c.args.mode.now c.args.root.now.0 c.args.part.now) header c.in-Err.fault
    (subst (λ (t : CheckTask). IsNodeFault t header c.in-Err.fault) task fault) (omega (arith, size))
    (subst (GivenAt (g.F.Forward.contents c.args.source.now) 0) all (c.in_ok-count.ensures.given (reaches_first (g.F.Forward.contents c.args.source.now) (g.F.Forward.anywhere c.args.source.now))))
