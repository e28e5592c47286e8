use Rattle.bao_files.proofs.Readable.{passed_on}
use Rattle.bao_sums.specs.Found.{sum_of}
use Rattle.bao_sums.proofs.Outcomes.{damage_left, outcome_done, verdict_left}
use Rattle.bao_sums.proofs.checking.check_one.Goals as goal

pub returns-in_err-print_verdict-clause-fault : goal.returns-in_err-print_verdict-clause-fault
returns-in_err-print_verdict-clause-fault g c =
    let fault = c.in_err-print_verdict in
    passed_on c.from_residual-in_err-print_verdict.result fault.field-0.0 _ c.from_residual-in_err-print_verdict.ensures.1
    (verdict_left (g.D.Disk.faultless c.args.disk.now) (g.D.Disk.at c.args.disk.now) c.args.checking.now.mode.now c.args.checking.now.ranges c.args.checking.now.quiet (sum_of c.args.line.now)
    c.in_ok-verdict.verdict (g.O.Write.contents c.args.out.now) (g.O.Write.contents c.print_verdict.new.out) fault.field-0.0 fault.ensures.fault c.in_ok-verdict.ensures.verdict fault.ensures.prints)

pub returns-in_err-print_asked-clause-fault : goal.returns-in_err-print_asked-clause-fault
returns-in_err-print_asked-clause-fault g c =
    let fault = c.in_err-print_asked in
    passed_on c.from_residual-in_err-print_asked.result fault.field-0.0 _ c.from_residual-in_err-print_asked.ensures.1
    (damage_left (g.D.Disk.faultless c.args.disk.now) (g.D.Disk.at c.args.disk.now) c.args.checking.now.mode.now c.args.checking.now.ranges c.args.checking.now.quiet (sum_of c.args.line.now)
    c.in_ok-verdict.verdict c.asks_ranges-asks.result (g.O.Write.contents c.args.out.now) (g.O.Write.contents c.print_verdict.new.out) (g.O.Write.contents c.print_asked.new.out) fault.field-0.0
    fault.ensures.fault c.in_ok-verdict.ensures.verdict c.asks_ranges-asks.ensures c.in_ok-print_verdict.ensures.prints fault.ensures.part)

pub returns-clause-one : goal.returns-clause-one
returns-clause-one g c =
    outcome_done (g.D.Disk.faultless c.args.disk.now) (g.D.Disk.at c.args.disk.now) c.args.checking.now.mode.now c.args.checking.now.ranges c.args.checking.now.quiet (sum_of c.args.line.now)
    c.in_ok-verdict.verdict c.asks_ranges-asks.result (g.O.Write.contents c.args.out.now) (g.O.Write.contents c.print_verdict.new.out) (g.O.Write.contents c.print_asked.new.out)
    c.in_ok-verdict.ensures.verdict c.asks_ranges-asks.ensures c.in_ok-print_verdict.ensures.prints c.in_ok-print_asked.ensures.done
