use Rattle.std.proofs.Common.{◌≤◌, ◌≡◌, ℕ, Bool, List, None, length, arith, sym, subst}
use Rattle.std.specs.Io.KnownBytes.{Appends}
use Rattle.bao_files.specs.Printed.{AppendsBeginning}
use Rattle.bao_sums.specs.Damage.{AreJudged, group_count, range_line, run_line, run_lines}
use Rattle.bao_sums.specs.Judged.{JudgesGroupOf}
use Rattle.bao_sums.proofs.Runs.{done_so_far, err_such, err_then, none_so_far, nothing_more, ok_then, one_so_far, part_so_far}
use Rattle.bao_sums.proofs.damage.print_runs.Goals as goal

pub groups-init : goal.groups-init
groups-init g c =
    let Judges = JudgesGroupOf (g.S.Source.faultless c.args.outboard.now × g.S.Source.faultless c.args.copy.now) (g.S.Source.contents c.args.outboard.now) (g.S.Source.contents c.args.copy.now)
    c.args.mode.now c.args.root.now.0 in
    (subst (AreJudged Judges 0) (sym c.new.ensures.items) tt, none_so_far Judges (range_line c.args.path.now c.args.total) (g.O.Write.contents c.args.out.now))

pub returns-in_err-has-clause-part : goal.returns-in_err-has-clause-part
returns-in_err-has-clause-part g c =
    let Judges = JudgesGroupOf (g.S.Source.faultless c.args.outboard.now × g.S.Source.faultless c.args.copy.now) (g.S.Source.contents c.args.outboard.now) (g.S.Source.contents c.args.copy.now)
    c.args.mode.now c.args.root.now.0 in
    let line = range_line c.args.path.now c.args.total in
    let out = g.O.Write.contents c.groups.out in
    let within : c.groups.group ≤ group_count c.args.total = omega (arith, c.groups-test.true, c.group_count-groups.ensures.value) in
    err_such c.from_residual.result
    (part_so_far Judges line (g.O.Write.contents c.args.out.now) out out c.groups.since c.groups.group (group_count c.args.total) c.groups.invariant.1 within
    (nothing_more out (run_line line c.groups.since c.groups.group)))

pub returns-in_err-since-clause-part : goal.returns-in_err-since-clause-part
returns-in_err-since-clause-part g c =
    let Judges = JudgesGroupOf (g.S.Source.faultless c.args.outboard.now × g.S.Source.faultless c.args.copy.now) (g.S.Source.contents c.args.outboard.now) (g.S.Source.contents c.args.copy.now)
    c.args.mode.now c.args.root.now.0 in
    let line = range_line c.args.path.now c.args.total in
    let within : c.groups.group ≤ group_count c.args.total = omega (arith, c.groups-test.true, c.group_count-groups.ensures.value) in
    err_such c.from_residual-in_err-since.result
    (part_so_far Judges line (g.O.Write.contents c.args.out.now) (g.O.Write.contents c.groups.out) (g.O.Write.contents c.print_ended.new.out) c.groups.since c.groups.group (group_count c.args.total)
    c.groups.invariant.1 within c.in_err-since.ensures.part)

pub groups-preserved : goal.groups-preserved
groups-preserved g c =
    let Judges = JudgesGroupOf (g.S.Source.faultless c.args.outboard.now × g.S.Source.faultless c.args.copy.now) (g.S.Source.contents c.args.outboard.now) (g.S.Source.contents c.args.copy.now)
    c.args.mode.now c.args.root.now.0 in
    let done = c.in_ok-since.ensures.done in (
      c.next_verdict.ensures.judged,
      one_so_far Judges (range_line c.args.path.now c.args.total) (g.O.Write.contents c.args.out.now) (g.O.Write.contents c.groups.out) (g.O.Write.contents c.print_ended.new.out) c.groups.since
          c.in_ok-since.since c.groups.group c.in_ok-has.has c.groups.invariant.1 c.in_ok-has.ensures.verdict done.0 done.1,
    )

pub returns-clause-done : goal.returns-clause-done
returns-clause-done g c =
    let Judges = JudgesGroupOf (g.S.Source.faultless c.args.outboard.now × g.S.Source.faultless c.args.copy.now) (g.S.Source.contents c.args.outboard.now) (g.S.Source.contents c.args.copy.now)
    c.args.mode.now c.args.root.now.0 in
    let line = range_line c.args.path.now c.args.total in
    let groups : c.group_count-groups.result ≡ group_count c.args.total = c.group_count-groups.ensures.value in
    let all : c.groups.group ≡ c.group_count-groups.result = omega (arith, c.groups-test.false, c.groups.auto.group-end) in
    ok_then c.print_run.result
    (λ wrote. subst (λ (n : ℕ). (had : List Bool) × (length had ≡ n) × AreJudged Judges 0 had × Appends (g.O.Write.contents c.args.out.now) (g.O.Write.contents c.print_run.new.out) (run_lines line None 0 had)) groups
    (done_so_far Judges line (g.O.Write.contents c.args.out.now) (g.O.Write.contents c.groups.out) (g.O.Write.contents c.print_run.new.out) c.groups.since c.groups.group c.group_count-groups.result
    c.groups.invariant.1 all wrote)) c.print_run.ensures.done

pub returns-clause-part : goal.returns-clause-part
returns-clause-part g c =
    let Judges = JudgesGroupOf (g.S.Source.faultless c.args.outboard.now × g.S.Source.faultless c.args.copy.now) (g.S.Source.contents c.args.outboard.now) (g.S.Source.contents c.args.copy.now)
    c.args.mode.now c.args.root.now.0 in
    let line = range_line c.args.path.now c.args.total in
    let groups : c.group_count-groups.result ≡ group_count c.args.total = c.group_count-groups.ensures.value in
    let all : c.groups.group ≡ c.group_count-groups.result = omega (arith, c.groups-test.false, c.groups.auto.group-end) in
    let within : c.groups.group ≤ group_count c.args.total = omega (arith, groups, all) in
    err_then c.print_run.result
    (λ wrote. part_so_far Judges line (g.O.Write.contents c.args.out.now) (g.O.Write.contents c.groups.out) (g.O.Write.contents c.print_run.new.out) c.groups.since c.groups.group (group_count c.args.total)
    c.groups.invariant.1 within (subst (λ (n : ℕ). AppendsBeginning (g.O.Write.contents c.groups.out) (g.O.Write.contents c.print_run.new.out) (run_line line c.groups.since n)) (sym all) wrote)) c.print_run.ensures.part
