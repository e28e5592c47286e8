use Rattle.std.proofs.Common.{ℕ, List, None, Some, subst}
use Rattle.std.specs.Prelude.{string_bytes}
use Rattle.std.specs.Io.KnownBytes.{Appends}
use Rattle.bao_files.specs.Printed.{AppendsBeginning}
use Rattle.bao_sums.specs.Damage.{outboard_path, range_line, run_lines}
use Rattle.bao_sums.specs.Opened.{IsBesideOf}
use Rattle.bao_sums.proofs.Outcomes.{all_known}
use Rattle.bao_sums.proofs.Runs.{err_then, ok_then}
use Rattle.bao_sums.proofs.damage.print_damage.Goals as goal

pub returns-in-Some-clause-done : goal.returns-in-Some-clause-done
returns-in-Some-clause-done g c =
    let has = g.D.Input.Source.contents in
    let never = g.D.Input.Source.faultless in
    let sure = g.D.Disk.faultless c.args.disk.now in
    let outboard = g.D.Disk.at c.args.disk.now (outboard_path (string_bytes c.args.line.now.path)) in
    let file = g.D.Disk.at c.args.disk.now (string_bytes c.args.line.now.path) in
    let mode = c.args.mode.now in
    let root = c.args.line.now.digest.0 in
    let it = c.in-Some.beside in
    let beside = subst (IsBesideOf has never sure outboard file mode root) c.in-Some.is c.in_ok-beside.ensures in
    ok_then c.print_runs.result
    (λ made. (
      Some (record { total = it.total; had = made.0 }),
      (beside.0, made.1, all_known sure (never it.outboard × never it.file) outboard file (has it.outboard) (has it.file) mode root beside.1 beside.2 beside.3 made.0 made.2),
      subst (λ (path : List ℕ). Appends (g.O.Write.contents c.args.out.now) (g.O.Write.contents c.print_runs.new.out) (run_lines (range_line path it.total) None 0 made.0)) c.as_str-path.ensures.value made.3,
    )) c.print_runs.ensures.done

pub returns-in-Some-clause-part : goal.returns-in-Some-clause-part
returns-in-Some-clause-part g c =
    let has = g.D.Input.Source.contents in
    let never = g.D.Input.Source.faultless in
    let sure = g.D.Disk.faultless c.args.disk.now in
    let outboard = g.D.Disk.at c.args.disk.now (outboard_path (string_bytes c.args.line.now.path)) in
    let file = g.D.Disk.at c.args.disk.now (string_bytes c.args.line.now.path) in
    let mode = c.args.mode.now in
    let root = c.args.line.now.digest.0 in
    let it = c.in-Some.beside in
    let beside = subst (IsBesideOf has never sure outboard file mode root) c.in-Some.is c.in_ok-beside.ensures in
    err_then c.print_runs.result
    (λ made. (
      Some (record { total = it.total; had = made.0 }),
      (beside.0, made.1, all_known sure (never it.outboard × never it.file) outboard file (has it.outboard) (has it.file) mode root beside.1 beside.2 beside.3 made.0 made.2),
      subst (λ (path : List ℕ). AppendsBeginning (g.O.Write.contents c.args.out.now) (g.O.Write.contents c.print_runs.new.out) (run_lines (range_line path it.total) None 0 made.0)) c.as_str-path.ensures.value
          made.3,
    )) c.print_runs.ensures.part
