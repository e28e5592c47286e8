use Rattle.std.proofs.Common.{◌≡◌, ◌<◌, ◌++◌, ◌∷◌, [], ℕ, List, All, arith, map, subst, sym}
use Rattle.std.proofs.lemmas.List.{length-map, map-append}
use Rattle.bao_files.proofs.Readable.{passed_on}
use Rattle.bao_sums.specs.Checked.{IsOutcomeAt, IsPartAt, Outcome, check_line, tally_of, verdicts_of}
use Rattle.bao_sums.specs.Found.{sum_of}
use Rattle.bao_sums.specs.declared.verdict.Verdict.{Verdict}
use Rattle.bao_sums.specs.Early.{IsHashedEarly}
use Rattle.bao_sums.proofs.Each.{one_more, parts_after}
use Rattle.bao_sums.proofs.Outcomes.{outcome_part}
use Rattle.bao_sums.proofs.checking.check_all.Goals as goal

pub returns-in_err-verdict-clause-fault : goal.returns-in_err-verdict-clause-fault
returns-in_err-verdict-clause-fault g c =
    passed_on c.from_residual.result c.in_err-verdict.field-0.0 _ c.from_residual.ensures.1
    (parts_after (IsOutcomeAt (g.D.Disk.faultless c.args.disk.now) (g.D.Disk.at c.args.disk.now) c.args.checking.now.mode.now c.args.checking.now.ranges)
    (IsPartAt (g.D.Disk.faultless c.args.disk.now) (g.D.Disk.at c.args.disk.now) c.args.checking.now.mode.now c.args.checking.now.ranges)
    (outcome_part (g.D.Disk.faultless c.args.disk.now) (g.D.Disk.at c.args.disk.now) c.args.checking.now.mode.now c.args.checking.now.ranges) (check_line c.args.checking.now.quiet)
    (map sum_of c.args.lines.now) c.items.index (sum_of c.line_at-line.result.now)
    (g.O.Write.contents c.args.out.now) (g.O.Write.contents c.items.out) (g.O.Write.contents c.check_one.new.out) _ c.in_err-verdict.field-0.0
    (subst (λ (n : ℕ). c.items.index < n) (sym (length-map c.args.lines.now sum_of)) (omega (arith, c.items-test.true))) c.line_at-line.ensures
    c.items.invariant.0 c.in_err-verdict.ensures.fault)

pub items-preserved : goal.items-preserved
items-preserved g c = (
  one_more (IsOutcomeAt (g.D.Disk.faultless c.args.disk.now) (g.D.Disk.at c.args.disk.now) c.args.checking.now.mode.now c.args.checking.now.ranges) (check_line c.args.checking.now.quiet)
      (map sum_of c.args.lines.now) c.items.index (sum_of c.line_at-line.result.now)
      (g.O.Write.contents c.args.out.now) (g.O.Write.contents c.items.out) (g.O.Write.contents c.check_one.new.out) _ _ _
      (subst (λ (n : ℕ). c.items.index < n) (sym (length-map c.args.lines.now sum_of)) (omega (arith, c.items-test.true))) c.line_at-line.ensures
      (λ (ys : List Outcome) (y : Outcome) before last.
      subst (λ (vs : List Verdict). c.noted-tally.result ≡ tally_of vs) (sym (map-append (λ outcome. outcome.verdict) ys (y ∷ [])))
      (subst (λ (v : Verdict). c.noted-tally.result ≡ tally_of (verdicts_of ys ++ v ∷ [])) last (c.noted-tally.ensures (verdicts_of ys) before)))
      c.items.invariant.0 c.in_ok-verdict.ensures.one,
  subst (λ (all : _). All (IsHashedEarly (g.D.Disk.at c.args.disk.now) c.args.checking.now.mode.now) all.items) (sym c.in_ok-verdict.ensures.same) c.go_on.ensures,
)
