use Rattle.std.proofs.Common.{◌<◌, ℕ, arith, subst, sym}
use Rattle.std.proofs.lemmas.List.{length-map}
use Rattle.std.specs.Prelude.{is_some}
use Rattle.bao_files.proofs.Readable.{passed_on}
use Rattle.bao_sums.specs.Hashed.{paths_of}
use Rattle.bao_sums.specs.Kinds.{IsLookAt, kind_line}
use Rattle.bao_sums.proofs.Each.{all_more, fault_after, one_more}
use Rattle.bao_sums.proofs.info.info_files.Goals as goal

pub returns-in_err-is_seen-clause-fault : goal.returns-in_err-is_seen-clause-fault
returns-in_err-is_seen-clause-fault g c =
    passed_on c.from_residual.result c.in_err-is_seen.field-0.0 _ c.from_residual.ensures.1
    (fault_after (IsLookAt (g.D.Disk.faultless c.args.disk.now) (g.D.Disk.at c.args.disk.now)) kind_line (paths_of c.args.files.now) c.items.index c.path_at-path.result.now
    (g.O.Write.contents c.args.out.now) (g.O.Write.contents c.items.out) (g.O.Write.contents c.info_one.new.out) _ c.in_err-is_seen.field-0.0
    (subst (λ (n : ℕ). c.items.index < n) (sym (length-map c.args.files.now (λ file. file.now))) (omega (arith, c.items-test.true))) c.path_at-path.ensures c.items.invariant c.in_err-is_seen.ensures.fault)

pub items-preserved : goal.items-preserved
items-preserved g c =
    one_more (IsLookAt (g.D.Disk.faultless c.args.disk.now) (g.D.Disk.at c.args.disk.now)) kind_line (paths_of c.args.files.now) c.items.index c.path_at-path.result.now
    (g.O.Write.contents c.args.out.now) (g.O.Write.contents c.items.out) (g.O.Write.contents c.info_one.new.out) _ _ _
    (subst (λ (n : ℕ). c.items.index < n) (sym (length-map c.args.files.now (λ file. file.now))) (omega (arith, c.items-test.true))) c.path_at-path.ensures (λ ys y before last. all_more is_some ys y c.items.whole c.in_ok-is_seen.is_seen c.both-whole.result c.both-whole.ensures before last) c.items.invariant c.in_ok-is_seen.ensures.one
