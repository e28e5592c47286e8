use Rattle.bao_tasks.specs.Givens.{given_contents, is_given_faultless, most_bytes, shown_contents, shown_faultless}
use Rattle.bao_tasks.specs.MissingInFiles.{IsReachIn}
use Rattle.bao_tasks.proofs.Taking.{IsTaking}
use Rattle.bao_tasks.proofs.gathering.take_files.Given as goal

abbrev pub invariant-loop-place : goal.invariant-loop-place
invariant-loop-place g l =
    IsTaking (shown_contents (given_contents g.D.Input.Source.contents)) (shown_faultless (is_given_faultless g.D.Input.Source.faultless)) (g.D.Disk.faultless l.disk)
    (IsReachIn l.how.wanted l.how.long l.how.capacity (g.D.Disk.at l.disk) l.paths)
    (λ n. most_bytes l.how.wanted.form n) (g.D.Disk.at l.disk) l.paths l.regular l.place l.fn.taken.starved l.fn.taken.givens.items l.taken.starved l.taken.givens.items
