use Rattle.std.proofs.Common.{◌≡◌, ◌+◌, arith}
use Rattle.bao_sums.specs.Judged.{JudgesGroupOf, share_start}
use Rattle.bao_sums.proofs.Runs.{share_made}
use Rattle.bao_sums.proofs.damage.judge_share.Goals as goal

pub returns : goal.returns
returns g c =
    let from : c.share_start-from.result ≡ share_start c.args.first c.args.end c.args.share = c.share_start-from.ensures in
    let to : c.share_end-to.result ≡ share_start c.args.first c.args.end (c.args.share + 1) = omega (arith, from, c.share_end-to.ensures) in
    share_made
    (JudgesGroupOf (g.S.Source.faultless c.args.outboard.now × g.S.Source.faultless c.args.copy.now) (g.S.Source.contents c.args.outboard.now) (g.S.Source.contents c.args.copy.now)
    c.args.mode.now c.args.root.now.0) (λ v. v.items) c.judge.result c.args.first c.args.end c.args.share c.share_start-from.result c.share_end-to.result from to c.judge.ensures.len c.judge.ensures.judged
