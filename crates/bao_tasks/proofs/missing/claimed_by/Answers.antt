use Rattle.bao_tasks.proofs.Claims.{claims_none, claims_true, claims_untrue}
use Rattle.bao_tasks.proofs.missing.claimed_by.Goals as goal

pub returns-in_default : goal.returns-in_default
returns-in_default g c = claims_none (g.S.Source.contents c.args.source.now) (g.S.Source.faultless c.args.source.now) c.args.wanted.now c.claim_in.result c.claim_in.ensures c.in_default.is

pub returns-then-branch : goal.returns-then-branch
returns-then-branch g c =
    claims_untrue (g.S.Source.contents c.args.source.now) (g.S.Source.faultless c.args.source.now) c.args.wanted.now c.claim_in.result c.claim_in.ensures c.in-Some.total _ c.in-Some.is c.if-branch.true c.in_ok-lacks_first.ensures

pub returns : goal.returns
returns g c =
    claims_true (g.S.Source.contents c.args.source.now) (g.S.Source.faultless c.args.source.now) c.args.wanted.now c.claim_in.result c.claim_in.ensures c.in-Some.total _ c.in-Some.is c.if-branch.false c.in_ok-lacks_first.ensures
