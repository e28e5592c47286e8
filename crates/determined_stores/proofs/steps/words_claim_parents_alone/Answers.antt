use Rattle.std.proofs.Common.{ap, ◌≡◌}
use Rattle.holders.specs.declared.fixed.Fixed.{Fixed}
use Rattle.determined_stores.proofs.Pairs.{one_fixed}
use Rattle.determined_stores.proofs.ParentPairs.{claims_alike}
use Rattle.determined_stores.proofs.steps.words_claim_parents_alone.Goals as goal

pub returns : goal.returns
returns c =
    let a : Fixed = c.args.a.now.fixed in
    let b : Fixed = c.args.b.now.fixed in
    let same : a ≡ b = one_fixed a b c.args.first.now.view c.args.second.now.view c.requires.alike c.requires.first.knows.fixed_is c.requires.second.knows.fixed_is in
    claims_alike c.args.first.now.view c.claim_parents-ours.new.grip.view c.args.second.now.view c.claim_parents-theirs.new.grip.view c.args.group c.args.want
    c.claim_parents-ours.result c.claim_parents-theirs.result a.capacity b.capacity c.requires.alike (ap (λ (f : Fixed). f.capacity) same) c.claim_parents-ours.ensures.claimed
    c.claim_parents-theirs.ensures.claimed c.claim_parents-ours.ensures.alone c.claim_parents-theirs.ensures.alone
