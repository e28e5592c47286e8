use Rattle.std.proofs.Common.{◌∙◌, ◌++◌, subst, sym}
use Rattle.bao_check.specs.Waiting.{IsAcceptedAs}
use Rattle.berylwool.specs.Feeds.{IsTextRefused, OfTaken}
use Rattle.berylwool.proofs.Feeds.{has_feed}
use Rattle.berylwool.proofs.feeding.bw_feed_finish.Goals as goal

pub returns-clause-accepted : goal.returns-clause-accepted
returns-clause-accepted c = λ ok.
    has_feed (OfTaken (λ task taken. IsAcceptedAs task (taken ++ c.args.rest.now))) c.in-Some.held.value c.args.feed.now.held c.in-Feed.check
    (sym c.deref_mut.ensures.value ∙ c.in-Feed.is) c.in-Some.ensures.held (subst (OfTaken (λ task taken. IsAcceptedAs task (taken ++ c.args.rest.now))) c.deref.ensures (c.finished-status.ensures.accepted ok))

pub returns-clause-fault : goal.returns-clause-fault
returns-clause-fault c = λ wrong low.
    has_feed (OfTaken (λ task taken. IsTextRefused task (taken ++ c.args.rest.now) c.finished-status.result c.finished-status.new.at)) c.in-Some.held.value
    c.args.feed.now.held c.in-Feed.check (sym c.deref_mut.ensures.value ∙ c.in-Feed.is) c.in-Some.ensures.held (subst (OfTaken (λ task taken. IsTextRefused task (taken ++ c.args.rest.now) c.finished-status.result c.finished-status.new.at)) c.deref.ensures (c.finished-status.ensures.fault wrong low))
