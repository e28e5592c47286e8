use Rattle.std.proofs.Common.{◌∙◌, ◌++◌, refl, subst, sym, take}
use Rattle.std_alloc.specs.Box.{with_value}
use Rattle.bao_check.specs.declared.checking.Checking.{Checking}
use Rattle.bao_check.specs.Checking.{HasTakenAs}
use Rattle.berylwool.proofs.Feeds.{feed_has, has_feed}
use Rattle.berylwool.proofs.feeding.bw_feed_take.Goals as goal

pub returns-clause-before : goal.returns-clause-before
returns-clause-before c = λ wrong low task had it.
    let fed = feed_has (λ check. HasTakenAs check task had) c.in-Some.held.value c.args.feed.now.held c.in-Feed.check (sym c.deref_mut.ensures.value ∙ c.in-Feed.is) c.in-Some.ensures.held it in
    let got = c.taken_many-status.ensures.before wrong task had (subst (λ (check : Checking). HasTakenAs check task had) (sym c.deref_mut-2.ensures.value) fed) in
    (got.0, got.1, has_feed (λ check. HasTakenAs check task (had ++ take got.0 c.args.bytes.now)) _ c.put-2.new.handle.held (with_value c.in-Feed.check c.taken_many-status.new.check) refl (sym c.put-2.ensures) got.2)
