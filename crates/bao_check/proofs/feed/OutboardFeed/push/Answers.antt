use Rattle.std.proofs.Common.{◌≡◌, ℕ, List, ◌++◌, sym, subst, ◌∙◌}
use Rattle.bao_check.specs.Feeds.{feed_mode, feed_root, feed_text}
use Rattle.bao_check.specs.Verified.{AreGoodFirst, IsGoodSoFar}
use Rattle.bao_check.proofs.Verifying.{good_so_far, still_good}
use Rattle.bao_check.proofs.feed.OutboardFeed.push.Goals as goal

pub verify-requires-clause-good : goal.verify-requires-clause-good
verify-requires-clause-good c =
    let feed = c.args.self.now in
    let is : c.as_slice.result.now ≡ feed_text feed ++ c.args.bytes.now = c.as_slice.ensures.value ∙ c.in-Ok.ensures.items in
    subst (λ (s : List ℕ). AreGoodFirst (feed_mode feed) (feed_root feed) s feed.verified) (sym is)
    (still_good (feed_mode feed) (feed_root feed) (feed_text feed) c.args.bytes.now feed.verified feed.known).good

pub returns-in-Ok-verify-clause-good : goal.returns-in-Ok-verify-clause-good
returns-in-Ok-verify-clause-good c =
    let feed = c.args.self.now in
    let is : c.as_slice.result.now ≡ feed_text feed ++ c.args.bytes.now = c.as_slice.ensures.value ∙ c.in-Ok.ensures.items in
    subst (IsGoodSoFar (feed_mode feed) (feed_root feed)) is
    (good_so_far (feed_mode feed) (feed_root feed) c.as_slice.result.now c.in-Ok-verify.verified c.in-Ok-verify.ensures.ok)
