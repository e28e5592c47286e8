use Rattle.std.proofs.Common.{◌≤◌, ℕ, List, length, sym, ap, subst, ◌∙◌, arith}
use Rattle.bao_text.specs.Cut.{claimed}
use Rattle.bao_check.specs.declared.fault.CheckFault.TheVariants.{Short}
use Rattle.bao_check.specs.Accepted.{IsAccepted, outboard_nodes}
use Rattle.bao_check.specs.Feeds.{feed_mode, feed_root, feed_text}
use Rattle.bao_check.specs.Verified.{nth_parent_at}
use Rattle.bao_check.proofs.Laws.{first_fault-not_accepted}
use Rattle.bao_check.proofs.Verifying.{short_next, whole_accepted}
use Rattle.bao_check.proofs.feed.OutboardFeed.outline.Goals as goal

pub returns-then-self-chunk_count-clause-accepted : goal.returns-then-self-chunk_count-clause-accepted
returns-then-self-chunk_count-clause-accepted c =
    let feed = c.args.self.now in
    let long : 8 ≤ length (feed_text feed) = omega (arith, c.if-text-lt-LENGTH_LEN.false, c.as_slice-text.ensures.len) in
    let claims = c.claimed.ensures ∙ ap claimed c.as_slice-text.ensures.value in
    let short = short_next (feed_mode feed) (feed_root feed) (feed_text feed) feed.verified feed.known long (omega (arith, claims, c.chunk_count.ensures, c.if-self-chunk_count.true)) in (
      λ ok. cc,
      λ accepted. absurd (first_fault-not_accepted (feed_mode feed) (feed_root feed) (feed_text feed) (outboard_nodes (feed_text feed)) (Short (nth_parent_at feed.verified)) short accepted),
    )

pub returns-then-self-chunk_count-clause-fault : goal.returns-then-self-chunk_count-clause-fault
returns-then-self-chunk_count-clause-fault c =
    let feed = c.args.self.now in
    let long : 8 ≤ length (feed_text feed) = omega (arith, c.if-text-lt-LENGTH_LEN.false, c.as_slice-text.ensures.len) in
    let claims = c.claimed.ensures ∙ ap claimed c.as_slice-text.ensures.value in
    short_next (feed_mode feed) (feed_root feed) (feed_text feed) feed.verified feed.known long (omega (arith, claims, c.chunk_count.ensures, c.if-self-chunk_count.true))

pub new-requires : goal.new-requires
new-requires c =
    let feed = c.args.self.now in
    let long : 8 ≤ length (feed_text feed) = omega (arith, c.if-text-lt-LENGTH_LEN.false, c.as_slice-text.ensures.len) in
    let claims = c.claimed.ensures ∙ ap claimed c.as_slice-text.ensures.value in
    subst (λ (s : List ℕ). IsAccepted (feed_mode feed) (feed_root feed) s (outboard_nodes s)) (sym c.as_slice-text.ensures.value)
    (whole_accepted (feed_mode feed) (feed_root feed) (feed_text feed) feed.verified feed.known long (omega (arith, claims, c.chunk_count.ensures, c.if-self-chunk_count.false)))
