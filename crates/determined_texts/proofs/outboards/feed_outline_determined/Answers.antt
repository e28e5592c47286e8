use Rattle.determined_texts.proofs.Pushed.{outlines_agree}
use Rattle.determined_texts.proofs.outboards.feed_outline_determined.Goals as goal

pub returns : goal.returns
returns c =
    outlines_agree c.args.a.now c.args.b.now c.outline.result c.outline-2.result c.requires
    (record { accepted = c.outline.ensures.accepted; outline = c.outline.ensures.outline; fault = c.outline.ensures.fault })
    (record { accepted = c.outline-2.ensures.accepted; outline = c.outline-2.ensures.outline; fault = c.outline-2.ensures.fault })
