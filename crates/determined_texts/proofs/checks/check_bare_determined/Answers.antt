use Rattle.determined_texts.proofs.Same.{bares_agree, same_chunks}
use Rattle.determined_texts.proofs.checks.check_bare_determined.Goals as goal

pub returns : goal.returns
returns c =
    let one = c.check_bare.ensures in
    let other = c.check_bare-2.ensures in
    bares_agree c.args.a.now c.args.b.now c.args.first c.args.count c.args.chunks.now c.requires.same c.check_bare.result c.check_bare-2.result one.accepted other.accepted one.piece other.piece one.fault other.fault

pub check_bare-requires-2 : goal.check_bare-requires-2
check_bare-requires-2 c = same_chunks c.args.a.now c.args.b.now c.args.first c.args.count c.requires.same c.requires.chunks
