use Rattle.store_core.specs.Slots.{caller}
use Rattle.store_core.specs.Stores.{fixed_of}
use Rattle.determined_stores.proofs.Agreeing.{commit_pins, commits_agree}
use Rattle.determined_stores.proofs.store.commit_determined.Goals as goal

pub returns : goal.returns
returns c =
    commits_agree c.args.a.now c.commit.new.self c.args.b.now c.commit-2.new.self (caller c.args.seat) c.args.group c.args.piece.now c.commit.result c.commit-2.result c.requires
    c.commit.ensures.ok c.commit-2.ensures.ok
    (commit_pins (fixed_of c.args.a.now) (fixed_of c.args.b.now) c.args.piece.now c.commit.result c.commit-2.result c.requires.fixed c.commit.ensures.other_root c.commit-2.ensures.other_root
    c.commit.ensures.never c.commit-2.ensures.never c.commit.ensures.never_length c.commit-2.ensures.never_length)
