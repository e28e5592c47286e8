use Rattle.determined_stores.proofs.Agreeing.{parents_agree, parents_pin}
use Rattle.determined_stores.proofs.store.commit_parents_determined.Goals as goal

pub returns : goal.returns
returns c =
    parents_agree c.args.a.now c.commit_parents.new.self c.args.b.now c.commit_parents-2.new.self c.args.group c.args.piece.now c.commit_parents.result c.commit_parents-2.result c.requires
    c.commit_parents.ensures.ok c.commit_parents-2.ensures.ok c.commit_parents.ensures.all c.commit_parents-2.ensures.all
    (parents_pin c.args.a.now c.args.b.now c.args.piece.now c.commit_parents.result c.commit_parents-2.result c.requires c.commit_parents.ensures.other_root c.commit_parents-2.ensures.other_root
    c.commit_parents.ensures.other_length c.commit_parents-2.ensures.other_length c.commit_parents.ensures.never c.commit_parents-2.ensures.never)
