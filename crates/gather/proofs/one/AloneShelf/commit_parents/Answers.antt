use Rattle.gather.proofs.Alone.{parents_claims, parents_gain}
use Rattle.gather.proofs.Knowing.{parents_held, parents_keep, parents_refused}
use Rattle.gather.proofs.one.AloneShelf.commit_parents.Goals as goal

pub returns-clause-gained : goal.returns-clause-gained
returns-clause-gained c =
    parents_gain c.args.store.now c.commit_parents.new.self c.args.group c.args.piece.now c.commit_parents.result c.commit_parents.ensures.ok c.commit_parents.ensures.refused

pub returns-clause-claims : goal.returns-clause-claims
returns-clause-claims c =
    parents_claims c.args.store.now c.commit_parents.new.self c.args.group c.args.piece.now c.commit_parents.result c.commit_parents.ensures.ok c.commit_parents.ensures.refused

pub returns-clause-keeps : goal.returns-clause-keeps
returns-clause-keeps c =
    parents_keep c.args.store.now c.commit_parents.new.self c.args.group c.args.piece.now c.commit_parents.result c.commit_parents.ensures.ok c.commit_parents.ensures.refused

pub returns-clause-parents : goal.returns-clause-parents
returns-clause-parents c =
    parents_held c.args.store.now c.commit_parents.new.self c.args.group c.args.piece.now c.commit_parents.result c.commit_parents.ensures.ok c.commit_parents.ensures.all

pub returns-clause-refused : goal.returns-clause-refused
returns-clause-refused c =
    parents_refused c.args.store.now c.args.piece.now c.commit_parents.result c.commit_parents.ensures.other_root c.commit_parents.ensures.other_length c.commit_parents.ensures.never
