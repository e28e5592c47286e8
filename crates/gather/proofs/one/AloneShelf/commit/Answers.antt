use Rattle.gather.proofs.Common.{piece_of, fixed_of}
use Rattle.gather.proofs.Alone.{commit_claims, commit_gains}
use Rattle.gather.proofs.Knowing.{commit_all, commit_held, commit_keeps}
use Rattle.gather.proofs.one.AloneShelf.commit.Goals as goal

pub returns-clause-gained : goal.returns-clause-gained
returns-clause-gained c =
    commit_gains c.args.store.now c.commit.new.self c.args.group (piece_of (fixed_of c.args.store.now).base c.args.piece.now) c.commit.result c.commit.ensures.ok c.commit.ensures.err

pub returns-clause-claims : goal.returns-clause-claims
returns-clause-claims c =
    commit_claims c.args.store.now c.commit.new.self c.args.group (piece_of (fixed_of c.args.store.now).base c.args.piece.now) c.commit.result c.commit.ensures.ok c.commit.ensures.err

pub returns-clause-keeps : goal.returns-clause-keeps
returns-clause-keeps c =
    commit_keeps c.args.store.now c.commit.new.self c.args.group (piece_of (fixed_of c.args.store.now).base c.args.piece.now) c.commit.result c.commit.ensures.ok c.commit.ensures.err

pub returns-clause-all : goal.returns-clause-all
returns-clause-all c = commit_all c.args.store.now c.commit.new.self c.args.group (piece_of (fixed_of c.args.store.now).base c.args.piece.now) c.commit.result c.commit.ensures.ok

pub returns-clause-held : goal.returns-clause-held
returns-clause-held c = commit_held c.args.store.now c.commit.new.self c.args.group (piece_of (fixed_of c.args.store.now).base c.args.piece.now) c.commit.result c.commit.ensures.ok
