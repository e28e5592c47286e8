use Rattle.determined_program.proofs.Kept.{both_keep, same_status}
use Rattle.determined_program.proofs.commands.command_determined.Goals as goal

pub returns-clause-refused : goal.returns-clause-refused
returns-clause-refused g c = λ refused. same_status c.command.result c.command-2.result (c.command.ensures.refused refused) (c.command-2.ensures.refused refused)

pub returns-clause-kept : goal.returns-clause-kept
returns-clause-kept g c = λ some now done also.
    both_keep (g.O.Write.contents c.args.ours.now) (g.O.Write.contents c.args.theirs.now) (g.O.Write.contents c.command.new.out) (g.O.Write.contents c.command-2.new.out)
    c.requires.streams (c.command.ensures.fault c.requires.one some now) (c.command-2.ensures.fault c.requires.one done also)
