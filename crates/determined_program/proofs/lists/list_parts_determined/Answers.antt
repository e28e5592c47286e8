use Rattle.std.proofs.Common.{Result, Ok, Err, OnOk}
use Rattle.bao_tasks.specs.Listed.{lines_of_parts}
use Rattle.determined_program.proofs.OnDisks.{both_kept, puts_same}
use Rattle.determined_program.proofs.lists.list_parts_determined.Goals as goal

both_done : {X Y E F : Type 0} (P Q S : Type 0) (r : Result X E) (s : Result Y F) → OnOk r P → OnOk s Q → (P → Q → S) → OnOk r (OnOk s S)
both_done P Q S (Ok x) (Ok y) p q follows = follows p q
both_done P Q S (Ok x) (Err f) p q follows = tt
both_done P Q S (Err e) s p q follows = tt

pub returns-clause-put : goal.returns-clause-put
returns-clause-put g c =
    both_done _ _ _ c.list_parts.result c.list_parts-2.result c.list_parts.ensures.put c.list_parts-2.ensures.put
    (puts_same (g.D.Disk.at c.args.ours.now) (g.E.Disk.at c.args.theirs.now) (g.D.Disk.at c.list_parts.new.disk) (g.E.Disk.at c.list_parts-2.new.disk) c.requires c.args.path.now
    (lines_of_parts c.args.parts.now))

pub returns-clause-kept : goal.returns-clause-kept
returns-clause-kept g c =
    both_kept (g.D.Disk.at c.args.ours.now) (g.E.Disk.at c.args.theirs.now) (g.D.Disk.at c.list_parts.new.disk) (g.E.Disk.at c.list_parts-2.new.disk) c.requires
    c.list_parts.result c.list_parts-2.result c.list_parts.ensures.kept c.list_parts-2.ensures.kept
