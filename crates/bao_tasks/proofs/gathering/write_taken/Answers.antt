use Rattle.bao_files.specs.Disks.{IsKnown}
use Rattle.holders.specs.Lists.{IsFromSource}
use Rattle.bao_tasks.specs.FromFiles.{fixed_of}
use Rattle.bao_tasks.specs.Givens.{shown_contents, shown_faultless}
use Rattle.bao_tasks.specs.TakenFiles.{HasSound}
use Rattle.bao_tasks.proofs.Rewritten.{as_it_is, if_sure}
use Rattle.bao_tasks.proofs.gathering.write_taken.Goals as goal

pub returns-else-is_replaced-clause-gathered : goal.returns-else-is_replaced-clause-gathered
returns-else-is_replaced-clause-gathered g c =
    let how = c.args.how.now in
    let contents = shown_contents {P = g.row.P.Denot} g.S.Source.contents in
    let faultless = shown_faultless {P = g.row.P.Denot} g.S.Source.faultless in
    let items = c.args.taken.now.givens.items in
    if_sure (IsFromSource how.wanted.form contents faultless items) how.wanted.form (fixed_of how) how (HasSound contents faultless items)
    (IsKnown (g.D.Disk.at c.args.disk.now c.args.path.now)) how.encode (g.D.Draft.Write.contents c.args.out.now) (g.D.Draft.Write.contents c.write_held.new.out) c.write_held.result c.write_held.ensures.gathered

pub returns-then-is_replaced-2-clause-gathered : goal.returns-then-is_replaced-2-clause-gathered
returns-then-is_replaced-2-clause-gathered g c =
    let how = c.args.how.now in
    let contents = shown_contents {P = g.row.P.Denot} g.S.Source.contents in
    let faultless = shown_faultless {P = g.row.P.Denot} g.S.Source.faultless in
    let items = c.args.taken.now.givens.items in
    as_it_is (IsFromSource how.wanted.form contents faultless items) how.wanted.form (fixed_of how) how (HasSound contents faultless items)
    (IsKnown (g.D.Disk.at c.args.disk.now c.args.path.now)) how.encode (g.D.Draft.Write.contents c.args.out.now) (g.D.Draft.Write.contents c.gather_into.new.out) c.gather_into.result c.if-how.false c.gather_into.ensures.gathered

pub returns-else-is_replaced-2-clause-gathered : goal.returns-else-is_replaced-2-clause-gathered
returns-else-is_replaced-2-clause-gathered g c =
    let how = c.args.how.now in
    let contents = shown_contents {P = g.row.P.Denot} g.S.Source.contents in
    let faultless = shown_faultless {P = g.row.P.Denot} g.S.Source.faultless in
    let items = c.args.taken.now.givens.items in
    if_sure (IsFromSource how.wanted.form contents faultless items) how.wanted.form (fixed_of how) how (HasSound contents faultless items)
    (IsKnown (g.D.Disk.at c.args.disk.now c.args.path.now)) how.encode (g.D.Draft.Write.contents c.args.out.now) (g.D.Draft.Write.contents c.write_held-else-is_replaced-2.new.out) c.write_held-else-is_replaced-2.result c.write_held-else-is_replaced-2.ensures.gathered
