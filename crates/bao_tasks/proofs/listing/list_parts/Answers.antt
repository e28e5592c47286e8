use Rattle.std.proofs.Common.{◌≡◌, ◌∙◌, false, Result, Ok, Err, OnOk, is_err, sym}
use Rattle.std.specs.Io.KnownBytes.{Appends}
use Rattle.bao_tasks.specs.Listed.{lines_of_parts}
use Rattle.bao_tasks.proofs.Lists.{puts_lines}
use Rattle.bao_tasks.proofs.listing.list_parts.Goals as goal

of_no_fault : {X E : Type 0} (P : Type 0) (r : Result X E) → is_err r ≡ false → OnOk r P → P
of_no_fault P (Ok x) is p = p
of_no_fault P (Err e) is p = cc

where_ok : {X E : Type 0} (P Q : Type 0) (r : Result X E) → (P → Q) → OnOk r P → OnOk r Q
where_ok P Q (Ok x) follows p = follows p
where_ok P Q (Err e) follows p = tt

pub returns-clause-put : goal.returns-clause-put
returns-clause-put g c =
    let before = g.D.Disk.at c.args.disk.now in
    let empty = g.D.Draft.Write.contents c.in-Ok.out in
    let full = g.D.Draft.Write.contents c.write_parts.new.out in
    let lines = lines_of_parts c.args.parts.now in
    let written : Appends empty full lines =
    of_no_fault (Appends empty full lines) c.write_parts.result (sym c.is_err.ensures.value ∙ c.if-is_err.false) c.write_parts.ensures in
    where_ok _ _ c.finish.result (puts_lines before (g.D.Disk.at c.finish.new.self) c.args.path.now empty full lines c.in-Ok.ensures.known written) c.finish.ensures.put
