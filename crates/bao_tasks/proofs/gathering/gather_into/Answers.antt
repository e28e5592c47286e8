use Rattle.std.proofs.Common.{Ok, Err, refl}
use Rattle.bao_windows.specs.declared.fault.WindowsFault.TheVariants as windows
use Rattle.bao_tasks.specs.Givens.{shown_contents, shown_faultless}
use Rattle.bao_tasks.proofs.FromFiles.{same_err}
use Rattle.bao_tasks.proofs.Windowed.{gathered_by_windows}
use Rattle.bao_tasks.proofs.gathering.gather_into.Goals as goal

pub returns-in-Ok-clause-gathered : goal.returns-in-Ok-clause-gathered
returns-in-Ok-clause-gathered g c =
    gathered_by_windows (shown_contents g.S.Source.contents) (shown_faultless g.S.Source.faultless) c.as_slice-givens.result.now c.args.taken.now.givens.items c.args.how.now c.args.path c.most_chunks.result (g.W.Write.contents c.args.out.now) (g.W.Write.contents c.write_windows.new.out) c.write_windows.result (Ok c.in-Ok.count) c.as_slice-givens.ensures.value
    c.in-Ok.is c.most_chunks.ensures.fits c.most_chunks.ensures.most c.most_chunks.ensures.room
    c.write_windows.ensures.blob c.write_windows.ensures.none c.write_windows.ensures.too_long (c.write_windows.ensures.available, c.write_windows.ensures.copied, c.write_windows.ensures.covered, c.write_windows.ensures.beside)

pub returns-in-Err-Gather-clause-gathered : goal.returns-in-Err-Gather-clause-gathered
returns-in-Err-Gather-clause-gathered g c =
    gathered_by_windows (shown_contents g.S.Source.contents) (shown_faultless g.S.Source.faultless) c.as_slice-givens.result.now c.args.taken.now.givens.items c.args.how.now c.args.path c.most_chunks.result (g.W.Write.contents c.args.out.now) (g.W.Write.contents c.write_windows.new.out) c.write_windows.result (Err (windows.Gather c.in-Err-Gather.fault)) c.as_slice-givens.ensures.value
    (same_err c.write_windows.result c.in-Err-Gather.field-0 (windows.Gather c.in-Err-Gather.fault) c.in-Err-Gather.is c.in-Err-Gather.field-0-is) c.most_chunks.ensures.fits c.most_chunks.ensures.most c.most_chunks.ensures.room
    c.write_windows.ensures.blob c.write_windows.ensures.none c.write_windows.ensures.too_long (c.write_windows.ensures.available, c.write_windows.ensures.copied, c.write_windows.ensures.covered, c.write_windows.ensures.beside)

pub returns-in-Err-Write-clause-gathered : goal.returns-in-Err-Write-clause-gathered
returns-in-Err-Write-clause-gathered g c =
    gathered_by_windows (shown_contents g.S.Source.contents) (shown_faultless g.S.Source.faultless) c.as_slice-givens.result.now c.args.taken.now.givens.items c.args.how.now c.args.path c.most_chunks.result (g.W.Write.contents c.args.out.now) (g.W.Write.contents c.write_windows.new.out) c.write_windows.result (Err windows.Write) c.as_slice-givens.ensures.value
    (same_err c.write_windows.result c.in-Err-Write.field-0 windows.Write c.in-Err-Write.is c.in-Err-Write.field-0-is) c.most_chunks.ensures.fits c.most_chunks.ensures.most c.most_chunks.ensures.room
    c.write_windows.ensures.blob c.write_windows.ensures.none c.write_windows.ensures.too_long (c.write_windows.ensures.available, c.write_windows.ensures.copied, c.write_windows.ensures.covered, c.write_windows.ensures.beside)
