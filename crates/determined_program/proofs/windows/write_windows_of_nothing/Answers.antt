use Rattle.bao_windows.specs.Windows.{IsFrom, fixed_for}
use Rattle.determined_program.proofs.WindowBlobs.{nothing_written}
use Rattle.determined_program.proofs.windows.write_windows_of_nothing.Goals as goal

pub returns : goal.returns
returns g c =
    nothing_written (IsFrom c.args.wanted.now g.S.Source.contents g.S.Source.faultless c.args.sources.now) (fixed_for c.args.wanted.now) 0 (g.W.Write.contents c.args.out.now)
    (g.W.Write.contents c.write_windows.new.out) c.requires c.write_windows.ensures.begun
