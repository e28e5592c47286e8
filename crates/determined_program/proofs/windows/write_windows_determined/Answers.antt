use Rattle.bao_windows.specs.Windows.{IsFrom}
use Rattle.determined_program.proofs.WindowBlobs.{blobs_agree, had_agree, had_out}
use Rattle.determined_program.proofs.windows.write_windows_determined.Goals as goal

pub returns-clause-same : goal.returns-clause-same
returns-clause-same g c =
    blobs_agree (IsFrom c.args.wanted.now g.S.Source.contents g.S.Source.faultless c.args.sources.now) (IsFrom c.args.other.now g.T.Source.contents g.T.Source.faultless c.args.other_sources.now)
    c.args.wanted.now c.args.other.now c.args.capacity c.args.other_capacity (g.V.Write.contents c.args.ours.now) (g.W.Write.contents c.args.theirs.now)
    (g.V.Write.contents c.write_windows.new.out) (g.W.Write.contents c.write_windows-2.new.out) c.write_windows.result c.write_windows-2.result c.requires.root c.requires.mode c.requires.same
    c.write_windows.ensures.blob c.write_windows-2.ensures.blob

pub returns-clause-had : goal.returns-clause-had
returns-clause-had g c = λ blob ours theirs.
    had_agree (IsFrom c.args.wanted.now g.S.Source.contents g.S.Source.faultless c.args.sources.now) (IsFrom c.args.other.now g.T.Source.contents g.T.Source.faultless c.args.other_sources.now)
    c.args.wanted.now c.args.other.now blob (g.V.Write.contents c.args.ours.now) (g.W.Write.contents c.args.theirs.now)
    (g.V.Write.contents c.write_windows.new.out) (g.W.Write.contents c.write_windows-2.new.out) c.write_windows.result c.write_windows-2.result c.requires.same
    (had_out c.args.wanted.now g.S.Source.contents g.S.Source.faultless c.args.sources.now c.args.capacity blob (g.V.Write.contents c.args.ours.now) (g.V.Write.contents c.write_windows.new.out)
    c.write_windows.result ours (λ are. c.write_windows.ensures.covered are blob) (c.write_windows.ensures.beside blob))
    (had_out c.args.other.now g.T.Source.contents g.T.Source.faultless c.args.other_sources.now c.args.other_capacity blob (g.W.Write.contents c.args.theirs.now) (g.W.Write.contents c.write_windows-2.new.out)
    c.write_windows-2.result theirs (λ are. c.write_windows-2.ensures.covered are blob) (c.write_windows-2.ensures.beside blob))
