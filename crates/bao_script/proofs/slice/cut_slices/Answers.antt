use Rattle.std.proofs.Common.{length}
use Rattle.bao_script.proofs.Slicing.{names_at}
use Rattle.bao_script.proofs.slice.cut_slices.Goals as goal

pub push_slice-requires : goal.push_slice-requires
push_slice-requires c = names_at (length c.args.files.now) c.args.lines.now c.loop-line.line-index _ c.requires c.loop-line-test.true
