use Rattle.std.proofs.Common.{◌≡◌, take}
use Rattle.std.specs.Prelude.{is_some}
use Rattle.std.specs.List.{list_all}
use Rattle.bao_sums.specs.Each.{PrintsEach}
use Rattle.bao_sums.specs.Hashed.{paths_of}
use Rattle.bao_sums.specs.Kinds.{IsLookAt, kind_line}
use Rattle.bao_sums.proofs.info.info_files.Given as goal

-- the lines of the files so far were printed
abbrev pub invariant-items : goal.invariant-items
invariant-items g l =
    PrintsEach (IsLookAt (g.D.Disk.faultless l.disk) (g.D.Disk.at l.disk)) kind_line (take l.index (paths_of l.files))
    (g.O.Write.contents l.initial.out) (g.O.Write.contents l.out) (λ looks. l.whole ≡ list_all is_some looks)
