use Rattle.std.proofs.Common.{◌≡◌}
use Rattle.bao_text.specs.Texts.{joined}
use Rattle.bao_files.proofs.output.in_one.Given as goal

abbrev pub invariant-texts : goal.invariant-texts
invariant-texts l = l.all.items ≡ joined l.yielded
