use Rattle.std.proofs.Common.{◌≡◌, ◌*◌, ◌^◌, ◌≤◌, length, take}
use Rattle.std.specs.Io.KnownBytes.{Appends}
use Rattle.bao_text.specs.Texts.{joined}
use Rattle.bao_text.proofs.writer.write_texts.Given as goal

abbrev pub invariant-loop-text : goal.invariant-loop-text
invariant-loop-text g l = record {
  count : l.before ≡ length (joined (take l.text-index l.texts));
  bound : l.before ≤ 2 ^ 64 * l.text-index;
  written : Appends (g.W.Write.contents l.initial.out) (g.W.Write.contents l.out) (joined (take l.text-index l.texts));
}
