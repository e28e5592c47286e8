use Rattle.std.proofs.Common.{refl, ◌∙◌}
use Rattle.b3tree.specs.Flags.{keyed_hash}
use Rattle.b3tree.specs.Modes.{mode_with}
use Rattle.b3tree.proofs.SameMode.{same_mode}
use Rattle.b3tree.proofs.mode.Mode.keyed.Goals as goal

pub returns : goal.returns
returns c = same_mode c.words_of.result keyed_hash _ refl ∙ (λ i. mode_with (c.words_of.ensures i) keyed_hash refl)
