use Rattle.std.proofs.Common.{refl, ◌∙◌}
use Rattle.b3tree.specs.Flags.{derive_key_material}
use Rattle.b3tree.specs.Modes.{mode_with}
use Rattle.b3tree.proofs.SameMode.{same_mode}
use Rattle.b3tree.proofs.mode.Mode.from_context_key.Goals as goal

pub returns : goal.returns
returns c = same_mode c.words_of.result derive_key_material _ refl ∙ (λ i. mode_with (c.words_of.ensures i) derive_key_material refl)
