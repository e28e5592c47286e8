use Rattle.bao_text.specs.Choice.{of_combined}
use Rattle.b3par.proofs.encodings.combined_source.Goals as goal

pub returns-clause-all : goal.returns-clause-all
returns-clause-all g c = c.chosen_source.ensures.all of_combined c.of_combined-choice.ensures

pub returns-clause-some : goal.returns-clause-some
returns-clause-some g c = c.chosen_source.ensures.some of_combined c.of_combined-choice.ensures
