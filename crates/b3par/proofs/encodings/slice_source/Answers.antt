use Rattle.bao_text.specs.Choice.{of_slice}
use Rattle.b3par.proofs.encodings.slice_source.Goals as goal

pub returns-clause-all : goal.returns-clause-all
returns-clause-all g c = c.chosen_source.ensures.all (λ total. of_slice total c.args.start c.args.count) c.of_slice-choice.ensures

pub returns-clause-some : goal.returns-clause-some
returns-clause-some g c = c.chosen_source.ensures.some (λ total. of_slice total c.args.start c.args.count) c.of_slice-choice.ensures
