use Rattle.determined_texts.proofs.Same.{same_fits}
use Rattle.determined_texts.proofs.checks.bare_fits_determined.Goals as goal

pub returns : goal.returns
returns c = same_fits c.args.a.now c.args.b.now c.args.first c.args.count c.requires c.bare_fits.result c.bare_fits-2.result c.bare_fits.ensures c.bare_fits-2.ensures
