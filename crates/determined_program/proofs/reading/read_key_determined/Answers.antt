use Rattle.std.proofs.Common.{◌≡◌}
use Rattle.bao_files.specs.Keys.{GivesKey}
use Rattle.determined_program.proofs.Keys.{one_key}
use Rattle.determined_program.proofs.Readers.{answers_agree}
use Rattle.determined_program.proofs.reading.read_key_determined.Goals as goal

pub returns-clause-key : goal.returns-clause-key
returns-clause-key g c =
    answers_agree (λ a b. a ≡ b) GivesKey one_key (g.R.Read.remaining c.args.ours.now) (g.S.Read.remaining c.args.theirs.now) c.read_key-one.result c.read_key-other.result c.requires c.read_key-one.ensures.key c.read_key-other.ensures.key
