use Rattle.std.proofs.Common.{◌≡◌, sym, ◌∙◌}
use Rattle.determined_program.proofs.Readers.{answers_agree}
use Rattle.determined_program.proofs.reading.read_input_determined.Goals as goal

pub returns : goal.returns
returns g c =
    answers_agree (λ a b. a.items ≡ b.items) (λ all x. x.items ≡ all) (λ s x y p q. p ∙ sym q) (g.R.Read.remaining c.args.ours.now) (g.S.Read.remaining c.args.theirs.now)
    c.read_input-one.result c.read_input-other.result c.requires c.read_input-one.ensures.all c.read_input-other.ensures.all
