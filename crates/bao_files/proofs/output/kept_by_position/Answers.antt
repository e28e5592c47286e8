use Rattle.std.proofs.Common.{ℕ, List, IfSome, sym, subst}
use Rattle.bao_files.specs.Encoded.{IsMadeEncoding}
use Rattle.bao_text.specs.declared.kinds.Encoding.TheVariants.{Outboard}
use Rattle.bao_files.proofs.output.kept_by_position.Goals as goal

pub returns-clause-all : goal.returns-clause-all
returns-clause-all g c =
    subst (λ (text : List ℕ). IfSome (g.I.Source.contents c.args.input.now) (λ s. IsMadeEncoding c.args.mode.now Outboard c.args.size s c.in_ok-hash.hash.0 text))
    (sym c.in_ok-text.ensures) c.in_ok-hash.ensures.all
