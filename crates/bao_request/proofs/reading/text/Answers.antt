use Rattle.std.proofs.Common.{◌≡◌, Option, Some, None, Bor, ◌∙◌, sym}
use Rattle.std.specs.Option.{option_copied}
use Rattle.clap.specs.Words.{Text, found_of}
use Rattle.clap.proofs.WalkLemmas.{first_value-rows}
use Rattle.bao_request.specs.Requests.{Finds}
use Rattle.bao_request.proofs.reading.text.Goals as goal

some_of : (o : Option (Bor Text)) (r : Option Text) → option_copied o ≡ r → Finds (λ (text : Bor Text). r ≡ Some text.now) o
some_of None r h = λ text is. let bad : None ≡ Some text.now = h ∙ is in cc
some_of (Some text) r h = sym h

pub returns-clause-value : goal.returns-clause-value
returns-clause-value c = c.get_str.ensures ∙ first_value-rows (found_of c.args.words.now) c.args.id.now

pub returns-clause-found : goal.returns-clause-found
returns-clause-found c = some_of c.get_str.result _ (c.get_str.ensures ∙ first_value-rows (found_of c.args.words.now) c.args.id.now)
