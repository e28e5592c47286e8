use Rattle.std.proofs.Common.{◌≡◌, List, Option, Some, None, Bor, ◌∙◌, sym, map}
use Rattle.clap.specs.Words.{Text, found_of}
use Rattle.std.specs.Prelude.{option_map}
use Rattle.clap.proofs.WalkLemmas.{raw_values-rows}
use Rattle.bao_request.specs.Requests.{Finds}
use Rattle.bao_request.proofs.reading.texts.Goals as goal

some_of : (o : Option (Bor (List (Bor Text)))) (r : Option (List Text)) → option_map (λ (s : Bor (List (Bor Text))). map (λ (v : Bor Text). v.now) s.now) o ≡ r
    → Finds (λ (texts : Bor (List (Bor Text))). r ≡ Some (map (λ (v : Bor Text). v.now) texts.now)) o
some_of None r h = λ texts is. let bad : None ≡ Some (map (λ (v : Bor Text). v.now) texts.now) = h ∙ is in cc
some_of (Some texts) r h = sym h

pub returns : goal.returns
returns c = some_of c.get_strs.result _ (c.get_strs.ensures ∙ raw_values-rows (found_of c.args.words.now) c.args.id.now)
