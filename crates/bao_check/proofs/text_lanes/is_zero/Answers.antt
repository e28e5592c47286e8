use Rattle.std.proofs.lemmas.Bool.{eqb-true}
use Rattle.std.proofs.lemmas.Nat.{le_or_l, le_or_r}
use Rattle.bao_check.proofs.Differences.{fold_zero}
use Rattle.bao_check.proofs.text_lanes.is_zero.Goals as goal

pub returns : goal.returns
returns c = λ none j h. (fold_zero _ le_or_l le_or_r 0 c.args.a (eqb-true _ _ none)).1 j
