use Rattle.std.proofs.Common.{[], ◌∙◌, refl, sym, arith}
use Rattle.b3tree.proofs.Subtrees.{whole_subtrees-nil}
use Rattle.b3tree.proofs.hasher.Hasher.new.Goals as goal

pub returns-clause-splits : goal.returns-clause-splits
returns-clause-splits c = record {
  same_mode = refl;
  chunks = refl;
  stack = c.new.ensures ∙ sym (whole_subtrees-nil 54 c.args.mode.now 0);
  last_len = refl;
  buffer = refl;
}

pub returns-clause-holds : goal.returns-clause-holds
returns-clause-holds c = record { earlier = []; last = []; whole = refl; splits = returns-clause-splits c; ends = λ h. absurd (omega arith) }
