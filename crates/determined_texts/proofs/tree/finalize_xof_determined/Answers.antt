use Rattle.std.proofs.Common.{sym, ap, ◌∙◌}
use Rattle.b3tree.specs.Hashing.{stream}
use Rattle.determined_texts.proofs.tree.finalize_xof_determined.Goals as goal

pub returns : goal.returns
returns c mode s a b =
    c.finalize_xof.ensures mode s a ∙ ap (λ n. stream mode s c.args.at n) (sym c.requires.same) ∙ sym (c.finalize_xof-2.ensures mode s b)
