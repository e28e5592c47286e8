use Rattle.std.proofs.Common.{◌≡◌, ◌∙◌, arith}
use Rattle.std.proofs.lemmas.List.{length-replicate, length-set}
use Rattle.std.proofs.lemmas.List.Edits.{fill_by_more}
use Rattle.std.proofs.lemmas.List.FromFn.{fill_by_all}
use Rattle.b3tree.specs.Bytes.{word_at}
use Rattle.b3tree.proofs.bytes.words_of.Goals as goal

pub words-init : goal.words-init
words-init g c = (length-replicate _ _, λ k h. absurd (omega arith))

pub words-preserved : goal.words-preserved
words-preserved g c =
    let word = word_at c.args.bytes.now in (
      length-set _ _ _ ∙ c.words.invariant.0,
      rw c.word_at.ensures (fill_by_more word c.words.words c.words.i 0 (omega arith) c.words.invariant.1),
    )

pub returns : goal.returns
returns g c =
    let done : c.words.i ≡ g.row.N = omega arith in
    fill_by_all (word_at c.args.bytes.now) c.words.words g.row.N 0 c.words.invariant.0 (rw done at c.words.invariant.1)
