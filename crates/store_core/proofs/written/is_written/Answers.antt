use Rattle.std.proofs.Common.{◌≡◌, ◌+◌, ◌*◌, true, false, get_or, sym, ◌∙◌, arith}
use Rattle.std.proofs.lemmas.List.{get_or_past}
use Rattle.store_core.proofs.written.is_written.Goals as goal
use Rattle.store_core.proofs.written.is_written.Goals.{then-first-w-via-then-first-w, then-first-w-via-else-first-w+then-not-written-first}

pub returns-then-first-w : goal.returns-then-first-w
returns-then-first-w c = (
  λ h. cc,
  λ all.
      let word : get_or c.args.written.now (129 * c.args.chunk + c.loop-w.w) false ≡ true = all c.loop-w.w (omega arith) in
      elim c.then-first-w.branch [
        | then-first-w-via-then-first-w w ↦
            let none : get_or c.args.written.now (129 * c.args.chunk + c.loop-w.w) false ≡ false = get_or_past c.args.written.now (129 * c.args.chunk + c.loop-w.w) false w.if-first-w.true in
            let no : true ≡ false = sym word ∙ none in cc
        | then-first-w-via-else-first-w+then-not-written-first w ↦ let no : true ≡ false = sym word ∙ w.if-not-written-first.true in cc
      ],
)
