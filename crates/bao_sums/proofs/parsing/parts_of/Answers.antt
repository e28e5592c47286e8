use Rattle.std.proofs.Common.{◌∙◌, ◌≤◌, List, ℕ, length, take, drop, ap, subst, sym, arith}
use Rattle.bao_sums.proofs.Written.{behind, behind_len, digits_behind, path_behind}
use Rattle.bao_sums.proofs.parsing.parts_of.Goals as goal

pub returns-then-rest-lt-BEFORE_PATH : goal.returns-then-rest-lt-BEFORE_PATH
returns-then-rest-lt-BEFORE_PATH c sum is =
    let cut = c.unmarked-is_marked in
    let parts = behind c.args.line.now sum cut.result.0 cut.result.1.now is cut.ensures.marked cut.ensures.plain in
    let long : 66 ≤ length cut.result.1.now = subst (λ (t : List ℕ). 66 ≤ length t) (sym parts.1) (behind_len sum is.digest_len) in
    omega (arith, long, c.if-rest-lt-BEFORE_PATH.true)

pub returns : goal.returns
returns c sum is =
    let cut = c.unmarked-is_marked in
    let parts = behind c.args.line.now sum cut.result.0 cut.result.1.now is cut.ensures.marked cut.ensures.plain in (
      parts.0,
      c.split_at-2.ensures.front ∙ ap (take 64) (c.split_at.ensures.front ∙ ap (take 66) parts.1) ∙ digits_behind sum is.digest_len,
      c.split_at.ensures.back ∙ ap (drop 66) parts.1 ∙ path_behind sum is.digest_len,
    )
