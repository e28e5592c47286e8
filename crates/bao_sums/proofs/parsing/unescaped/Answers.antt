use Rattle.std.proofs.Common.{◌≡◌, ◌∙◌, ◌++◌, ◌≤◌, ℕ, List, [], length, drop, false, ap, sym, arith}
use Rattle.std.proofs.lemmas.List.{append-nil, drop_all}
use Rattle.bao_sums.proofs.Escapes.{none_left, path_back, unescaped_from}
use Rattle.bao_sums.proofs.parsing.unescaped.Goals as goal

pub returns : goal.returns
returns c path is =
    let items : List ℕ = c.bytes.bytes.items in
    let over : length c.args.written.now ≤ c.bytes.byte-index = omega (arith, c.bytes-test.false) in
    let rest : unescaped_from c.bytes.is_second (drop c.bytes.byte-index c.args.written.now) ≡ [] =
    ap (unescaped_from c.bytes.is_second) (drop_all c.bytes.byte-index c.args.written.now over) ∙ none_left c.bytes.is_second in
    sym (append-nil items) ∙ ap (λ (t : List ℕ). items ++ t) (sym rest) ∙ c.bytes.invariant ∙ ap (unescaped_from false) is ∙ path_back path
