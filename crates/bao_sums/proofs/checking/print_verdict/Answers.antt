use Rattle.std.proofs.Common.{◌≡◌, ◌∙◌, ◌++◌, [], ℕ, List, Bool, if◌then◌else◌, ap, subst, sym}
use Rattle.bao_files.specs.Printed.{Prints}
use Rattle.bao_sums.specs.Checked.{verdict_line, verdict_text}
use Rattle.bao_sums.specs.Found.{sum_of}
use Rattle.bao_sums.specs.Sums.{shown}
use Rattle.bao_sums.proofs.checking.print_verdict.Goals as goal

pub returns-clause-prints : goal.returns-clause-prints
returns-clause-prints g c =
    let text : List ℕ = shown (sum_of c.args.line.now).path ++ verdict_text c.args.verdict in
    let line : verdict_line c.args.quiet (sum_of c.args.line.now) c.args.verdict ≡ text =
    ap (λ (b : Bool). if b then [] else text) (sym c.is_left_out.ensures ∙ c.if-is_left_out.false) in
    let put : c.in_ok-text.text.items ≡ text = c.in_ok-text.ensures ∙ ap (λ (path : List ℕ). shown path ++ verdict_text c.args.verdict) c.as_str.ensures.value in
    subst (λ (t : List ℕ). Prints t (g.O.Write.contents c.args.out.now) (g.O.Write.contents c.print_text.new.out) c.print_text.result)
    (c.as_slice.ensures.value ∙ put ∙ sym line) c.print_text.ensures.prints
