use Rattle.std.proofs.Common.{◌≡◌, ◌∙◌, ℕ, List, ap, subst, length, rules}
use Rattle.std.proofs.lemmas.List.{take_at}
use Rattle.b3tree.specs.Hashing.{stream}
use Rattle.bao_files.specs.Printed.{Prints, digits_line}
use Rattle.bao_files.proofs.digits.print_output.Goals as goal

pub returns-clause-prints : goal.returns-clause-prints
returns-clause-prints g c mode s holds =
    let asked : ℕ = c.args.len in
    let made = c.finalize_xof.ensures mode s holds in
    let len : length c.as_mut_slice.result.now ≡ asked = search rules in
    let filled : c.finalize_xof.new.out ≡ stream mode s c.args.at asked = made ∙ ap (stream mode s c.args.at) len in
    let size : length c.finalize_xof.new.out ≡ c.in_ok-output.output.len = search rules in
    let whole : c.as_slice.result.now ≡ c.finalize_xof.new.out = c.as_slice.ensures.value ∙ take_at c.finalize_xof.new.out _ c.in_ok-output.output.len size in
    subst
    (λ (xs : List ℕ). Prints (digits_line xs) (g.W.Write.contents c.args.out.now) (g.W.Write.contents c.print_digits.new.out) c.print_digits.result)
    (whole ∙ filled)
    c.print_digits.ensures.prints
