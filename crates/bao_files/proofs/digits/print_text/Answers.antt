use Rattle.std.proofs.Common.{◌≡◌, ℕ, List, length, take, sym, subst, rules, arith}
use Rattle.std.proofs.KnownBytes.{Appends-kept}
use Rattle.std.proofs.lemmas.List.{take_all}
use Rattle.std.specs.Io.KnownBytes.{Appends}
use Rattle.bao_files.proofs.digits.print_text.Goals as goal

pub returns-in-Err-clause-prints : goal.returns-in-Err-clause-prints
returns-in-Err-clause-prints g c =
    let text : List ℕ = c.args.text.now in
    let old = g.W.Write.contents c.args.out.now in
    let mid = g.W.Write.contents c.write_text.new.out in
    let new = g.W.Write.contents c.flush.new.self in
    let written : Appends old mid text = search rules in
    let whole : take (length text) text ≡ text = take_all (length text) text (omega arith) in
    (length text, subst (Appends old new) (sym whole) (Appends-kept old mid new text written c.in-Err.ensures.bytes))
