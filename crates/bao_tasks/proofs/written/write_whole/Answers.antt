use Rattle.std.proofs.Common.{rules, arith, ◌≡◌, List, ℕ, length, take, refl, subst, sym, inr}
use Rattle.std.proofs.KnownBytes.{Appends-kept}
use Rattle.std.proofs.lemmas.List.{take_all}
use Rattle.std.specs.Io.KnownBytes.{Appends}
use Rattle.bao_tasks.specs.Gathered.{gathered_text}
use Rattle.bao_tasks.proofs.written.write_whole.Goals as goal

pub returns-then-is_err-clause-fault : goal.returns-then-is_err-clause-fault
returns-then-is_err-clause-fault g c =
    let text : List ℕ = gathered_text c.args.encode c.args.mode.now c.args.blob.now in
    let old = g.W.Write.contents c.args.out.now in
    let mid = g.W.Write.contents c.write_blob.new.out in
    let new = g.W.Write.contents c.flush.new.self in
    let written : Appends old mid text = search rules in
    let whole : take (length text) text ≡ text = take_all (length text) text (omega arith) in
    inr (refl, (length text, subst (Appends old new) (sym whole) (Appends-kept old mid new text written c.flush.ensures.bytes)))
