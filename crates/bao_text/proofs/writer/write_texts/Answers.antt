use Rattle.std.proofs.Common.{refl, ◌≡◌, ℕ, ◌+◌, ◌<◌, List, ◌∷◌, ◌++◌, Vec, Global, length, get_or, take, drop, Err, ◌∙◌, sym, ap, subst, rules, arith}
use Rattle.std.proofs.lemmas.Grind.{flat_map-append}
use Rattle.std.proofs.lemmas.List.{drop_more, take-append-drop}
use Rattle.bao_text.specs.declared.fault.WriteFault.{WriteFault}
use Rattle.bao_text.specs.Faults.{Writes}
use Rattle.bao_text.specs.Texts.{joined}
use Rattle.bao_text.proofs.Writing.{Writes-first, Writes-rest, WroteOnly-Writes}
use Rattle.bao_text.proofs.writer.write_texts.Goals as goal

-- the encodings before the i-th, that one, and those after it
joined_at : (texts : List (Vec ℕ Global)) (i : ℕ) (text : Vec ℕ Global) → i < length texts → text ≡ get_or texts i text
    → joined texts ≡ joined (take i texts) ++ (text.items ++ joined (drop (i + 1) texts))
joined_at texts i text within is =
    let rest : drop i texts ≡ text ∷ drop (i + 1) texts = drop_more texts i text within ∙ ap (λ t. t ∷ drop (i + 1) texts) (sym is) in
    ap joined (sym (take-append-drop i texts)) ∙ rw (flat_map-append (λ t. t.items) (take i texts) (drop i texts), rest) refl

pub returns-in_err-write_after-clause-err : goal.returns-in_err-write_after-clause-err
returns-in_err-write_after-clause-err g c =
    let texts : List (Vec ℕ Global) = c.args.texts.now in
    let i : ℕ = c.loop-text.text-index in
    let text : Vec ℕ Global = c.text-item.result in
    let fault : WriteFault = c.in_err-write_after.field-0.0 in
    let old = g.W.Write.contents c.args.out.now in
    let mid = g.W.Write.contents c.loop-text.out in
    let new = g.W.Write.contents c.write_after.new.out in
    let part : Writes c.loop-text.before mid new text.items (Err fault) = search rules in
    let more = Writes-first c.loop-text.before mid new text.items (joined (drop (i + 1) texts)) fault part in
    let all = Writes-rest 0 c.loop-text.before old mid new (joined (take i texts)) _ (Err fault) (omega (arith, c.loop-text.invariant.count)) c.loop-text.invariant.written more in
    let whole : Writes 0 old new (joined texts) (Err fault) = subst (λ (s : List ℕ). Writes 0 old new s (Err fault)) (sym (joined_at texts i text c.loop-text-test.true c.text-item.is)) all in
    let is : c.from_residual.result ≡ Err fault = search rules in
    rw is (WroteOnly-Writes old new (joined texts) fault whole)
