use Rattle.std.proofs.Common.{rules, ◌≡◌, ◌-◌, ℕ, [], if◌then◌else◌, subst, arith}
use Rattle.std.proofs.lemmas.Result.{IfErr-weaker, IfOk-weaker}
use Rattle.bao_decode.specs.Weaving.{GoesOnWithin, woven_text}
use Rattle.bao_decode.proofs.Cuttings.{ok_none, ok_some}
use Rattle.bao_decode.proofs.Weavings.{place_length, place_nodes, place_none}
use Rattle.bao_decode.proofs.woven.Woven.place_at.Goals as goal

pub returns-then-at-lt-HEADER_LEN-clause-some : goal.returns-then-at-lt-HEADER_LEN-clause-some
returns-then-at-lt-HEADER_LEN-clause-some g c = λ outline copy.
    let it = c.args.self.now in
    let from : c.args.at ≡ c.from-at.result = search rules in
    subst (λ (k : ℕ). GoesOnWithin outline (woven_text it.total it.start it.len outline copy) c.args.at k (8 - k)) from
    (place_length it.total it.start it.len outline copy c.args.at (omega (arith, from, c.if-at-lt-HEADER_LEN.true)))

pub returns-clause-some : goal.returns-clause-some
returns-clause-some g c =
    let it = c.args.self.now in
    let from : c.from-at.result ≡ c.args.at = search rules in
    ok_some _ c.place_of.result c.ok.result c.ok.ensures.value
    (IfOk-weaker c.place_of.result _ _ (λ place on outline copy.
    place_nodes it.total it.start it.len outline copy c.of_slice-choice.result (if place.is_in_copy then copy else outline) c.args.at c.from-at.result place.at place.len c.of_slice-choice.ensures from
    (omega (arith, c.if-at-lt-HEADER_LEN.false)) (on outline copy [] [])) c.place_of.ensures.found)

pub returns-clause-none : goal.returns-clause-none
returns-clause-none g c =
    let it = c.args.self.now in
    let from : c.from-at.result ≡ c.args.at = search rules in
    ok_none _ c.place_of.result c.ok.result c.ok.ensures.value
    (IfErr-weaker c.place_of.result _ _ (λ rest after outline copy. place_none it.total it.start it.len outline copy c.of_slice-choice.result c.args.at c.from-at.result rest c.of_slice-choice.ensures from
    (omega (arith, c.if-at-lt-HEADER_LEN.false)) (after [])) c.place_of.ensures.after)
