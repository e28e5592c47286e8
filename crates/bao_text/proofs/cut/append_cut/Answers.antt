use Rattle.std.proofs.Common.{◌≡◌, ℕ, ◌+◌, ◌-◌, List, [], length, drop, nat_le, true, ap, sym, ◌∙◌, arith, rules, lit<}
use Rattle.std.proofs.lemmas.List.{take_rest}
use Rattle.bao_text.specs.Cut.{claimed}
use Rattle.bao_text.proofs.Cuts.{slice_cut}
use Rattle.bao_text.proofs.cut.append_cut.Goals as goal

pub returns-clause-cut : goal.returns-clause-cut
returns-clause-cut g c = λ s is.
    let old : List ℕ = c.args.into.now.items in
    let mid : List ℕ = c.append.new.into.items in
    let here : c.len-begin.result ≡ length old = search rules in
    let text : c.as_slice.result.now ≡ mid = c.as_slice.ensures.value in
    let claim : c.claimed-total.result ≡ claimed (drop (length old) mid) =
    c.claimed-total.ensures ∙ ap claimed (take_rest c.as_slice.result.now c.len-begin.result) ∙ (λ i. claimed (drop (here i) (text i))) in
    let there : true ≡ nat_le (0 + 8) (length s) = sym c.if-not-branch.false ∙ c.in_ok-append.ensures.whole s is (lit< tt) in
    let cuts = rw c.of_slice-choice.ensures at (c.in_ok-append_nodes.ensures.cuts []) in
    slice_cut old mid _ s c.args.start c.args.len _ (c.in_ok-append.ensures.part s is) there claim (cuts.cut s is)

pub returns-clause-few : goal.returns-clause-few
returns-clause-few g c =
    let cuts = rw c.of_slice-choice.ensures at (c.in_ok-append_nodes.ensures.cuts []) in
    (c.claimed-total.result, c.claimed-total.type_inv, omega (arith, c.in_ok-append.ensures.few, cuts.few))
