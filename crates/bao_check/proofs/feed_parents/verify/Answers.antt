use Rattle.std.proofs.Common.{◌≡◌, ◌≢◌, ◌⊎◌, ◌/◌, ◌≤◌, ℕ, ◌-◌, List, length, ap, subst, ◌∙◌, arith, inl, inr}
use Rattle.std.proofs.lemmas.Bool.{cases_lt}
use Rattle.b3tree.specs.declared.mode.Mode.{Mode}
use Rattle.bao_text.specs.Choice.{chunk_count}
use Rattle.bao_text.specs.Cut.{claimed}
use Rattle.bao_check.specs.Verified.{AreGoodFirst, nth_parent_at, parent_count}
use Rattle.bao_check.proofs.Verifying.{trailing_after}
use Rattle.bao_check.proofs.feed_parents.verify.Goals as goal

pub returns-then-text-at-clause-err : goal.returns-then-text-at-clause-err
returns-then-text-at-clause-err c =
    let mode : Mode = c.args.mode.now in
    let root : List ℕ = c.args.root.now.0 in
    let text : List ℕ = c.args.text.now in
    let count_is : c.chunk_count-count.result ≡ chunk_count (claimed text) = c.chunk_count-count.ensures ∙ ap chunk_count c.claimed.ensures in
    let long : 8 ≤ length text = c.if-text-lt-LENGTH_LEN.false in
    let from : c.args.from ≤ parent_count text = c.requires.few long in
    let ends : c.parents.k ≡ c.min-to.result = omega (arith, from, count_is, c.if-to-count.true, c.parents.auto.k-end, c.parents-test.false) in
    trailing_after mode root text c.min-to.result (subst (AreGoodFirst mode root text) ends c.parents.invariant) long (omega (arith, c.if-to-count.true, count_is)) c.if-text-at.true

pub returns-clause-ok : goal.returns-clause-ok
returns-clause-ok c =
    let mode : Mode = c.args.mode.now in
    let root : List ℕ = c.args.root.now.0 in
    let text : List ℕ = c.args.text.now in
    let to : ℕ = c.min-to.result in
    let count_is : c.chunk_count-count.result ≡ chunk_count (claimed text) = c.chunk_count-count.ensures ∙ ap chunk_count c.claimed.ensures in
    let long : 8 ≤ length text = c.if-text-lt-LENGTH_LEN.false in
    let few : c.args.from ≤ parent_count text = c.requires.few long in
    let fits : c.args.from ≤ (length text - 8) / 64 = elim (cases_lt 0 c.args.from) [ inl some ↦ omega (arith, c.requires.there some) | inr none ↦ omega arith ] in
    let from : c.args.from ≤ to = omega (arith, few, fits, count_is, c.min-to.ensures) in
    let ends : c.parents.k ≡ to = omega (arith, c.parents.auto.k-end from, c.parents-test.false) in
    let either : (to ≡ c.chunk_count-count.result - 1) × (length text ≤ nth_parent_at to) ⊎ (to ≢ c.chunk_count-count.result - 1) = c.else-to-count.either in
    record {
      there = λ _. omega (arith, c.min-to.ensures);
      few = λ _. omega (arith, count_is, c.min-to.ensures);
      good = subst (AreGoodFirst mode root text) ends c.parents.invariant;
      next = elim either [ inl all ↦ omega (arith, all.1) | inr less ↦ omega (arith, less, count_is, c.min-to.ensures) ];
      end = λ _ all. elim either [ inl whole ↦ whole.1 | inr less ↦ absurd (less (omega (arith, count_is))) ];
    }
