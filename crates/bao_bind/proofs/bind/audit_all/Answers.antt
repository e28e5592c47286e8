use Rattle.std.proofs.Common.{◌≡◌, ℕ, true≢false, Ok, Some, None, Option, Result, IsErr, All, refl, sym, ap, subst, arith, inl, inr, slice_index_or}
use Rattle.std.proofs.lemmas.Bool.{cases_lt}
use Rattle.b3word.specs.declared.input.Input.{Input}
use Rattle.bao_bind.specs.declared.verdict.AuditFault.{AuditFault}
use Rattle.bao_bind.specs.Verdict.{IsFirst, IsForged, IsOfBlob, IsOfOther, Says}
use Rattle.bao_bind.proofs.First.{at_place, has_root, none_first, not_both, not_forged, not_other, one_first}
use Rattle.bao_bind.proofs.bind.audit_all.Goals as goal

abbrev Answer : Type 0
Answer = Result (Option (ℕ × Input × Input)) AuditFault

same_found : (p q : ℕ × Input × Input) (r : Answer) → r ≡ Ok (Some p) → r ≡ Ok (Some q) → p ≡ q
same_found p q r e f = cc

same_index : (i j : ℕ) (a b x y : Input) (r : Answer) → r ≡ Ok (Some (i, a, b)) → r ≡ Ok (Some (j, x, y)) → i ≡ j
same_index i j a b x y r e f = ap (λ (p : ℕ × Input × Input). p.0) (same_found (i, a, b) (j, x, y) r e f)

not_none : (i : ℕ) (a b : Input) (r : Answer) → r ≡ Ok None → r ≡ Ok (Some (i, a, b)) → ⊥
not_none i a b r e f = cc

pub audits-init : goal.audits-init
audits-init c = λ k d below. absurd (omega arith)

pub audits-preserved : goal.audits-preserved
audits-preserved c = λ k d below.
    let blob = c.args.blob.now in
    let piece = c.index-pieces-index.result in
    let agrees = subst (Says blob piece) c.in-Agrees.is c.in_ok-audit.ensures.says in
    let ours : IsOfBlob blob piece = (has_root blob piece (λ other. true≢false (sym (c.in_ok-audit.ensures.other_root.1 other))), agrees) in
    elim (cases_lt k c.audits.index) [
      | inl earlier ↦ c.audits.invariant k d earlier
      | inr least ↦
          let same : c.audits.index ≡ k = omega arith in
          subst (λ (i : ℕ). IsOfBlob blob (slice_index_or c.args.pieces.now i d)) same
          (at_place (IsOfBlob blob) c.args.pieces.now c.audits.index piece c.audits-test.true c.index-pieces-index.is ours d)
    ]

pub returns-in_err-audit-clause-forged : goal.returns-in_err-audit-clause-forged
returns-in_err-audit-clause-forged c = λ i.
    let blob = c.args.blob.now in
    let pieces = c.args.pieces.now in
    let other : IsFirst (IsOfOther blob) blob pieces c.audits.index =
    (c.audits-test.true, c.audits.invariant, at_place (IsOfOther blob) pieces c.audits.index c.index-pieces-index.result c.audits-test.true c.index-pieces-index.is (c.in_err-audit.ensures.other_root.0 refl)) in (
      λ found. absurd (true≢false (sym (subst (λ (r : Answer). IsErr r) found.2 c.from_residual.ensures.0))),
      λ first. absurd (not_both blob pieces i c.audits.index first other),
    )

pub returns-in_err-audit-clause-other_root : goal.returns-in_err-audit-clause-other_root
returns-in_err-audit-clause-other_root c =
    let blob = c.args.blob.now in
    let pieces = c.args.pieces.now in
    let other : IsFirst (IsOfOther blob) blob pieces c.audits.index =
    (c.audits-test.true, c.audits.invariant, at_place (IsOfOther blob) pieces c.audits.index c.index-pieces-index.result c.audits-test.true c.index-pieces-index.is (c.in_err-audit.ensures.other_root.0 refl)) in
    (λ _. (c.audits.index, other), λ _. c.from_residual.ensures.0)

pub returns-in-Collision-clause-forged : goal.returns-in-Collision-clause-forged
returns-in-Collision-clause-forged c = λ i.
    let blob = c.args.blob.now in
    let pieces = c.args.pieces.now in
    let piece = c.index-pieces-index.result in
    let says = subst (Says blob piece) c.in-Collision.is c.in_ok-audit.ensures.says in
    let root = has_root blob piece (λ other. true≢false (sym (c.in_ok-audit.ensures.other_root.1 other))) in
    let forged : IsFirst (IsForged blob) blob pieces c.audits.index =
    (c.audits-test.true, c.audits.invariant, at_place (IsForged blob) pieces c.audits.index piece c.audits-test.true c.index-pieces-index.is (root, says.0)) in (
      λ found. subst (IsFirst (IsForged blob) blob pieces) (same_index c.audits.index i c.in-Collision.ours c.in-Collision.theirs found.0 found.1 _ refl found.2) forged,
      λ first.
          let same : c.audits.index ≡ i = one_first (IsForged blob) (IsForged blob) blob pieces c.audits.index i (not_forged blob) (not_forged blob) forged first in
          (c.in-Collision.ours, c.in-Collision.theirs, ap (λ (k : ℕ). Ok (Some (k, c.in-Collision.ours, c.in-Collision.theirs))) same),
    )

pub returns-in-Collision-clause-other_root : goal.returns-in-Collision-clause-other_root
returns-in-Collision-clause-other_root c =
    let blob = c.args.blob.now in
    let pieces = c.args.pieces.now in
    let piece = c.index-pieces-index.result in
    let says = subst (Says blob piece) c.in-Collision.is c.in_ok-audit.ensures.says in
    let root = has_root blob piece (λ other. true≢false (sym (c.in_ok-audit.ensures.other_root.1 other))) in
    let forged : IsFirst (IsForged blob) blob pieces c.audits.index =
    (c.audits-test.true, c.audits.invariant, at_place (IsForged blob) pieces c.audits.index piece c.audits-test.true c.index-pieces-index.is (root, says.0)) in
    (λ bad. absurd (true≢false (sym bad)), λ first. absurd (not_both blob pieces c.audits.index first.0 forged first.1))

pub returns-clause-none : goal.returns-clause-none
returns-clause-none c =
    (λ _ k d below. c.audits.invariant k d (omega (arith, below, c.audits-test.false)), λ _. refl)

pub returns-clause-forged : goal.returns-clause-forged
returns-clause-forged c = λ i.
    let blob = c.args.blob.now in
    let pieces = c.args.pieces.now in
    let all : All (IsOfBlob blob) pieces = λ k d below. c.audits.invariant k d (omega (arith, below, c.audits-test.false)) in (
      λ found. absurd (not_none i found.0 found.1 _ refl found.2),
      λ first. absurd (none_first (IsForged blob) blob pieces i (not_forged blob) first all),
    )

pub returns-clause-other_root : goal.returns-clause-other_root
returns-clause-other_root c =
    let blob = c.args.blob.now in
    let pieces = c.args.pieces.now in
    let all : All (IsOfBlob blob) pieces = λ k d below. c.audits.invariant k d (omega (arith, below, c.audits-test.false)) in
    (λ bad. absurd (true≢false (sym bad)), λ first. absurd (none_first (IsOfOther blob) blob pieces first.0 (not_other blob) first.1 all))
