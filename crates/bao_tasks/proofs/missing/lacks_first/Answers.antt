use Rattle.std.proofs.Common.{◌≡◌, ℕ, ◌+◌, ◌<◌, Bool, inl, inr, arith, subst}
use Rattle.std.proofs.lemmas.Bool.{cases_lt}
use Rattle.bao_tasks.specs.Missing.{HasSome, HasUnit}
use Rattle.bao_tasks.specs.Worth.{IsSaidOf, JudgesGroup}
use Rattle.bao_tasks.proofs.Claims.{begins_early}
use Rattle.bao_tasks.proofs.Said.{said_always, said_both, said_then}
use Rattle.bao_tasks.proofs.missing.lacks_first.Goals as goal

pub lacks_unit-requires : goal.lacks_unit-requires
lacks_unit-requires g c = begins_early c.args.wanted.now.form c.args.wanted.now.grain c.loop-first.first c.requires (omega arith)

pub loop-first-init : goal.loop-first-init
loop-first-init g c =
    said_always (g.S.Source.contents c.args.source.now) (g.S.Source.faultless c.args.source.now) (λ bytes. (u : ℕ) → u < 0 → ¬ HasUnit c.args.wanted.now u bytes) (λ bytes u below. absurd (omega (arith, below)))

pub returns-then-not-branch : goal.returns-then-not-branch
returns-then-not-branch g c =
    let n : ℕ = c.loop-first.first in
    let wanted = c.args.wanted.now in
    let source = c.args.source.now in
    let had = subst (λ (b : Bool). IsSaidOf (g.S.Source.contents source) (g.S.Source.faultless source) (λ bytes. JudgesGroup b (HasUnit wanted n bytes))) c.if-not-branch.true c.in_ok-lacks_unit.ensures in
    said_then (g.S.Source.contents source) (g.S.Source.faultless source) (HasUnit wanted n) (HasSome wanted c.args.total) (λ bytes has. (n, omega arith, has)) had

pub loop-first-preserved : goal.loop-first-preserved
loop-first-preserved g c =
    let n : ℕ = c.loop-first.first in
    let wanted = c.args.wanted.now in
    let source = c.args.source.now in
    let lacks = subst (λ (b : Bool). IsSaidOf (g.S.Source.contents source) (g.S.Source.faultless source) (λ bytes. JudgesGroup b (HasUnit wanted n bytes))) c.if-not-branch.false c.in_ok-lacks_unit.ensures in
    said_both (g.S.Source.contents source) (g.S.Source.faultless source) (λ bytes. (u : ℕ) → u < n → ¬ HasUnit wanted u bytes) (λ bytes. ¬ HasUnit wanted n bytes)
    (λ bytes. (u : ℕ) → u < n + 1 → ¬ HasUnit wanted u bytes)
    (λ bytes before here u below. elim (cases_lt u n) [
      | inl earlier ↦ before u earlier
      | inr late ↦ let same : n ≡ u = omega (arith, below, late) in subst (λ (k : ℕ). ¬ HasUnit wanted k bytes) same here
    ]) c.loop-first.invariant lacks

pub returns : goal.returns
returns g c =
    let wanted = c.args.wanted.now in
    let source = c.args.source.now in
    said_then (g.S.Source.contents source) (g.S.Source.faultless source) (λ bytes. (u : ℕ) → u < c.loop-first.first → ¬ HasUnit wanted u bytes) (λ bytes. ¬ HasSome wanted c.args.total bytes)
    (λ bytes none some. none some.0 (omega (arith, some.1)) some.2) c.loop-first.invariant
