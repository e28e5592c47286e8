use Rattle.std.proofs.Common.{◌≡◌, ◌⊎◌, ℕ, ◌<◌, List, Result, Ok, Err, IsOk, arith, inl, inr, subst}
use Rattle.b3tree.specs.declared.mode.Mode.{Mode}
use Rattle.bao_check.specs.Bare.{AreBare}
use Rattle.berylwool.specs.Outlines.{HasChunks, outlined_mode, outlined_root, outlined_text}
use Rattle.berylwool.proofs.Beside.{kept_of}
use Rattle.berylwool.proofs.outlines.sliced.Goals as goal

not_told : (status : ℕ) → (status ≡ 0) ⊎ (status ≡ 401) ⊎ (status ≡ 1201) → 500 < status → status < 506 → ⊥
not_told status (inl is) from to = omega (arith, is, from)
not_told status (inr (inl is)) from to = omega (arith, is, from)
not_told status (inr (inr is)) from to = omega (arith, is, to)

no_ok : {T E : Type 0} (r : Result T E) (e : E) → r ≡ Err e → IsOk r → ⊥
no_ok (Ok x) e is ok = cc
no_ok (Err f) e is ok = cc

pub returns-in-Err-clause-accepted : goal.returns-in-Err-clause-accepted
returns-in-Err-clause-accepted c = (
  (λ way. absurd (not_told c.told.result way c.told.ensures.from c.told.ensures.to)),
  (λ beside.
      absurd (no_ok c.check_bare.result c.in-Err.fault c.in-Err.is (c.check_bare.ensures.accepted.1
      (kept_of (λ (m : Mode) (r s : List ℕ). AreBare m r s c.args.first c.args.count c.args.chunks.now) c.outline-outline.result (outlined_mode c.args.it.now)
      (outlined_root c.args.it.now) (outlined_text c.args.it.now) c.outline-outline.ensures beside.1)))),
)

pub returns-in-Err-clause-chunks : goal.returns-in-Err-clause-chunks
returns-in-Err-clause-chunks c =
    let fits = subst (λ (s : List ℕ). HasChunks s c.args.first c.args.count) c.outline-outline.ensures.text_is (c.bare_fits.ensures.0 c.if-not-bare_fits.false) in
    ((λ is _. omega (arith, is, c.told.ensures.to)), λ none. absurd (none fits))

pub returns-then-not-fits-clause-chunks : goal.returns-then-not-fits-clause-chunks
returns-then-not-fits-clause-chunks c =
    let fits = subst (λ (s : List ℕ). HasChunks s c.args.first c.args.count) c.outline-outline.ensures.text_is (c.bare_fits.ensures.0 c.if-not-bare_fits.false) in
    ((λ is _. omega (arith, is)), λ none. absurd (none fits))

pub returns-clause-chunks : goal.returns-clause-chunks
returns-clause-chunks c =
    let fits = subst (λ (s : List ℕ). HasChunks s c.args.first c.args.count) c.outline-outline.ensures.text_is (c.bare_fits.ensures.0 c.if-not-bare_fits.false) in
    ((λ is _. omega (arith, is)), λ none. absurd (none fits))
