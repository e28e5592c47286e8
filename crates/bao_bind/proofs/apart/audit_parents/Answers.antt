use Rattle.std.proofs.Common.{◌≡◌, length, Some, sym, ap, subst, ◌∙◌}
use Rattle.std.proofs.lemmas.Slice.Eq.{bytes_eq-Decides}
use Rattle.b3tree.specs.declared.mode.Mode.{Mode}
use Rattle.b3tree.specs.Hashing.{hash}
use Rattle.bao_check.specs.Checked.{piece_claimed, piece_mode, piece_places, piece_root, piece_text}
use Rattle.bao_check.specs.Inputs.{blob_inputs, text_inputs}
use Rattle.bao_bind.specs.Search.{FindsOnly}
use Rattle.bao_bind.specs.Verdict.{HasParentsOf}
use Rattle.bao_bind.proofs.CollidingPairs.{not_false}
use Rattle.bao_bind.proofs.ParentAudits.{audited}
use Rattle.bao_bind.proofs.apart.audit_parents.Goals as goal

pub returns-in-None-clause-says : goal.returns-in-None-clause-says
returns-in-None-clause-says c =
    let piece = c.args.piece.now in
    let blob = c.args.blob.now in
    let claims : piece_claimed piece ≡ length blob = sym c.claimed.ensures ∙ c.if-claimed-blob.false in
    let root : c.hash.result.0 ≡ c.root.result.0 = (bytes_eq-Decides _ _).0 (not_false _ (sym c.ne.ensures ∙ c.if-ne.false)) in
    let is : hash (piece_mode piece) blob ≡ piece_root piece = ap (λ (m : Mode). hash m blob) (sym c.mode-mode.ensures) ∙ sym c.hash.ensures.value ∙ root ∙ c.root.ensures in (
      claims,
      subst (FindsOnly (blob_inputs (piece_mode piece) blob) (text_inputs (piece_mode piece) (piece_text piece) (piece_places piece)) (HasParentsOf blob piece)) c.in-None.is
          (audited blob piece claims c.parents_apart-apart.result.1 c.mode-mode.result c.mode-mode.ensures c.is_keyed.ensures c.is_accepted.ensures.bytes is c.parents_apart-apart.ensures.apart),
    )

pub returns-in-Some-clause-says : goal.returns-in-Some-clause-says
returns-in-Some-clause-says c =
    let piece = c.args.piece.now in
    let blob = c.args.blob.now in
    let claims : piece_claimed piece ≡ length blob = sym c.claimed.ensures ∙ c.if-claimed-blob.false in
    let root : c.hash.result.0 ≡ c.root.result.0 = (bytes_eq-Decides _ _).0 (not_false _ (sym c.ne.ensures ∙ c.if-ne.false)) in
    let is : hash (piece_mode piece) blob ≡ piece_root piece = ap (λ (m : Mode). hash m blob) (sym c.mode-mode.ensures) ∙ sym c.hash.ensures.value ∙ root ∙ c.root.ensures in
    let found : FindsOnly (blob_inputs (piece_mode piece) blob) (text_inputs (piece_mode piece) (piece_text piece) (piece_places piece)) (HasParentsOf blob piece)
    (Some c.in-Some.pair) =
    subst (FindsOnly (blob_inputs (piece_mode piece) blob) (text_inputs (piece_mode piece) (piece_text piece) (piece_places piece)) (HasParentsOf blob piece)) c.in-Some.is
    (audited blob piece claims c.parents_apart-apart.result.1 c.mode-mode.result c.mode-mode.ensures c.is_keyed.ensures c.is_accepted.ensures.bytes is c.parents_apart-apart.ensures.apart) in
    (claims, found.0, found.1)
