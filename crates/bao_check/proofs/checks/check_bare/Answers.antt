use Rattle.std.proofs.Common.{◌≡◌, ℕ, ◌*◌, List, false, true, sym, subst, arith}
use Rattle.std.proofs.lemmas.Result.{err_from_is_err_and}
use Rattle.b3tree.specs.declared.mode.Mode.{Mode}
use Rattle.bao_check.specs.declared.outline.Outline.{Outline}
use Rattle.bao_check.specs.Accepted.{IsAccepted, slice_nodes}
use Rattle.bao_check.specs.Bare.{bare_part}
use Rattle.bao_check.specs.Beside.{beside_text}
use Rattle.bao_check.specs.Outline.{outline_mode, outline_root, outline_text}
use Rattle.bao_check.proofs.BareFound.{accepted-bare, bare-accepted, claimed-small}
use Rattle.bao_check.proofs.BareChecked.{bare_apart}
use Rattle.bao_check.proofs.checks.check_bare.Goals as goal

pub returns-in_err-check_chunks-clause-slice : goal.returns-in_err-check_chunks-clause-slice
returns-in_err-check_chunks-clause-slice c =
    let p = err_from_is_err_and c.from_residual.result c.from_residual.ensures.1 in
    let outline : Outline = c.args.outline.now in
    rw p.1 (
      λ ok. let no : false ≡ true = ok in cc,
      λ accepted.
          absurd
          (bare_apart (outline_mode outline) (outline_root outline) (outline_text outline) c.args.first c.args.count c.args.chunks.now c.requires.0 c.requires.1
          c.in_err-check_chunks.field-0.0 c.in_err-check_chunks.ensures
          (accepted-bare (outline_mode outline) (outline_root outline) (outline_text outline) c.args.chunks.now c.args.first c.args.count outline.accepted
          (claimed-small (outline_text outline) c.is_of_bytes.ensures) c.requires.0 c.requires.1 accepted)),
    )

pub overflow_mul-chunk_len : goal.overflow_mul-chunk_len
overflow_mul-chunk_len c = grind (arith, claimed-small)

pub beside-requires-clause-accepted : goal.beside-requires-clause-accepted
beside-requires-clause-accepted c =
    let outline : Outline = c.args.outline.now in
    let text : ℕ → List ℕ = λ len. beside_text (outline_text outline) (1024 * c.args.first) len c.args.chunks.now in
    let P : Mode → List ℕ → ℕ → Type 0 = λ mode root len. IsAccepted mode root (text len) (slice_nodes (text len) (1024 * c.args.first) len) in
    let accepted : P (outline_mode outline) (outline_root outline) (bare_part c.args.count) =
    bare-accepted (outline_mode outline) (outline_root outline) (outline_text outline) c.args.chunks.now c.args.first c.args.count outline.accepted
    (claimed-small (outline_text outline) c.is_of_bytes.ensures) c.requires.0 c.requires.1 c.in_ok-check_chunks.ensures in
    subst (λ (mode : Mode). P mode c.root.result.0 c.saturating_mul.result) (sym c.mode.ensures)
    (subst (λ (root : List ℕ). P (outline_mode outline) root c.saturating_mul.result) (sym c.root.ensures)
    (subst (λ (len : ℕ). P (outline_mode outline) (outline_root outline) len) (sym c.saturating_mul.ensures) accepted))
