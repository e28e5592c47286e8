use Rattle.gather.proofs.Common.{◌≡◌, ◌↔◌, ◌*◌, ◌/◌, ℕ, List, IfOk, IsOk, Result, arith, sym, subst, Checked, CheckFault, IsAccepted, IsPiece, slice_nodes, Outline}
use Rattle.bao_check.specs.Bare.{bare_part}
use Rattle.bao_check.specs.Beside.{beside_text}
use Rattle.bao_check.specs.Outline.{outline_mode, outline_root, outline_text}
use Rattle.holders.specs.declared.form.Form.{Form}
use Rattle.holders.specs.declared.form.ByteRange.{ByteRange}
use Rattle.gather.specs.Asked.{IsPart, IsSliceCheck, chunks_of_part}
use Rattle.gather.proofs.asking.check.Goals as goal

-- what is made of an outline's parents and of chunks is accepted exactly where it should be
abbrev IsMadeCheck : Outline → ℕ → ℕ → List ℕ → Result Checked CheckFault → Type 0
IsMadeCheck outline start len chunks result =
    let text : List ℕ = beside_text (outline_text outline) start len chunks in
    (IsOk result ↔ IsAccepted (outline_mode outline) (outline_root outline) text (slice_nodes text start len))
    × IfOk result (λ piece. IsPiece piece (outline_mode outline) (outline_root outline) start len text)

pub returns-in-Bare-clause-slice : goal.returns-in-Bare-clause-slice
returns-in-Bare-clause-slice c =
    let part : ByteRange = c.args.part.now in
    let text : List ℕ = c.args.text.now in
    let outline : Outline = c.in-Bare.outline.now in
    let whole = subst (λ (f : Form). IsPart f part) c.in-Bare.is c.requires in
    let count : c.chunk_count-count.result ≡ chunks_of_part part = omega (arith, c.chunk_count-count.ensures) in
    subst (λ (f : Form). IsSliceCheck f c.args.fixed.now part text c.check_bare.result) (sym c.in-Bare.is)
    (subst (λ (start : ℕ). IsMadeCheck outline start (bare_part (chunks_of_part part)) text c.check_bare.result) whole.0
    (subst (λ (n : ℕ). IsMadeCheck outline (1024 * (part.start / 1024)) (bare_part n) text c.check_bare.result) count (c.check_bare.ensures.slice, c.check_bare.ensures.piece)))
