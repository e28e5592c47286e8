use Rattle.std.proofs.Common.{◌≡◌, ◌⊎◌, ◌+◌, ◌*◌, ◌/◌, ◌%◌, ℕ, arith, inl, inr, sym, ◌∙◌}
use Rattle.bao_check.specs.Checked.{piece_claimed, piece_len, piece_mode, piece_root, piece_start, piece_text}
use Rattle.bao_check.specs.declared.checked.Checked.{Checked}
use Rattle.bao_windows.proofs.GroupValues.{far_half, near_half}
use Rattle.bao_windows.proofs.value.group_value.Goals.{then-part-eq1-via-then-part-eq1, then-part-eq1-via-else-part-eq1+then-end-total-2}
use Rattle.bao_windows.proofs.value.group_value.Goals as goal

pub returns-in-Some : goal.returns-in-Some
returns-in-Some c = λ bytes size has.
    let piece : Checked = c.args.piece.now in
    let at : ℕ = c.args.part.start in
    let side : (at / 1024 % 128 ≡ 64) ⊎ (1024 * (at / 1024 + 64) ≡ piece_claimed piece) =
    elim c.then-part-eq1.branch [
      | then-part-eq1-via-then-part-eq1 w ↦ inl (omega (arith, w.if-part-eq1.true, c.if-part-ne0.false))
      | then-part-eq1-via-else-part-eq1+then-end-total-2 w ↦ inr (omega (arith, w.if-end-total-2.true, c.if-part-ne0.false, c.if-part-ne-GROUP_BYTES.false, c.claimed-total.ensures))
    ] in
    c.halves.ensures.right
    ∙ far_half (piece_mode piece) (piece_root piece) (piece_text piece) (piece_start piece) (piece_len piece) (at / 1024) c.is_accepted.ensures.accepted (omega (arith, c.if-part-ne0.false))
    (omega (arith, c.if-total-le-GROUP_BYTES.false, c.claimed-total.ensures)) (omega (arith, c.if-part-ne0.false, c.if-part-ne-GROUP_BYTES.false, c.if-end-total.false, c.claimed-total.ensures))
    bytes (omega (arith, size, c.if-part-ne-GROUP_BYTES.false)) has side c.in-Some.parent.now (sym c.in-Some.ensures.value)

pub returns-in-Some-parent : goal.returns-in-Some-parent
returns-in-Some-parent c = λ bytes size has.
    let piece : Checked = c.args.piece.now in
    let at : ℕ = c.args.part.start in
    c.halves-in-Some-parent.ensures.left
    ∙ near_half (piece_mode piece) (piece_root piece) (piece_text piece) (piece_start piece) (piece_len piece) (at / 1024) c.is_accepted.ensures.accepted (omega (arith, c.if-part-ne0.false))
    (omega (arith, c.if-total-le-GROUP_BYTES.false, c.claimed-total.ensures)) (omega (arith, c.if-part-ne0.false, c.if-part-ne-GROUP_BYTES.false, c.if-end-total.false, c.claimed-total.ensures))
    bytes (omega (arith, size, c.if-part-ne-GROUP_BYTES.false)) has (omega (arith, c.if-part-eq1.false, c.if-part-ne0.false))
    (omega (arith, c.if-end-total-2.false, c.if-end-total.false, c.if-part-ne0.false, c.if-part-ne-GROUP_BYTES.false, c.claimed-total.ensures)) c.in-Some-parent.parent.now
    (sym c.in-Some-parent.ensures.value)
