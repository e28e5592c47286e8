use Rattle.std.proofs.Common.{◌≡◌, ℕ, ◌+◌, ◌-◌, ◌*◌, ◌/◌, List, length, arith, inl, inr, sym}
use Rattle.bao_check.specs.declared.checked.Checked.{Checked}
use Rattle.bao_windows.proofs.Bytes.{place_of}
use Rattle.bao_windows.proofs.Pieces.{adds_more_of, lacks_no_chunk, lacks_size, of_chunk}
use Rattle.bao_windows.proofs.appending.append_chunks.Goals as goal

pub returns-in_default-clause-lacks : goal.returns-in_default-clause-lacks
returns-in_default-clause-lacks c = λ _. lacks_no_chunk c.args.piece.now c.args.at c.args.len c.chunks.came c.requires.aligned c.chunks.invariant.step c.chunks-test.true (sym c.in_default.ensures.value)

pub returns-then-bytes-count-clause-lacks : goal.returns-then-bytes-count-clause-lacks
returns-then-bytes-count-clause-lacks c = λ _.
    lacks_size c.args.piece.now c.args.at c.args.len c.chunks.came c.in-Some.bytes.now c.requires.aligned c.chunks.invariant.step c.chunks-test.true (sym c.in-Some.ensures.value)
    (λ size. omega (arith, size, c.if-bytes-count.true, c.min-count.ensures))

pub chunks-preserved : goal.chunks-preserved
chunks-preserved c =
    let piece : Checked = c.args.piece.now in
    let at : ℕ = c.args.at in
    let came : ℕ = c.chunks.came in
    let n : ℕ = c.min-count.result in
    let bytes : List ℕ = c.in-Some.bytes.now in
    let size : length bytes ≡ n = omega (arith, c.if-bytes-count.false) in
    let same : at + came ≡ 1024 * ((at + came) / 1024) = omega (arith, c.requires.aligned, c.chunks.invariant.step, c.chunks-test.true) in
    record {
      within = omega (arith, c.min-count.ensures, c.chunks-test.true);
      step = elim (place_of (c.args.len - came) 1024) [
        | inl low ↦ inr (omega (arith, low, c.min-count.ensures, c.chunks-test.true))
        | inr high ↦ inl (omega (arith, high, c.min-count.ensures, c.chunks.invariant.step, c.chunks-test.true))
      ];
      done = adds_more_of piece at came n _ _ _ bytes c.requires.aligned (omega (arith, c.chunks.invariant.step, c.chunks-test.true)) (omega (arith, c.min-count.ensures)) (sym c.in-Some.ensures.value) c.chunks.invariant.done c.in_ok-extend_from_slice.ensures.items size
          (of_chunk piece (at + came) ((at + came) / 1024) bytes same (sym c.in-Some.ensures.value) c.in-Some.ensures.binds);
    }
