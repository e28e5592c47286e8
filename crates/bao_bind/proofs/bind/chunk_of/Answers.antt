use Rattle.std.proofs.Common.{◌≡◌, ◌+◌, ◌-◌, ◌*◌, ◌≤◌, ◌<◌, ℕ, List, length, take, drop, Some, sym, ap, ◌∙◌, arith, inl, inr, length-drop}
use Rattle.std.proofs.lemmas.Bool.{cases_lt}
use Rattle.std.proofs.lemmas.List.{take_all}
use Rattle.bao_text.specs.Choice.{chunk_count}
use Rattle.bao_check.proofs.Binding.{chunk_of-there}
use Rattle.bao_bind.proofs.bind.chunk_of.Goals as goal

-- up to the end of the blob, or 1,024 bytes
taken : (blob : List ℕ) (at end : ℕ) → (end ≡ at + 1024) × (at + 1024 ≤ length blob) → take (end - at) (drop at blob) ≡ take 1024 (drop at blob)
taken blob at end h = let len : end - at ≡ 1024 = omega (arith, h.0) in ap (λ (n : ℕ). take n (drop at blob)) len

taken_all : (blob : List ℕ) (at end : ℕ) → (end ≡ length blob) × (length blob ≤ at + 1024) → take (end - at) (drop at blob) ≡ take 1024 (drop at blob)
taken_all blob at end h =
    let len : length (drop at blob) ≡ length blob - at = length-drop at blob in
    take_all (end - at) (drop at blob) (omega (arith, h.0)) ∙ sym (take_all 1024 (drop at blob) (omega (arith, h.1)))

pub returns-then-number-chunk_count : goal.returns-then-number-chunk_count
returns-then-number-chunk_count c =
    let blob : List ℕ = c.args.blob.now in
    let at : ℕ = c.args.number * 1024 in
    let place : at ≡ 1024 * c.args.number = omega arith in
    let there : c.args.number < chunk_count (length blob) = omega (arith, c.chunk_count.ensures, c.if-number-chunk_count.true) in
    let same : take (c.min-end.result - at) (drop at blob) ≡ take 1024 (drop at blob) =
    elim (cases_lt (length blob) (at + 1024)) [
      | inl less ↦ taken_all blob at c.min-end.result (omega (arith, c.min-end.ensures), omega arith)
      | inr least ↦ taken blob at c.min-end.result (omega (arith, c.min-end.ensures), least)
    ] in
    ap Some (same ∙ ap (λ (n : ℕ). take 1024 (drop n blob)) place) ∙ sym (chunk_of-there blob c.args.number there)
