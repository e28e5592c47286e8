-- one block of the output stream beside those before it
use Rattle.std.proofs.Common.{◌≡◌, ℕ, zero, suc, ◌+◌, ◌-◌, ◌/◌, ◌%◌, ◌<◌, ◌≤◌, List, ◌∷◌, ◌++◌, length, take, drop, get_or, refl, sym, ap, ◌∙◌, arith, length-drop}
use Rattle.std.proofs.lemmas.List.{ext_get_or, get_or-take, get_or-drop, length-take-le}
use Rattle.std.proofs.lemmas.List.FromFn.{length-map-range_with_len, get_or-map-range_with_len}
use Rattle.b3word.specs.declared.input.Input.{Input}
use Rattle.b3tree.specs.Hashing.{output, output_block, output_byte}

-- the bytes of a block from place `start` on are those of the stream
pub output-block : (root : Input) (p count : ℕ) → length (output_block root (p / 64)) ≡ 64 → p % 64 + count ≤ 64
    → take count (drop (p % 64) (output_block root (p / 64))) ≡ output root p count
unfolding output_byte
output-block root p count size fits =
    let block : List ℕ = output_block root (p / 64) in
    let rest : length (drop (p % 64) block) ≡ 64 - p % 64 = rw (length-drop (p % 64) block, size) refl in
    let left : length (take count (drop (p % 64) block)) ≡ count = length-take-le count (drop (p % 64) block) (omega arith) in
    let right : length (output root p count) ≡ count = length-map-range_with_len (output_byte root) p count in
    ext_get_or 0 (take count (drop (p % 64) block)) (output root p count) (left ∙ sym right)
    (λ i h.
    let lt : i < count = omega arith in
    let same_block : (p + i) / 64 ≡ p / 64 = omega arith in
    let place : (p + i) % 64 ≡ p % 64 + i = omega arith in
    let stream : get_or (output root p count) i 0 ≡ output_byte root (p + i) =
    get_or-map-range_with_len (output_byte root) p count i (p + i) 0 lt refl in
    get_or-take count (drop (p % 64) block) i 0 lt ∙ get_or-drop (p % 64) block i 0
    ∙ sym (stream ∙ rw (same_block, place) refl))

-- output goes on where it ended
pub output-append : (root : Input) (p n m : ℕ) → output root p n ++ output root (p + n) m ≡ output root p (n + m)
output-append root p zero m = let a : p + 0 ≡ p = omega arith in let b : 0 + m ≡ m = omega arith in (λ i. output root (a i) m) ∙ (λ i. output root p (sym b i))
output-append root p (suc n) m =
    let a : p + suc n ≡ p + 1 + n = omega arith in
    let b : suc n + m ≡ suc (n + m) = omega arith in
    ap (λ (xs : List ℕ). output_byte root p ∷ xs) ((λ i. output root (p + 1) n ++ output root (a i) m) ∙ output-append root (p + 1) n m)
    ∙ (λ i. output root p (sym b i))
