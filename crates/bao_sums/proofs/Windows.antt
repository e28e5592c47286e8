-- Bytes that are read of those that are held of a source.
use Rattle.std.proofs.Common.{◌≡◌, ℕ, ◌+◌, ◌-◌, ◌<◌, ◌≤◌, List, length, take, drop, Option, None, Some, ap, refl, sym, ◌∙◌, arith, length-take, length-drop}
use Rattle.std.proofs.lemmas.List.{drop-drop, drop-take, take-take}
use Rattle.b3par.specs.Given.{ReadsAt}
use Rattle.b3tree.specs.Pieces.{piece}
use Rattle.bao_sums.specs.Windows.{GivenFrom}

held_piece : (s held buf : List ℕ) (start at skip n : ℕ) → held ≡ piece s start (length held) → at ≡ start + skip → n ≤ length buf → take n buf ≡ piece held skip n → skip < length held
    → take n buf ≡ piece s at n
held_piece s held buf start at skip n held_is at_is bound read within =
    let r : ℕ = length held - skip in
    let lens : length (take n buf) ≡ length (take n (drop skip held)) = ap (λ (xs : List ℕ). length xs) read in
    let few : n ≤ length held - skip = omega (arith, within, bound, lens, length-take n buf, length-take n (drop skip held), length-drop skip held) in
    let long : length held ≡ skip + (length held - skip) = omega (arith, within) in
    let tail : drop skip held ≡ take r (drop at s) =
    ap (drop skip) (held_is ∙ ap (λ (k : ℕ). take k (drop start s)) long) ∙ drop-take skip r (drop start s)
    ∙ ap (take r) (drop-drop skip start s ∙ ap (λ (k : ℕ). drop k s) (sym at_is)) in
    read ∙ ap (take n) tail ∙ take-take n r (drop at s) few

-- a read of the held bytes is one of the source
pub window_read : (contents : Option (List ℕ)) (held buf : List ℕ) (start at skip n : ℕ) → GivenFrom contents start held → at ≡ start + skip → skip < length held → n ≤ length buf
    → ReadsAt (Some held) skip n buf → ReadsAt contents at n buf
window_read None held buf start at skip n given at_is within bound read = tt
window_read (Some s) held buf start at skip n given at_is within bound read =
    (held_piece s held buf start at skip n (given s refl) at_is bound read.0 within, λ none some. absurd (omega (arith, read.1 none some, within)))
