-- Chunks copied side by side, each to where its lane has it.
use Rattle.std.proofs.Common.{◌≡◌, ◌<◌, ◌≤◌, ℕ, ◌+◌, ◌-◌, List, length, take, drop, sym, ap, ◌∙◌, arith, length-append, length-drop}
use Rattle.std.proofs.lemmas.List.{length-take-le}
use Rattle.std.proofs.lemmas.Slice.{between-put_mid, take-put_mid_below}
use borrow.Rule.Slice.PartMut.{put_mid}
use Rattle.b3tree.specs.Pieces.{lane_place, piece}
use Rattle.b3tree.proofs.Pieces.{piece-piece}

-- a chunk that is copied to place a changes nothing that lies before it
pub earlier_kept : (a k q : ℕ) (xs ys : List ℕ) → q + 1024 ≤ a → a ≤ length xs → piece (put_mid a k xs ys) q 1024 ≡ piece xs q 1024
earlier_kept a k q xs ys before within =
    let from : (s : List ℕ) → piece (take a s) q 1024 ≡ piece s q 1024 = λ s. piece-piece s 0 a q 1024 before ∙ ap (λ (p : ℕ). piece s p 1024) (omega arith) in
    sym (from (put_mid a k xs ys)) ∙ ap (λ (s : List ℕ). piece s q 1024) (take-put_mid_below a k xs ys a (omega arith) within) ∙ from xs

-- and is there afterwards
pub own_there : (a k : ℕ) (xs ys : List ℕ) → a ≤ length xs → length ys ≡ 1024 → piece (put_mid a k xs ys) a 1024 ≡ ys
own_there a k xs ys within size =
    let n : 1024 ≡ a + 1024 - a = omega arith in
    ap (λ (m : ℕ). take m (drop a (put_mid a k xs ys))) n ∙ between-put_mid a k xs ys (a + 1024) within (size ∙ n)

pub size_kept : (a k : ℕ) (xs ys : List ℕ) → a + 1024 ≤ length xs → k ≡ 1024 → length ys ≡ 1024 → length (put_mid a k xs ys) ≡ length xs
size_kept a k xs ys within is size = grind (arith, length-append, length-take-le, length-drop)

-- lanes lie one after another
pub lane_before : (j k : ℕ) → j < k → lane_place 0 1024 j + 1024 ≤ lane_place 0 1024 k
lane_before j k lt = omega (arith, lt)
