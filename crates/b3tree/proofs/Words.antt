-- the bytes of words
use Rattle.std.proofs.Common.{◌≡◌, ℕ, zero, suc, ◌+◌, ◌*◌, List, [], ◌∷◌, take, refl, arith}
use Rattle.b3tree.specs.Bytes.{bytes_of}

-- the bytes of the first n words
pub bytes_of-take : (n : ℕ) (ws : List ℕ) → take (4 * n) (bytes_of ws) ≡ bytes_of (take n ws)
bytes_of-take zero ws = refl
bytes_of-take (suc n) [] = let e : 4 * suc n ≡ suc (4 * n + 3) = omega arith in rw e refl
bytes_of-take (suc n) (w ∷ ws) =
    let e : 4 * suc n ≡ suc (suc (suc (suc (4 * n)))) = omega arith in
    rw (e, bytes_of-take n ws) refl
