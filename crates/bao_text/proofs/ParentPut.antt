-- A parent that is put before the encoding of its parts.
use Rattle.std.proofs.Common.{arith, ◌≡◌, ℕ, ◌+◌, List, ◌++◌, length, take, drop, length-append}
use Rattle.std.proofs.lemmas.List.{append-nil, append_assoc, drop_at, take_at}
use Rattle.bao_text.proofs.SubtreeText.{subtree_text-leaf, subtree_text-parent, subtree_text-unwanted}

-- the place kept free for a parent p, once the encoding of its parts stands behind it
pub parent_put : (t zs a b p : List ℕ) → length zs ≡ 64 → take (length t) (((t ++ zs) ++ a) ++ b) ++ (p ++ drop (length t + 64) (((t ++ zs) ++ a) ++ b)) ≡ t ++ (p ++ (a ++ b))
parent_put t zs a b p size = grind (arith, append_assoc, take_at, drop_at, length-append)

-- the encoding of a subtree that parts, as it is put together
pub ruleset put_together = (parent_put, subtree_text-parent, subtree_text-unwanted, subtree_text-leaf, append-nil)
