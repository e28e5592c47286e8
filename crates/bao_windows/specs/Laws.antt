-- The law of outboard encodings.
use Rattle.std.specs.Prelude.{◌≡◌, ◌⊎◌, List, length, ℕ}
use Rattle.b3tree.specs.declared.mode.Mode.{Mode}
use Rattle.b3tree.specs.Hashing.{hash}
use Rattle.b3tree.specs.Valid.{AreBytes, IsKeyed}
use Rattle.bao_check.specs.Accepted.{IsAccepted, outboard_nodes, places_of}
use Rattle.bao_check.specs.Inputs.{NamesCollision}
use Rattle.bao_text.specs.Cut.{claimed}
use Rattle.bao_text.specs.Texts.{outboard_text}

-- For each encoding that is accepted as an outboard encoding under a root, and each blob with that root and of the length that the
-- encoding claims: it is the blob's own, or a collision is exhibited.
abbrev pub OutlineBinds : Type 0
OutlineBinds = (mode : Mode) (root text blob : List ℕ)
    → IsKeyed mode → AreBytes blob → AreBytes text → hash mode blob ≡ root
    → IsAccepted mode root text (outboard_nodes text) → claimed text ≡ length blob
    → (text ≡ outboard_text mode blob) ⊎ NamesCollision mode blob text (places_of (outboard_nodes text))
