-- What the bytes of all windows are.
use Rattle.std.proofs.Common.{◌≡◌, ◌⊎◌, ℕ, List, length, ◌∙◌, sym, subst, inl, inr}
use Rattle.b3tree.specs.declared.mode.Mode.{Mode}
use Rattle.b3tree.specs.declared.values.Hash.{Hash}
use Rattle.b3tree.specs.Hashing.{hash}
use Rattle.holders.proofs.Same.{all_same, same_bytes}
use Rattle.holders.specs.Blobs.{AreTheBlob, HasCollision, IsOfNone, fixed_as}
use Rattle.holders.specs.declared.fixed.Fixed.{Fixed}
use Rattle.holders.specs.declared.piece.Piece.{Piece}
use Rattle.holders.specs.Blobs.{IsBlob}
use Rattle.bao_windows.specs.Windows.{AreBytesAt, IsLengthOfEach}

-- as many bytes as a blob with the root has are the blob, or a collision is exhibited
pub whole_blob : (handed : Piece → Type 0) (fixed : Fixed) (bytes blob : List ℕ) → AreBytesAt handed fixed 0 bytes → IsBlob fixed blob → length bytes ≡ length blob
    → (blob ≡ bytes) ⊎ HasCollision handed fixed blob
whole_blob handed fixed bytes blob each is long = elim (all_same blob bytes (HasCollision handed fixed blob) (length bytes) (each.each blob is)) [
  | inl same ↦ inl (same_bytes blob bytes long same)
  | inr pair ↦ inr pair
]

-- where their hash isn't the root, a collision is exhibited
pub other_blob : (handed : Piece → Type 0) (mode : Mode) (root : Hash) (bytes blob : List ℕ) → AreBytesAt handed (fixed_as root mode 0) 0 bytes → IsBlob (fixed_as root mode 0) blob
    → length bytes ≡ length blob → (hash mode bytes ≡ root.0 → ⊥) → HasCollision handed (fixed_as root mode 0) blob
other_blob handed mode root bytes blob each is long other = elim (whole_blob handed (fixed_as root mode 0) bytes blob each is long) [
  | inl same ↦ absurd (other (subst (λ (s : List ℕ). hash mode s ≡ root.0) same is.root))
  | inr pair ↦ pair
]

pub none_is : (handed : Piece → Type 0) (mode : Mode) (root : Hash) (bytes : List ℕ) (total : ℕ) → AreBytesAt handed (fixed_as root mode 0) 0 bytes → length bytes ≡ total
    → (hash mode bytes ≡ root.0 → ⊥) → IsLengthOfEach handed (fixed_as root mode 0) total → IsOfNone handed (fixed_as root mode 0)
none_is handed mode root bytes total each size other lengths blob is = elim (lengths blob is) [
  | inl long ↦ other_blob handed mode root bytes blob each is (size ∙ long) other
  | inr pair ↦ pair
]

-- bytes that are those of each blob with the root, and as many as each has, are each of them, or a collision is exhibited
pub the_blob : (handed : Piece → Type 0) (fixed : Fixed) (bytes : List ℕ) (total : ℕ) → AreBytesAt handed fixed 0 bytes → length bytes ≡ total → IsLengthOfEach handed fixed total
    → AreTheBlob handed fixed bytes
the_blob handed fixed bytes total each size lengths blob is = elim (lengths blob is) [
  | inl long ↦ elim (whole_blob handed fixed bytes blob each is (size ∙ long)) [
    | inl same ↦ inl (sym same)
    | inr pair ↦ inr pair
  ]
  | inr pair ↦ inr pair
]
