-- What a store reads is the blob's, or a collision is exhibited: its invariant has the history that this needs.
use Rattle.std.proofs.lemmas.Bool.Decides.{nat_tests}
use Rattle.std.proofs.Common.{◌≡◌, ◌⊎◌, ℕ, ◌+◌, ◌*◌, ◌/◌, ◌≤◌, List, length, Option, Some, IfSome, slice_get, sym, subst, inl, inr, arith}
use Rattle.std.proofs.Math.Bridge.{le_prop}
use Rattle.std.proofs.Math.Logic.{∥∥₁_elim}
use Rattle.b3tree.specs.Valid.{IsKeyed}
use Rattle.holders.specs.declared.fixed.Fixed.{Fixed}
use Rattle.store_core.specs.declared.slot.Slot.{Slot}
use Rattle.store_core.specs.Laws.{CollisionOf, IsServed, PiecesClash}
use Rattle.holders.specs.Blobs.{IsBlob}
use Rattle.store_core.specs.Reached.{IsReached}
use Rattle.store_core.specs.Slots.{state_in, with_parents}
use Rattle.store_core.specs.States.{State, byte_at}
use Rattle.bao_check.specs.Accepted.{IsAccepted, slice_nodes}
use Rattle.bao_check.specs.Parents.{parent_of}
use Rattle.bao_check.proofs.Laws.{accepted_binds}
use Rattle.holders.specs.declared.piece.Piece.{Piece}
use Rattle.bao_check.specs.Pieces.{chunk_of}
use Rattle.holders.specs.Pieces.{IsAcceptedPiece}
use Rattle.store_core.specs.Stores.{ChunksBind, CollisionCommitted, CollisionSettled}
use Rattle.store_core.proofs.Bound.{byte_binds, record_binds}
use Rattle.store_core.proofs.Accepting.{served_accepted}
use Rattle.store_core.proofs.ServingLaws.{held_parent_binds, served_nodes_bind}
use Rattle.store_core.specs.Serves.{serving}
use Rattle.store_core.specs.declared.history.Serving.TheVariants.{Text}
use Rattle.bao_text.specs.declared.walk.Node.TheVariants.{Parent}
use Rattle.bao_text.specs.Texts.{slice_text}
use Rattle.store_core.proofs.HasRoom.{base_recorded, recorded_fits}

pub read_binds : (fixed : Fixed) (s : State) (blob : List ℕ) (q x : ℕ) → IsKeyed fixed.mode → IsBlob fixed blob → byte_at s q ≡ Some x → (by : IsReached fixed s)
    → (slice_get blob (1024 * fixed.base + q) ≡ Some x) ⊎ CollisionCommitted fixed by.history blob (q / 1024)
read_binds fixed s blob q x keyed is h r =
    elim (byte_binds fixed r.history blob q x keyed is r.legal (subst (λ (t : State). byte_at t q ≡ Some x) (sym r.is) h)) [
      | inl same ↦ inl same
      | inr named ↦ inr (record { bytes = named.0.bytes; committed = named.0.chunk; pair = named.1 })
    ]

pub length_binds : (fixed : Fixed) (s : State) (blob : List ℕ) (l : ℕ) → IsKeyed fixed.mode → IsBlob fixed blob → s.recorded ≡ Some l → (by : IsReached fixed s)
    → (l ≡ length blob) ⊎ CollisionSettled fixed by.history blob l
length_binds fixed s blob l keyed is h r =
    elim (record_binds fixed r.history blob l keyed is r.legal (subst (λ (t : State). t.recorded ≡ Some l) (sym r.is) h)) [
      | inl same ↦ inl same
      | inr named ↦ inr (record { settled = named.0; pair = named.1 })
    ]

fits_reached : (fixed : Fixed) (s : State) (l : ℕ) → s.recorded ≡ Some l → IsReached fixed s → l ≤ 1024 * fixed.capacity
fits_reached fixed s l h r = recorded_fits fixed r.history l r.legal (subst (λ (t : State). t.recorded ≡ Some l) (sym r.is) h)

pub length_fits : (fixed : Fixed) (slots : List Slot) (o : Option ℕ) (p : List (Option (List ℕ))) (l : ℕ) → ∥ IsReached fixed (with_parents (state_in slots o) p) ∥₁ → o ≡ Some l → l ≤ 1024 * fixed.capacity
length_fits fixed slots o p l reached h = ∥∥₁_elim reached le_prop (fits_reached fixed (with_parents (state_in slots o) p) l h)

first_reached : (fixed : Fixed) (s : State) (l : ℕ) → s.recorded ≡ Some l → IsReached fixed s → fixed.base ≤ 0
first_reached fixed s l h r = omega (arith, base_recorded fixed r.history l r.legal (subst (λ (t : State). t.recorded ≡ Some l) (sym r.is) h))

pub length_first : (fixed : Fixed) (slots : List Slot) (o : Option ℕ) (p : List (Option (List ℕ))) (l : ℕ) → ∥ IsReached fixed (with_parents (state_in slots o) p) ∥₁ → o ≡ Some l → fixed.base ≡ 0
length_first fixed slots o p l reached h =
    let low : fixed.base ≤ 0 = ∥∥₁_elim reached le_prop (first_reached fixed (with_parents (state_in slots o) p) l h) in
    omega (arith, low)

-- what holds of the value in an option
pub if_some : (o : Option ℕ) (P : ℕ → Type 0) → ((l : ℕ) → o ≡ Some l → P l) → IfSome o P
if_some o P each = grind (arith, nat_tests)

-- a chunk of an accepted piece is the blob's, or a collision is exhibited
pub piece_binds : (fixed : Fixed) (piece : Piece) (group mask : ℕ) → IsKeyed fixed.mode → IsAcceptedPiece fixed piece → ChunksBind fixed piece group mask
piece_binds fixed piece group mask keyed accepted blob is c bytes hit has = elim (
    accepted_binds fixed.mode fixed.root.0 piece.text blob piece.start piece.len (piece.base + c) bytes keyed is.bytes accepted.bytes is.root accepted.accepted has
    ) [ inl same ↦ inl (subst (λ (n : ℕ). chunk_of blob (n + c) ≡ Some bytes) accepted.base same.0) | inr named ↦ inr named ]

pub slice_binds : (fixed : Fixed) (s : State) (blob : List ℕ) (start len : ℕ) (text : List ℕ) → IsKeyed fixed.mode → IsBlob fixed blob → serving s start len ≡ Text text
    → (by : IsReached fixed s) → (text ≡ slice_text fixed.mode blob start len) ⊎ CollisionOf fixed by.history blob (IsServed s start len)
slice_binds fixed s blob start len text keyed is h r = grind (arith, nat_tests, served_nodes_bind)

pub slice_accepted : (fixed : Fixed) (s : State) (start len : ℕ) (text : List ℕ) → serving s start len ≡ Text text → (by : IsReached fixed s)
    → IsAccepted fixed.mode fixed.root.0 text (slice_nodes text start len) ⊎ PiecesClash fixed by.history (IsServed s start len)
slice_accepted fixed s start len text h r =
    subst (λ (t : State). IsAccepted fixed.mode fixed.root.0 text (slice_nodes text start len) ⊎ PiecesClash fixed r.history (IsServed t start len)) r.is
    (served_accepted fixed r.history start len text r.legal (subst (λ (t : State). serving t start len ≡ Text text) (sym r.is) h))

pub parents_bind : (fixed : Fixed) (s : State) (blob : List ℕ) → IsKeyed fixed.mode → IsBlob fixed blob → (by : IsReached fixed s) → (m : ℕ) (bytes : List ℕ) → s.parents m ≡ Some bytes
    → (parent_of fixed.mode blob m ≡ Some bytes) ⊎ CollisionOf fixed by.history blob (λ node. node ≡ Parent m)
parents_bind fixed s blob keyed is r m bytes h = grind (arith, nat_tests, held_parent_binds)
