-- What is held or recorded is the blob's, or a collision is exhibited.
use Rattle.std.proofs.lemmas.Bool.Decides.{nat_tests}
use Rattle.std.proofs.Common.{◌≡◌, ◌⊎◌, ℕ, ◌+◌, ◌-◌, ◌*◌, ◌/◌, ◌%◌, ◌<◌, nat_lt, true, List, length, take, drop, get_or, Option, Some, is_some, slice_get, sym, ap, subst, ◌∙◌, arith, inl, inr, length-take, length-drop}
use Rattle.std.proofs.lemmas.List.{get_or-drop, get_or-take}
use Rattle.std.proofs.lemmas.Option.{cond_some, get_or_from_slice_get, option_and_then_some, slice_get-get_or, slice_get_within}
use Rattle.b3tree.specs.Valid.{IsKeyed}
use Rattle.bao_text.specs.Choice.{chunk_count}
use Rattle.bao_check.specs.Pieces.{chunk_in, chunk_of}
use Rattle.bao_check.proofs.Laws.{accepted_binds}
use Rattle.holders.specs.declared.fixed.Fixed.{Fixed}
use Rattle.store_core.specs.declared.history.Event.{Event}
use Rattle.holders.specs.declared.piece.Piece.{Piece}
use Rattle.store_core.specs.Histories.{state_after}
use Rattle.store_core.specs.Laws.{ByteBinds, HeldBinds, IsCommitted, IsSettled, RecordBinds}
use Rattle.holders.specs.Blobs.{IsBlob, CollidesWith}
use Rattle.holders.specs.Pieces.{EndsBlob, IsAcceptedPiece, length_of, places_in}
use Rattle.store_core.specs.Stores.{ClaimBinds}
use Rattle.store_core.proofs.Origins.{held_is_committed, record_is_settled}

-- a committed chunk is the blob's
committed_binds : (fixed : Fixed) (history : List Event) (blob : List ℕ) (c : ℕ) (bytes : List ℕ) → IsKeyed fixed.mode → IsBlob fixed blob
    → (k : IsCommitted fixed history c bytes) → (chunk_of blob (fixed.base + c) ≡ Some bytes) ⊎ CollidesWith fixed blob k.piece
committed_binds fixed history blob c bytes keyed is k = elim (
    accepted_binds fixed.mode fixed.root.0 k.piece.text blob k.piece.start k.piece.len (k.piece.base + c) bytes keyed is.bytes k.accepted.bytes is.root k.accepted.accepted k.has
    ) [ inl same ↦ inl (subst (λ (n : ℕ). chunk_of blob (n + c) ≡ Some bytes) k.accepted.base same.0) | inr named ↦ inr named ]

pub held_binds : HeldBinds
held_binds fixed history blob c bytes keyed is legal h =
    let k : IsCommitted fixed history c bytes = held_is_committed fixed history c bytes legal h in
    elim (committed_binds fixed history blob c bytes keyed is k) [ inl same ↦ inl same | inr named ↦ inr (k, named) ]

-- a byte of a part of a list is the list's
part_byte : (blob : List ℕ) (n k q x : ℕ) → k < 1024 → q ≡ n + k → slice_get (take 1024 (drop n blob)) k ≡ Some x → slice_get blob q ≡ Some x
part_byte blob n k q x below place h =
    let within = slice_get_within (take 1024 (drop n blob)) k x h in
    let inside : q < length blob = omega (arith, within, length-take 1024 (drop n blob), length-drop n blob) in
    let part : get_or (take 1024 (drop n blob)) k 0 ≡ x = get_or_from_slice_get (take 1024 (drop n blob)) k x 0 h in
    let whole : get_or blob (n + k) 0 ≡ x = sym (get_or-drop n blob k 0) ∙ sym (get_or-take 1024 (drop n blob) k 0 below) ∙ part in
    slice_get-get_or blob q 0 inside ∙ ap (λ (m : ℕ). Some (get_or blob m 0)) place ∙ ap (λ (y : ℕ). Some y) whole

-- a byte of the blob's chunk is the blob's byte there
chunk_byte : (blob : List ℕ) (base q x : ℕ) (bytes : List ℕ) → chunk_of blob (base + q / 1024) ≡ Some bytes → slice_get bytes (q % 1024) ≡ Some x
    → slice_get blob (1024 * base + q) ≡ Some x
chunk_byte blob base q x bytes chunk h =
    let n : ℕ = base + q / 1024 in
    let parts = cond_some (nat_lt n (chunk_count (length blob))) (take 1024 (drop (1024 * n) blob)) bytes chunk in
    part_byte blob (1024 * n) (q % 1024) (1024 * base + q) x (omega arith) (omega arith) (subst (λ (xs : List ℕ). slice_get xs (q % 1024) ≡ Some x) (sym parts.1) h)

pub byte_binds : ByteBinds
byte_binds fixed history blob q x keyed is legal h =
    option_and_then_some (λ bytes. slice_get bytes (q % 1024)) ((state_after history).held (q / 1024)) x h (λ bytes held byte.
    let k : IsCommitted fixed history (q / 1024) bytes = held_is_committed fixed history (q / 1024) bytes legal held in
    elim (committed_binds fixed history blob (q / 1024) bytes keyed is k) [
      | inl same ↦ inl (chunk_byte blob fixed.base q x bytes same byte)
      | inr named ↦ inr (record { bytes = bytes; chunk = k; byte = byte }, named)
    ])

-- what is there
some_there : (o : Option (List ℕ)) → is_some o ≡ true → (bytes : List ℕ) × (o ≡ Some bytes)
some_there o h = grind (arith, nat_tests)

-- the length that a piece with the last chunk claims is the blob's
pub claim_binds : (fixed : Fixed) (piece : Piece) → IsKeyed fixed.mode → IsAcceptedPiece fixed piece → EndsBlob piece → ClaimBinds fixed piece
claim_binds fixed piece keyed accepted there blob is =
    let number : ℕ = chunk_count (length_of piece) - 1 in
    let last = some_there (chunk_in piece.text (places_in piece) number) there in
    let ends : number + 1 ≡ chunk_count (length_of piece) = omega arith in
    elim (accepted_binds fixed.mode fixed.root.0 piece.text blob piece.start piece.len number last.0 keyed is.bytes accepted.bytes is.root accepted.accepted last.1) [
      | inl same ↦ inl (same.1 ends)
      | inr named ↦ inr named
    ]

settled_binds : (fixed : Fixed) (history : List Event) (blob : List ℕ) (l : ℕ) → IsKeyed fixed.mode → IsBlob fixed blob
    → (k : IsSettled fixed history l) → (l ≡ length blob) ⊎ CollidesWith fixed blob k.piece
settled_binds fixed history blob l keyed is k = grind (arith, nat_tests, claim_binds)

pub record_binds : RecordBinds
record_binds fixed history blob l keyed is legal h =
    let k : IsSettled fixed history l = record_is_settled fixed history l legal h in
    elim (settled_binds fixed history blob l keyed is k) [ inl same ↦ inl same | inr named ↦ inr (k, named) ]
