-- Bytes of a blob that are known at places, one after another.
use Rattle.std.proofs.Common.{◌≡◌, ◌⊎◌, ℕ, ◌+◌, ◌-◌, ◌*◌, ◌<◌, ◌≤◌, nat_lt, List, ◌++◌, length, take, drop, get_or, Some, slice_get, slice_index, ◌∙◌, sym, ap, subst, arith, inl, inr, refl, append_assoc, min, ◌%◌, length-append, length-drop, length-take, length-take-le}
use Rattle.std.proofs.lemmas.Bool.{cases_order}
use Rattle.std.proofs.lemmas.List.{get_or-drop, get_or-take, get_or_append_left, get_or-append_right}
use Rattle.std.proofs.lemmas.Option.{cond_some, slice_get-get_or}
use Rattle.bao_check.specs.Pieces.{chunk_of}
use Rattle.bao_text.specs.Choice.{chunk_count}
use Rattle.holders.specs.Blobs.{HasCollision}
use Rattle.holders.specs.declared.fixed.Fixed.{Fixed}
use Rattle.holders.specs.declared.piece.Piece.{Piece}
use Rattle.bao_windows.specs.Windows.{Adds, AllAt, AreBytesAt, IsAt, IsOfAccepted}

pub place_of : (i n : ℕ) → (i < n) ⊎ (n ≤ i)
place_of i n = elim (cases_order i n) [
  | inl same ↦ inr (omega (arith, same))
  | inr (inl low) ↦ inl low
  | inr (inr high) ↦ inr (omega (arith, high))
]

-- those of one place and those that come next
pub both : (Holds : ℕ → ℕ → Type 0) (at : ℕ) (xs ys : List ℕ) → AllAt Holds at xs → AllAt Holds (at + length xs) ys → AllAt Holds at (xs ++ ys)
both Holds at xs ys first second i less = elim (place_of i (length xs)) [
  | inl low ↦ subst (λ (b : ℕ). Holds (at + i) b) (sym (get_or_append_left xs ys 0 i low)) (first i low)
  | inr high ↦
      let place : at + length xs + (i - length xs) ≡ at + i = omega (arith, high) in
      subst (λ (b : ℕ). Holds (at + i) b) (sym (get_or-append_right xs ys (length xs) i 0 refl high))
      (subst (λ (o : ℕ). Holds o (slice_index ys (i - length xs))) place (second (i - length xs) (omega (arith, less, high, length-append xs ys))))
]

-- a beginning of them
pub first_of : (Holds : ℕ → ℕ → Type 0) (at n : ℕ) (bytes : List ℕ) → n ≤ length bytes → AllAt Holds at bytes → AllAt Holds at (take n bytes)
first_of Holds at n bytes within each i less =
    let low : i < n = omega (arith, less, length-take-le n bytes within) in
    subst (λ (b : ℕ). Holds (at + i) b) (sym (get_or-take n bytes i 0 low)) (each i (omega (arith, low, within)))

-- a chunk of the blob is of its bytes
pub chunk_byte : (blob bytes : List ℕ) (c i : ℕ) → chunk_of blob c ≡ Some bytes → i < length bytes → slice_get blob (1024 * c + i) ≡ Some (slice_index bytes i)
chunk_byte blob bytes c i chunk below =
    let part : List ℕ = take 1024 (drop (1024 * c) blob) in
    let is : part ≡ bytes = (cond_some (nat_lt c (chunk_count (length blob))) part bytes chunk).1 in
    let long : length part ≡ length bytes = ap length is in
    let low : i < 1024 = omega (arith, below, long, length-take 1024 (drop (1024 * c) blob)) in
    let inside : 1024 * c + i < length blob = omega (arith, below, long, length-take 1024 (drop (1024 * c) blob), length-drop (1024 * c) blob) in
    let byte : get_or blob (1024 * c + i) 0 ≡ get_or bytes i 0 =
    sym (get_or-drop (1024 * c) blob i 0) ∙ (sym (get_or-take 1024 (drop (1024 * c) blob) i 0 low) ∙ ap (λ (xs : List ℕ). get_or xs i 0) is) in
    slice_get-get_or blob (1024 * c + i) 0 inside ∙ ap (λ (x : ℕ). Some x) byte

-- and it has as many as the blob has there
pub chunk_long : (blob bytes : List ℕ) (c e : ℕ) → chunk_of blob c ≡ Some bytes → 1024 * c < e → e ≤ length blob → (e % 1024 ≡ 0) ⊎ (e ≡ length blob)
    → length bytes ≡ min 1024 (e - 1024 * c)
chunk_long blob bytes c e chunk below within ends =
    let part : List ℕ = take 1024 (drop (1024 * c) blob) in
    let is : part ≡ bytes = (cond_some (nat_lt c (chunk_count (length blob))) part bytes chunk).1 in
    let long : length part ≡ length bytes = ap length is in
    elim ends [
      | inl whole ↦ omega (arith, long, below, within, whole, length-take 1024 (drop (1024 * c) blob), length-drop (1024 * c) blob)
      | inr all ↦ omega (arith, long, below, within, all, length-take 1024 (drop (1024 * c) blob), length-drop (1024 * c) blob)
    ]

pub none_at : (handed : Piece → Type 0) (fixed : Fixed) (at : ℕ) (bytes : List ℕ) → length bytes ≡ 0 → AreBytesAt handed fixed at bytes
none_at handed fixed at bytes none = record { slices = λ i less. absurd (omega (arith, less, none)); each = λ blob is i less. absurd (omega (arith, less, none)) }

pub both_at : (handed : Piece → Type 0) (fixed : Fixed) (at : ℕ) (xs ys : List ℕ) → AreBytesAt handed fixed at xs → AreBytesAt handed fixed (at + length xs) ys
    → AreBytesAt handed fixed at (xs ++ ys)
both_at handed fixed at xs ys first second = record {
  slices = both (IsOfAccepted handed fixed) at xs ys first.slices second.slices;
  each = λ blob is. both (IsAt blob (HasCollision handed fixed blob)) at xs ys (first.each blob is) (second.each blob is);
}

pub first_at : (handed : Piece → Type 0) (fixed : Fixed) (at n : ℕ) (bytes : List ℕ) → n ≤ length bytes → AreBytesAt handed fixed at bytes → AreBytesAt handed fixed at (take n bytes)
first_at handed fixed at n bytes within all = record {
  slices = first_of (IsOfAccepted handed fixed) at n bytes within all.slices;
  each = λ blob is. first_of (IsAt blob (HasCollision handed fixed blob)) at n bytes within (all.each blob is);
}

-- and more follow
pub adds_more : (handed : Piece → Type 0) (fixed : Fixed) (at m n : ℕ) (old mid new : List ℕ) → Adds handed fixed at m old mid → Adds handed fixed (at + m) n mid new
    → Adds handed fixed at (m + n) old new
adds_more handed fixed at m n old mid new first second =
    let xs : List ℕ = first.bytes in
    let ys : List ℕ = second.bytes in
    let next : AreBytesAt handed fixed (at + length xs) ys = subst (λ (k : ℕ). AreBytesAt handed fixed (at + k) ys) (sym first.size) second.each in
    record {
      bytes = xs ++ ys;
      is = second.is ∙ ap (λ (s : List ℕ). s ++ ys) first.is ∙ append_assoc old xs ys;
      size = omega (arith, length-append xs ys, first.size, second.size);
      each = both_at handed fixed at xs ys first.each next;
    }
