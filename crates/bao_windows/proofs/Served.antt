-- What comes of the slices of a blob with the root.
use Rattle.std.proofs.Common.{◌≡◌, ℕ, ◌+◌, ◌-◌, ◌/◌, ◌^◌, ◌<◌, ◌≤◌, true, List, length, is_some, IsSome, Option, None, Some, refl, sym, subst, arith, option_map}
use Rattle.b3tree.specs.declared.mode.Mode.{Mode}
use Rattle.b3tree.specs.declared.values.Hash.{Hash}
use Rattle.b3tree.specs.Hashing.{hash}
use Rattle.b3tree.specs.Valid.{IsKeyed}
use Rattle.bao_check.proofs.Locating.{chunk_in-place}
use Rattle.bao_check.proofs.Presence.{slice_present}
use Rattle.bao_check.proofs.Written.{claimed-chosen_text, slice_accepted}
use Rattle.bao_check.specs.Accepted.{IsAccepted, places_of, slice_nodes}
use Rattle.bao_check.specs.Pieces.{chunk_in}
use Rattle.bao_check.specs.Spans.{chunk_place}
use Rattle.bao_text.specs.Choice.{chunk_count, of_slice, slice_end, slice_start}
use Rattle.bao_text.specs.Cut.{claimed}
use Rattle.bao_text.specs.Nodes.{nodes}
use Rattle.bao_text.specs.Texts.{slice_text}
use Rattle.holders.specs.declared.piece.Piece.{Piece}
use Rattle.holders.specs.Pieces.{EndsBlob, places_in}
use Rattle.bao_windows.specs.Available.{slice_piece}

some_mapped : {X Y : Type 0} (f : X → Y) (o : Option X) → IsSome o → IsSome (option_map f o)
some_mapped f None is = is
some_mapped f (Some x) is = refl

-- what is there
some_there : (o : Option (List ℕ)) → is_some o ≡ true → (bytes : List ℕ) × (o ≡ Some bytes)
some_there None h = cc
some_there (Some bytes) h = (bytes, refl)

-- the slice of a blob, as a piece
abbrev pub the_slice : Mode → List ℕ → ℕ → ℕ → Piece
the_slice mode blob start len = slice_piece start len (slice_text mode blob start len)

-- a blob's slice has the chunks that its positions meet
pub present : (mode : Mode) (blob : List ℕ) (start len c : ℕ) → length blob < 2 ^ 64 → slice_start (length blob) start / 1024 ≤ c → c < (slice_end (length blob) start len + 1023) / 1024
    → is_some (chunk_in (slice_text mode blob start len) (places_in (the_slice mode blob start len)) c) ≡ true
present mode blob start len c short first last =
    let text = slice_text mode blob start len in
    let there = (slice_present (length blob) start len 8 c).1 (first, last) in
    let long : length blob ≡ claimed text = sym (claimed-chosen_text (of_slice (length blob) start len) mode blob short) in
    let placed = subst (λ (total : ℕ). IsSome (chunk_place (places_of (nodes total start len)) c)) long there in
    subst (λ (o : Option (List ℕ)). IsSome o) (sym (chunk_in-place text (places_of (slice_nodes text start len)) c)) (some_mapped _ _ placed)

-- it is accepted under the root
pub slice_good : (mode : Mode) (root : Hash) (blob : List ℕ) (start len : ℕ) → IsKeyed mode → length blob < 2 ^ 64 → hash mode blob ≡ root.0
    → IsAccepted mode root.0 (slice_text mode blob start len) (slice_nodes (slice_text mode blob start len) start len)
slice_good mode root blob start len keyed short is =
    subst (λ (r : List ℕ). IsAccepted mode r (slice_text mode blob start len) (slice_nodes (slice_text mode blob start len) start len)) is (slice_accepted mode blob start len keyed short)

-- a slice that reaches the end has the last chunk
pub ends_there : (mode : Mode) (blob : List ℕ) (start len : ℕ) → length blob < 2 ^ 64 → length blob ≤ start + len → EndsBlob (the_slice mode blob start len)
ends_there mode blob start len short reaches =
    let n : ℕ = length blob in
    let long : n ≡ claimed (slice_text mode blob start len) = sym (claimed-chosen_text (of_slice n start len) mode blob short) in
    subst (λ (total : ℕ). is_some (chunk_in (slice_text mode blob start len) (places_in (the_slice mode blob start len)) (chunk_count total - 1)) ≡ true) long
    (present mode blob start len (chunk_count n - 1) short (omega (arith, short)) (omega (arith, short, reaches)))
