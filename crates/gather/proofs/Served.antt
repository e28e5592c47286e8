-- The slices of a blob with the root, for which the store has room.
use Rattle.gather.proofs.Common.{◌≡◌, ◌∙◌, ℕ, ◌+◌, ◌-◌, ◌*◌, ◌/◌, ◌^◌, ◌<◌, ◌≤◌, List, [], length, true, is_some, IsSome, Option, None, Some, refl, sym, subst, arith, option_map, IsKeyed, IsAccepted, places_of, slice_nodes, chunk_in, chunk_place, chunk_in-place, slice_present, claimed-chosen_text, slice_accepted, chunk_count, of_slice, slice_end, slice_start, nodes, slice_text, Fixed, has_room_of, IsBlob, EndsBlob, holds_chunk, length_of, places_in}
use Rattle.bao_check.proofs.Descents.{parent_wanted}
use Rattle.bao_check.proofs.Parenting.{parent_in-some}
use Rattle.bao_check.specs.Parents.{parent_place}
use Rattle.holders.specs.Pieces.{holds_parent}
use Rattle.holders.specs.Available.{IsServed, slice_of}

some_mapped : {X Y : Type 0} (f : X → Y) (o : Option X) → IsSome o → IsSome (option_map f o)
some_mapped f None is = is
some_mapped f (Some x) is = refl

module _ (fixed : Fixed) (blob : List ℕ) (short : length blob < 2 ^ 64) where
  long : (start len : ℕ) → length_of (slice_of fixed blob start len) ≡ length blob
  long start len = claimed-chosen_text (of_slice (length blob) start len) fixed.mode blob short

  present : (start len c : ℕ) → slice_start (length blob) start / 1024 ≤ c → c < (slice_end (length blob) start len + 1023) / 1024
      → is_some (chunk_in (slice_text fixed.mode blob start len) (places_in (slice_of fixed blob start len)) c) ≡ true
  present start len c first last =
      let text = slice_text fixed.mode blob start len in
      let there = (slice_present (length blob) start len 8 c).1 (first, last) in
      let placed = subst (λ (total : ℕ). IsSome (chunk_place (places_of (nodes total start len)) c)) (sym (long start len)) there in
      subst (λ (o : Option (List ℕ)). IsSome o) (sym (chunk_in-place text (places_of (slice_nodes text start len)) c)) (some_mapped _ _ placed)

  last_there : (start len : ℕ) → length blob ≤ start + len → EndsBlob (slice_of fixed blob start len)
  last_there start len reaches =
      let n = length blob in
      subst (λ (total : ℕ). is_some (chunk_in (slice_text fixed.mode blob start len) (places_in (slice_of fixed blob start len)) (chunk_count total - 1)) ≡ true) (sym (long start len))
      (present start len (chunk_count n - 1) (omega (arith, short)) (omega (arith, short, reaches)))

  -- the chunk of a store that begins with the blob's first chunk
  counted : (start len c : ℕ) → fixed.base ≡ 0 → is_some (chunk_in (slice_text fixed.mode blob start len) (places_in (slice_of fixed blob start len)) c) ≡ true
      → holds_chunk (slice_of fixed blob start len) c ≡ true
  counted start len c first there =
      let at : c ≡ fixed.base + c = omega (arith, first) in
      subst (λ (n : ℕ). is_some (chunk_in (slice_text fixed.mode blob start len) (places_in (slice_of fixed blob start len)) n) ≡ true) at there

  reached : (c start len : ℕ) → fixed.base ≡ 0 → c < chunk_count (length blob) → start ≤ 1024 * c → 1024 * c < start + len → holds_chunk (slice_of fixed blob start len) c ≡ true
  reached c start len first below before after = counted start len c first (present start len c (omega (arith, before)) (omega (arith, below, before, after)))

  -- a parent, where its right part's first chunk is of the slice
  parented : (start len m : ℕ) → 0 < m → m < chunk_count (length blob) → start ≤ 1024 * m → 1024 * m < start + len → holds_parent (slice_of fixed blob start len) m ≡ true
  parented start len m some below before after =
      let n = length blob in
      let text = slice_text fixed.mode blob start len in
      let there : is_some (parent_place (places_of (nodes n start len)) m) ≡ true =
      parent_wanted (of_slice n start len) m (record { before = omega (arith, below, before, after); after = omega (arith, below, before, after) }) 0 n [] 8 8 some (omega (arith, below)) in
      parent_in-some text (places_in (slice_of fixed blob start len)) m
      ∙ subst (λ (total : ℕ). is_some (parent_place (places_of (nodes total start len)) m) ≡ true) (sym (long start len)) there

pub served : (fixed : Fixed) (blob : List ℕ) → IsKeyed fixed.mode → IsBlob fixed blob → fixed.base ≡ 0 → chunk_count (length blob) ≤ fixed.capacity → fixed.capacity ≤ 65536
    → IsServed fixed blob
served fixed blob keyed is first room limit =
    let short : length blob < 2 ^ 64 = omega (arith, room, limit) in
    record {
      fits = has_room_of fixed (length blob) first (omega (arith, room));
      room = room;
      few = omega (arith, room, limit);
      accepted = λ start len.
          subst (λ (root : List ℕ). IsAccepted fixed.mode root (slice_text fixed.mode blob start len) (slice_nodes (slice_text fixed.mode blob start len) start len)) is.root
          (slice_accepted fixed.mode blob start len keyed short);
      claims = long fixed blob short;
      ends = last_there fixed blob short;
      holds = λ c start len below before after. reached fixed blob short c start len first below before after;
      parents = λ m start len. parented fixed blob short start len m;
    }
