-- What an accepted slice has of its range a blob with the same root has there, or a collision is exhibited.
use Rattle.std.proofs.Common.{◌≡◌, ◌⊎◌, ◌∙◌, ℕ, zero, suc, ◌+◌, ◌-◌, ◌*◌, ◌/◌, ◌^◌, ◌<◌, ◌≤◌, ◌==◌, ◌&&◌, max, min, List, [], ◌∷◌, ◌++◌, length, take, drop, append-nil, Bool, true, false, if◌then◌else◌, Option, None, Some, IsSome, nat_lt, inl, inr, arith, refl, sym, subst, ap, length-append, length-drop, length-take, eq-eqb, take-add}
use Rattle.std.specs.Option.{option_map}
use Rattle.std.specs.List.{Contains, flat_map}
use Rattle.std.proofs.lemmas.Bool.{cases_Bool, cases_lt, eqb-true}
use Rattle.std.proofs.lemmas.Bool.Decides.{eqb_tells}
use Rattle.std.proofs.lemmas.List.{drop-drop, drop-take, drop_all, length-take-le, take-append-drop, take-take, take_all}
use Rattle.std.proofs.lemmas.Nat.{le_bytes_8}
use Rattle.b3tree.specs.declared.mode.Mode.{Mode}
use Rattle.b3tree.specs.Hashing.{hash}
use Rattle.b3tree.specs.Pieces.{piece}
use Rattle.b3tree.specs.Tree.{left_len}
use Rattle.b3tree.specs.Valid.{AreBytes, IsKeyed}
use Rattle.b3tree.proofs.BlockWords.{AreBytes-take}
use Rattle.bao_text.specs.declared.choice.Choice.{Choice}
use Rattle.bao_text.specs.declared.kinds.Part.TheVariants.{Slice}
use Rattle.bao_text.specs.Choice.{chunk_count, of_slice, slice_end, slice_start, wants}
use Rattle.bao_text.specs.Cut.{claimed}
use Rattle.bao_text.specs.Nodes.{TreeNode, Side, chosen_nodes, left, placed_nodes, right, subtree_nodes, subtree_size}
use Rattle.bao_text.specs.Texts.{length_text, node_text, slice_text}
use Rattle.bao_text.proofs.Halves.{by_halves, far_nodes, near_nodes}
use Rattle.bao_text.proofs.Laws.{chosen_text-nodes}
use Rattle.bao_text.proofs.SubtreeText.{Parts}
use Rattle.bao_check.specs.Accepted.{IsAccepted, bytes_at, places_of, slice_nodes}
use Rattle.bao_check.specs.Decoded.{Kind, chunk_bytes, decoded, kinds_size, subtree_kinds}
use Rattle.bao_check.specs.Inputs.{NamesCollision}
use Rattle.bao_check.specs.Pieces.{chunk_in}
use Rattle.bao_check.specs.Spans.{chunk_place}
use Rattle.bao_check.proofs.ChunkBytes.{chunk_bytes-chunk, chunk_bytes-parent, kinds-anywhere, kinds-unwanted, kinds_size-chunk, kinds_size-nodes, kinds_size-parent}
use Rattle.bao_check.proofs.EachNode.{leaf_nodes}
use Rattle.bao_check.proofs.Laws.{accepted_binds}
use Rattle.bao_check.proofs.Lists.{Contains-head, Contains-tail, nodes_size}
use Rattle.bao_check.proofs.Locating.{chunk_in-place}
use Rattle.bao_check.proofs.NodeBinding.{nodes_bind}
use Rattle.bao_check.proofs.Presence.{Meets, Meets-from_wants, chunk_far, chunk_near, slice_present, wants-from_Meets}
use Rattle.bao_check.proofs.Written.{claimed-chosen_text, slice_accepted}
use Rattle.bao_decode.specs.Ranges.{first_decoded, part_bytes, written_count}
use Rattle.determined_program.proofs.NodeBytes.{own_places, placed_bytes}

-- it holds of each number below n, or else something other holds
each_or : (n : ℕ) (P : ℕ → Type 0) (Q : Type 0) → ((k : ℕ) → P k ⊎ Q) → ((k : ℕ) → k < n → P k) ⊎ Q
each_or zero P Q each = inl (λ k below. absurd (omega (arith, below)))
each_or (suc n) P Q each = elim (each n) [
  | inr other ↦ inr other
  | inl here ↦ elim (each_or n P Q each) [
    | inr other ↦ inr other
    | inl before ↦ inl (λ k below. elim (cases_lt k n) [ inl less ↦ before k less | inr last ↦ subst P (omega (arith, last, below)) here ])
  ]
]

pub some_or : {X : Type 0} (o : Option X) → (o ≡ None) ⊎ ((x : X) × (o ≡ Some x))
some_or None = inl refl
some_or (Some x) = inr (x, refl)

-- a beginning is as many bytes as it has
pub beginning : (n : ℕ) (bytes all : List ℕ) → bytes ≡ take n all → bytes ≡ take (length bytes) all
beginning n bytes all is =
    let few : length bytes ≤ n = omega (arith, ap (λ (xs : List ℕ). length xs) is, length-take n all) in
    sym (take_all (length bytes) bytes (omega arith)) ∙ ap (λ (xs : List ℕ). take (length bytes) xs) is ∙ take-take (length bytes) n all few

some_too : {X Y : Type 0} (f : X → Y) (o : Option X) → IsSome o → IsSome (option_map f o)
some_too f None some = some
some_too f (Some x) some = some

chunk_is : (there : Bool) (bytes other : List ℕ) → (if there then Some bytes else None) ≡ Some other → bytes ≡ other
chunk_is true bytes other is = cc
chunk_is false bytes other is = cc

gap : (a b f : ℕ) → f ≤ a → b - f - (a - f) ≡ b - a
gap a b f low = omega (arith, low)

-- a piece is its two parts
joined : (blob : List ℕ) (lo mid hi : ℕ) → lo ≤ mid → mid ≤ hi → piece blob lo (mid - lo) ++ piece blob mid (hi - mid) ≡ piece blob lo (hi - lo)
joined blob lo mid hi low high =
    let size : hi - lo ≡ mid - lo + (hi - mid) = omega (arith, low, high) in
    let at : lo + (mid - lo) ≡ mid = omega (arith, low) in
    sym (ap (λ (n : ℕ). piece blob lo n) size
    ∙ take-add (mid - lo) (hi - mid) (drop lo blob)
    ∙ ap (λ (xs : List ℕ). piece blob lo (mid - lo) ++ take (hi - mid) xs) (drop-drop (mid - lo) lo blob ∙ ap (λ (k : ℕ). drop k blob) at))

module _ (text blob : List ℕ) (choice : Choice) (chunks : choice.chunks ≡ true) (total : ℕ) (starts : choice.start < max total 1) where
  -- the positions of whole chunks that the choice wants
  abbrev first : ℕ
  first = 1024 * (choice.start / 1024)

  abbrev after : ℕ
  after = 1024 * ((choice.end + 1023) / 1024)

  -- those of a subtree: from the one on, up to and without the other
  abbrev from : ℕ → ℕ
  from number = max (1024 * number) first

  abbrev to : ℕ → ℕ → ℕ
  to number n = min (1024 * number + n) after

  -- it consists of whole chunks, or ends where everything does
  abbrev Inside : ℕ → ℕ → Type 0
  Inside number n = (1024 * (n / 1024) ≡ n) ⊎ (1024 * number + n ≡ total)

  -- the chunks that it has are the blob's, as far as they go
  abbrev AreBlobs : ℕ → ℕ → List (ℕ × TreeNode) → Type 0
  AreBlobs number n places = (k : ℕ) → number ≤ k → k < number + chunk_count n → (bytes : List ℕ) → chunk_in text places k ≡ Some bytes → bytes ≡ take (length bytes) (drop (1024 * k) blob)

  abbrev its_bytes : ℕ → ℕ → ℕ → List ℕ
  its_bytes number n at = chunk_bytes (subtree_kinds choice number n) (drop at text)

  -- its chunks have as many bytes as there are such positions, and are what the blob has there
  record IsPiece (number n at : ℕ) (places : List (ℕ × TreeNode)) : Type 0 where
    count : length (its_bytes number n at) ≡ to number n - from number
    same : AreBlobs number n places → its_bytes number n at ≡ piece blob (from number) (to number n - from number)

  abbrev Has : ℕ → ℕ → List Side → ℕ → Type 0
  Has number n sides source =
      (at : ℕ) → Inside number n → at + kinds_size (subtree_kinds choice number n) ≤ length text → IsPiece number n at (placed_nodes at (subtree_nodes choice number n sides source))

  has_none : (number n at : ℕ) (places : List (ℕ × TreeNode)) → Inside number n → wants choice (1024 * number) n ≡ false → IsPiece number n at places
  has_none number n at places inside skipped =
      let none : its_bytes number n at ≡ [] = ap (λ (ks : List Kind). chunk_bytes ks (drop at text)) (kinds-unwanted choice number n skipped) in
      let empty : to number n - from number ≡ 0 = elim (cases_lt (1024 * number) choice.end) [
        | inr past ↦ omega (arith, past)
        | inl before ↦ elim (cases_lt choice.start (1024 * number + max n 1)) [
          | inl meets ↦ let bad : true ≡ false = sym (wants-from_Meets choice (1024 * number) n (record { before = before; after = meets })) ∙ skipped in cc
          | inr late ↦ elim inside [ inl whole ↦ omega (arith, late, whole) | inr ends ↦ omega (arith, late, ends, starts) ]
        ]
      ] in
      record {
        count = ap (λ (xs : List ℕ). length xs) none ∙ sym empty;
        same = λ blobs. none ∙ ap (λ (k : ℕ). take k (drop (from number) blob)) (sym empty);
      }

  has_chunk : (number n : ℕ) (sides : List Side) (source : ℕ) → n ≤ 1024 → Has number n sides source
  has_chunk number n sides source one at inside fits = elim (cases_Bool (wants choice (1024 * number) n)) [
    | inr skipped ↦ has_none number n at (placed_nodes at (subtree_nodes choice number n sides source)) inside skipped
    | inl wanted ↦
        let meets : Meets choice (1024 * number) n = Meets-from_wants choice (1024 * number) n wanted in
        let own : its_bytes number n at ≡ take n (drop at text) = chunk_bytes-chunk choice number n (drop at text) wanted chunks one in
        let long : length (take n (drop at text)) ≡ n = length-take-le n (drop at text) (omega (arith, fits, kinds_size-chunk choice number n wanted chunks one, length-drop at text)) in
        let here : from number ≡ 1024 * number = omega (arith, meets.after, one) in
        let size : to number n - from number ≡ n = omega (arith, meets.after, meets.before, one) in
        record {
          count = ap (λ (xs : List ℕ). length xs) own ∙ long ∙ sym size;
          same = λ blobs.
              let there : chunk_in text (placed_nodes at (subtree_nodes choice number n sides source)) number ≡ Some (take n (drop at text)) =
              ap (λ (nodes : List TreeNode). chunk_in text (placed_nodes at nodes) number) (leaf_nodes choice number n sides source wanted one chunks) ∙ rw (eq-eqb number number refl) refl in
              own ∙ blobs number (omega arith) (omega arith) (take n (drop at text)) there ∙ (λ i. take ((long ∙ sym size) i) (drop (sym here i) blob));
        }
  ]

  has_parent : (number n : ℕ) (sides : List Side) (source : ℕ) → 1024 < n → Parts n (left_len n) → Has number (left_len n) (sides ++ left ∷ []) (source + 64)
      → Has (number + left_len n / 1024) (n - left_len n) (sides ++ right ∷ []) (source + 64 + subtree_size (left_len n)) → Has number n sides source
  has_parent number n sides source more parts in_near in_far at inside fits = elim (cases_Bool (wants choice (1024 * number) n)) [
    | inr skipped ↦ has_none number n at (placed_nodes at (subtree_nodes choice number n sides source)) inside skipped
    | inl wanted ↦
        let l : ℕ = left_len n in
        let middle : ℕ = number + l / 1024 in
        let nears : List TreeNode = near_nodes choice number n sides source in
        let fars : List TreeNode = far_nodes choice number n sides source in
        let all : List (ℕ × TreeNode) = placed_nodes at (subtree_nodes choice number n sides source) in
        let size = kinds_size-parent choice number n l wanted more refl in
        let near_size : nodes_size nears ≡ kinds_size (subtree_kinds choice number l) =
        sym (kinds_size-nodes nears) ∙ ap kinds_size (kinds-anywhere choice number l (sides ++ left ∷ []) (source + 64)) in
        let far_place : ℕ = at + 64 + nodes_size nears in
        let inside_far : Inside middle (n - l) = elim inside [ inl whole ↦ inl (omega (arith, whole, parts.whole)) | inr ends ↦ inr (omega (arith, ends, parts.whole, parts.below)) ] in
        let near : IsPiece number l (at + 64) (placed_nodes (at + 64) nears) = in_near (at + 64) (inl parts.whole) (omega (arith, fits, size)) in
        let far : IsPiece middle (n - l) far_place (placed_nodes far_place fars) = in_far far_place inside_far (omega (arith, fits, size, near_size)) in
        let near_at : drop 64 (drop at text) ≡ drop (at + 64) text = drop-drop 64 at text in
        let far_at : drop (kinds_size (subtree_kinds choice number l)) (drop 64 (drop at text)) ≡ drop far_place text =
        (λ i. drop (sym near_size i) (near_at i)) ∙ drop-drop (nodes_size nears) (at + 64) text in
        let parted : its_bytes number n at ≡ its_bytes number l (at + 64) ++ its_bytes middle (n - l) far_place =
        chunk_bytes-parent choice number n l (drop at text) wanted more refl
        ∙ (λ i. chunk_bytes (subtree_kinds choice number l) (near_at i) ++ chunk_bytes (subtree_kinds choice middle (n - l)) (far_at i)) in
        record {
          count = ap (λ (xs : List ℕ). length xs) parted ∙ length-append (its_bytes number l (at + 64)) (its_bytes middle (n - l) far_place)
              ∙ omega (arith, near.count, far.count, parts.whole, parts.below);
          same = λ blobs.
              let near_is = near.same (λ k low high bytes there.
              blobs k low (omega (arith, high, parts.whole, parts.below)) bytes
              (chunk_in-place text all k ∙ ap (option_map (λ span. take span.len (drop span.at text))) (chunk_near choice number n sides source at more k (omega (arith, high, parts.whole, parts.some)))
              ∙ sym (chunk_in-place text (placed_nodes (at + 64) nears) k) ∙ there)) in
              let far_is = far.same (λ k low high bytes there.
              blobs k (omega (arith, low)) (omega (arith, high, parts.whole, parts.below)) bytes
              (chunk_in-place text all k ∙ ap (option_map (λ span. take span.len (drop span.at text))) (chunk_far choice number n sides source at more k low) ∙ sym (chunk_in-place text (placed_nodes far_place fars) k) ∙ there)) in
              parted ∙ (λ i. near_is i ++ far_is i)
              ∙ elim (cases_lt after (1024 * number + l)) [
                | inl early ↦
                    let none : to middle (n - l) - from middle ≡ 0 = omega (arith, early, parts.whole) in
                    let whole : to number l - from number ≡ to number n - from number = omega (arith, early, parts.below) in
                    (λ i. piece blob (from number) (whole i) ++ take (none i) (drop (from middle) blob)) ∙ append-nil (piece blob (from number) (to number n - from number))
                | inr late ↦ elim (cases_lt (1024 * number + l) first) [
                  | inl before ↦
                      let none : to number l - from number ≡ 0 = omega (arith, before) in
                      let same_from : from middle ≡ from number = omega (arith, before, parts.whole) in
                      let same_to : to middle (n - l) - from middle ≡ to number n - from number = omega (arith, before, parts.whole, parts.below) in
                      (λ i. take (none i) (drop (from number) blob) ++ piece blob (same_from i) (same_to i))
                  | inr between ↦
                      let mid : ℕ = 1024 * number + l in
                      let near_to : to number l - from number ≡ mid - from number = omega (arith, late) in
                      let far_from : from middle ≡ mid = omega (arith, between, parts.whole) in
                      let far_to : to middle (n - l) - from middle ≡ to number n - mid = omega (arith, between, parts.whole, parts.below) in
                      (λ i. piece blob (from number) (near_to i) ++ piece blob (far_from i) (far_to i))
                      ∙ joined blob (from number) mid (to number n) (omega (arith, between)) (omega (arith, late, parts.below))
                ]
              ];
        }
  ]

  has : (number n : ℕ) (sides : List Side) (source : ℕ) → Has number n sides source
  has = by_halves Has has_chunk has_parent

-- of an accepted slice
module _ (mode : Mode) (root text : List ℕ) (start len : ℕ) (accepted : IsAccepted mode root text (slice_nodes text start len)) where
  abbrev total : ℕ
  total = claimed text

  abbrev choice : Choice
  choice = of_slice total start len

  abbrev places : List (ℕ × TreeNode)
  places = places_of (slice_nodes text start len)

  starts : choice.start < max total 1
  starts = omega arith

  module _ (blob : List ℕ) where
    whole : IsPiece text blob choice refl total starts 0 total 8 places
    whole =
        has text blob choice refl total starts 0 total [] 8 8 (inr (omega arith))
        (omega (arith, accepted.ends, kinds_size-nodes (slice_nodes text start len), ap kinds_size (kinds-anywhere choice 0 total [] 8)))

    decoded_is : decoded text start len ≡ its_bytes text blob choice refl total starts 0 total 8
    decoded_is = ap (λ (ks : List Kind). chunk_bytes ks (drop 8 text)) (kinds-anywhere choice 0 total [] 8)

  -- the positions of its chunks
  abbrev low : ℕ
  low = 1024 * (slice_start total start / 1024)

  abbrev end : ℕ
  end = min total (1024 * ((slice_end total start len + 1023) / 1024))

  size_is : min (1024 * 0 + total) (1024 * ((slice_end total start len + 1023) / 1024)) - max (1024 * 0) low ≡ end - low
  size_is = omega arith

  decoded_count : length (decoded text start len) ≡ end - low
  decoded_count = ap (λ (xs : List ℕ). length xs) (decoded_is []) ∙ (whole []).count ∙ size_is

  -- what it has is what the blob has there, where its chunks are the blob's
  pub decoded_same : (blob : List ℕ) → ((k : ℕ) → k < chunk_count total → (bytes : List ℕ) → chunk_in text places k ≡ Some bytes → bytes ≡ take (length bytes) (drop (1024 * k) blob))
      → decoded text start len ≡ piece blob low (end - low)
  decoded_same blob each =
      let at : max (1024 * 0) low ≡ low = omega arith in
      decoded_is blob ∙ (whole blob).same (λ k least most. each k (omega (arith, most))) ∙ (λ i. piece blob (at i) (size_is i))

  -- those of the range
  abbrev skip : ℕ
  skip = min start total - first_decoded (Slice start len) total

  abbrev stop : ℕ
  stop = min (start + len) total - first_decoded (Slice start len) total

  before : first_decoded (Slice start len) total ≤ min start total
  before = omega arith

  within : stop ≤ end - low
  within = omega arith

  -- it has as many bytes of the range as are counted
  pub range_count : length (part_bytes (Slice start len) text) ≡ written_count (Slice start len) text
  range_count =
      let taken : length (take stop (decoded text start len)) ≡ stop = length-take-le stop (decoded text start len) (omega (arith, decoded_count, within)) in
      length-drop skip (take stop (decoded text start len)) ∙ ap (λ (k : ℕ). k - skip) taken
      ∙ gap (min start total) (min (start + len) total) (first_decoded (Slice start len) total) before

  module _ (blob : List ℕ) where
    -- each chunk that it has is the blob's, and the last one certifies the blob's length
    abbrev IsBlobs : ℕ → Type 0
    IsBlobs k = (bytes : List ℕ) → chunk_in text places k ≡ Some bytes → (bytes ≡ take (length bytes) (drop (1024 * k) blob)) × (k + 1 ≡ chunk_count total → total ≡ length blob)

    -- it has the last one where the range goes to the end
    certified : ((k : ℕ) → k < chunk_count total → IsBlobs k) → (total ≤ start) ⊎ (total < start + len) → total ≡ length blob
    certified each ends =
        let last : ℕ = chunk_count total - 1 in
        let present : IsSome (chunk_place places last) = (slice_present total start len 8 last).1 (omega arith, elim ends [ inl past ↦ omega (arith, past) | inr end ↦ omega (arith, end) ]) in
        elim (some_or (chunk_in text places last)) [
          | inl none ↦
              let bad : IsSome (chunk_in text places last) = subst (λ (o : Option (List ℕ)). IsSome o) (sym (chunk_in-place text places last)) (some_too (λ span. take span.len (drop span.at text)) (chunk_place places last) present) in
              let no : IsSome {T = List ℕ} None = subst (λ (o : Option (List ℕ)). IsSome o) none bad in
              cc
          | inr found ↦ (each last (omega arith) found.0 found.1).1 (omega arith)
        ]

    same_range : ((k : ℕ) → k < chunk_count total → IsBlobs k) → part_bytes (Slice start len) text ≡ piece blob start len
    same_range each =
        let own : decoded text start len ≡ piece blob low (end - low) = decoded_same blob (λ k below bytes there. (each k below bytes there).0) in
        let cut : part_bytes (Slice start len) text ≡ drop skip (take stop (drop low blob)) =
        ap (λ (xs : List ℕ). drop skip (take stop xs)) own ∙ ap (λ (xs : List ℕ). drop skip xs) (take-take stop (end - low) (drop low blob) within) in
        elim (cases_lt start total) [
          | inl inside ↦
              let count : ℕ = min (start + len) total - start in
              let stop_is : stop ≡ skip + count = omega (arith, inside) in
              let at : low + skip ≡ start = omega (arith, inside) in
              let there : part_bytes (Slice start len) text ≡ take count (drop start blob) =
              cut ∙ ap (λ (k : ℕ). drop skip (take k (drop low blob))) stop_is ∙ drop-take skip count (drop low blob)
              ∙ ap (λ (xs : List ℕ). take count xs) (drop-drop skip low blob ∙ ap (λ (k : ℕ). drop k blob) at) in
              elim (cases_lt total (start + len)) [
                | inr within ↦ there ∙ ap (λ (k : ℕ). take k (drop start blob)) (omega (arith, within))
                | inl beyond ↦
                    let whole : total ≡ length blob = certified each (inr beyond) in
                    let rest : length (drop start blob) ≡ length blob - start = length-drop start blob in
                    there ∙ take_all count (drop start blob) (omega (arith, rest, whole, beyond)) ∙ sym (take_all len (drop start blob) (omega (arith, rest, whole, beyond)))
              ]
          | inr past ↦
              let whole : total ≡ length blob = certified each (inl past) in
              let none : drop skip (take stop (drop low blob)) ≡ [] = drop_all skip (take stop (drop low blob)) (omega (arith, past, length-take stop (drop low blob))) in
              cut ∙ none ∙ sym (ap (λ (xs : List ℕ). take len xs) (drop_all start blob (omega (arith, past, whole))) ∙ take_all len [] (omega arith))
        ]

  module _ (keyed : IsKeyed mode) (valid : AreBytes text) (blob : List ℕ) (are : AreBytes blob) (is : hash mode blob ≡ root) where
    abbrev Collides : Type 0
    Collides = NamesCollision mode blob text places

    -- a chunk that it has is the blob's, or there is a collision
    one_chunk : (k : ℕ) → IsBlobs blob k ⊎ Collides
    one_chunk k = elim (some_or (chunk_in text places k)) [
      | inl none ↦ inl (λ bytes there. let bad : None ≡ Some bytes = sym none ∙ there in cc)
      | inr found ↦ elim (accepted_binds mode root text blob start len k found.0 keyed are valid is accepted found.1) [
        | inr collision ↦ inr collision
        | inl same ↦
            inl (λ bytes there.
            let e : found.0 ≡ bytes = (let a = found.1 in cc) in
            (beginning 1024 bytes (drop (1024 * k) blob) (sym e ∙ sym (chunk_is (nat_lt k (chunk_count (length blob))) (take 1024 (drop (1024 * k) blob)) found.0 same.0)), same.1))
      ]
    ]

    -- it is the blob's slice where it claims the blob's length, or there is a collision
    same_slice : total ≡ length blob → (text ≡ slice_text mode blob start len) ⊎ Collides
    same_slice claims = elim (nodes_bind mode root text blob start len keyed are valid is accepted claims) [
      | inr collision ↦ inr collision
      | inl own ↦
          let f : TreeNode → List ℕ = node_text mode blob in
          let head : take 8 text ≡ length_text (length blob) = sym (le_bytes_8 (take 8 text) (length blob) (length-take-le 8 text accepted.long) (AreBytes-take 8 text valid).at (sym claims)) in
          let rest : drop 8 text ≡ flat_map f (slice_nodes text start len) = placed_bytes f text 8 (slice_nodes text start len) own accepted.ends in
          inl (sym (take-append-drop 8 text) ∙ (λ i. head i ++ rest i) ∙ ap (λ (n : ℕ). length_text (length blob) ++ flat_map f (chosen_nodes (of_slice n start len) n)) claims
          ∙ sym (chosen_text-nodes (of_slice (length blob) start len) mode blob))
    ]

    -- the blob has these bytes there, and this slice if its length is claimed; or there is a collision
    pub range_binds : ((part_bytes (Slice start len) text ≡ piece blob start len) × (total ≡ length blob → text ≡ slice_text mode blob start len)) ⊎ Collides
    range_binds = elim (each_or (chunk_count total) (IsBlobs blob) Collides one_chunk) [
      | inr collision ↦ inr collision
      | inl each ↦ elim (eqb_tells total (length blob)) [
        | inr other ↦ inl (same_range blob each, λ claims. absurd (other.1 claims))
        | inl claims ↦ elim (same_slice claims.1) [ inl own ↦ inl (same_range blob each, λ also. own) | inr collision ↦ inr collision ]
      ]
    ]

both : (a b : Bool) → (a && b) ≡ true → (a ≡ true) × (b ≡ true)
both true b is = (refl, is)
both false b is = cc

-- where each place of a slice has the blob's bytes, so has each chunk
chunk_begins : (mode : Mode) (blob text : List ℕ) (all : List (ℕ × TreeNode)) (k : ℕ) (bytes : List ℕ)
    → ((place : ℕ × TreeNode) → Contains all place → bytes_at text place ≡ node_text mode blob place.1) → chunk_in text all k ≡ Some bytes → bytes ≡ take (length bytes) (drop (1024 * k) blob)
chunk_begins mode blob text [] k bytes own there = let bad : None ≡ Some bytes = there in cc
chunk_begins mode blob text (place ∷ rest) k bytes own there = elim (cases_Bool (place.1.is_chunk && (place.1.number == k))) [
  | inr miss ↦ chunk_begins mode blob text rest k bytes (λ p h. own p (Contains-tail rest place p h)) (rw miss at there)
  | inl hit ↦
      let found : Some (bytes_at text place) ≡ Some bytes = rw hit at there in
      let is : bytes_at text place ≡ bytes = cc in
      let kind_is = both place.1.is_chunk (place.1.number == k) hit in
      let number_is : place.1.number ≡ k = eqb-true place.1.number k kind_is.1 in
      let span : node_text mode blob place.1 ≡ take place.1.len (drop (1024 * place.1.number) blob) = rw kind_is.0 refl in
      beginning place.1.len bytes (drop (1024 * k) blob) (sym is ∙ own place (Contains-head rest place) ∙ span ∙ ap (λ (j : ℕ). take place.1.len (drop (1024 * j) blob)) number_is)
]

-- the slice of a blob has its bytes of the range
pub own_range : (mode : Mode) (blob : List ℕ) (start len : ℕ) → IsKeyed mode → length blob < 2 ^ 64 → part_bytes (Slice start len) (slice_text mode blob start len) ≡ piece blob start len
own_range mode blob start len keyed short =
    let text : List ℕ = slice_text mode blob start len in
    let claims : claimed text ≡ length blob = claimed-chosen_text (of_slice (length blob) start len) mode blob short in
    let own : (place : ℕ × TreeNode) → Contains (places_of (slice_nodes text start len)) place → bytes_at text place ≡ node_text mode blob place.1 =
    subst (λ (n : ℕ). (place : ℕ × TreeNode) → Contains (places_of (chosen_nodes (of_slice n start len) n)) place → bytes_at text place ≡ node_text mode blob place.1) (sym claims)
    (own_places mode blob start len keyed short) in
    same_range mode (hash mode blob) text start len (slice_accepted mode blob start len keyed short) blob
    (λ k below bytes there. (chunk_begins mode blob text (places_of (slice_nodes text start len)) k bytes own there, λ last. claims))
