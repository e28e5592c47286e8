-- What the words of a held parent say of its bytes.
use Rattle.std.proofs.Common.{◌≡◌, ℕ, suc, ◌+◌, ◌*◌, ◌/◌, ◌%◌, ◌<◌, ◌≤◌, true, List, ◌++◌, length, take, drop, slice_get, slice_index, Option, None, Some, IfSome, option_and_then, refl, sym, ap, subst, ◌∙◌, arith, inl, inr, get_or, ext_get_or, get_or-take, is_some, length-take-le, length-drop}
use Rattle.std.specs.Int.{w64, to_le_bytes}
use Rattle.std.specs.Option.{option_map}
use Rattle.std.proofs.lemmas.Bool.{cases_lt}
use Rattle.std.proofs.lemmas.Option.{slice_get-get_or, slice_get_past}
use Rattle.b3tree.specs.Valid.{AreBytes}
use Rattle.b3tree.proofs.BlockWords.{AreBytes-drop, AreBytes-take}
use Rattle.bao_check.specs.Accepted.{IsGoodNode, end_of}
use Rattle.bao_check.specs.Parents.{parent_place}
use Rattle.bao_check.proofs.Lists.{All-from_members, All-member}
use Rattle.bao_check.proofs.Parenting.{parent_in-place, parent_place-within}
use Rattle.bao_text.specs.Nodes.{TreeNode}
use Rattle.holders.specs.declared.fixed.Fixed.{Fixed}
use Rattle.store_core.specs.declared.history.Event.{Event}
use Rattle.holders.specs.declared.piece.Piece.{Piece}
use Rattle.store_core.specs.Histories.{IsLegal, state_after}
use Rattle.store_core.specs.Laws.{IsStored}
use Rattle.holders.specs.Pieces.{IsAcceptedPiece, parent_bytes, places_in}
use Rattle.store_core.specs.States.{State, byte_at, is_held}
use Rattle.store_core.proofs.ParentOrigins.{parent_is_stored}
use Rattle.store_shared.specs.Filled.{IsBufferFilled, StopsFilling, held_size}
use Rattle.store_shared.proofs.Holding.{AreSmall, held_valid, size_of, some_there, words_more}
use Rattle.store_steps.specs.Layout.{parent_word}

-- a parent of a piece is 64 bytes
parent_taken : (text bytes : List ℕ) (o : Option ℕ) → AreBytes text → IfSome o (λ at. at + 64 ≤ length text) → option_map (λ at. take 64 (drop at text)) o ≡ Some bytes
    → AreBytes bytes × (length bytes ≡ 64)
parent_taken text bytes None valid within is = cc
parent_taken text bytes (Some at) valid within is =
    let same : take 64 (drop at text) ≡ bytes = cc in (
      subst AreBytes same (AreBytes-take 64 (drop at text) (AreBytes-drop at text valid)),
      ap (λ (xs : List ℕ). length xs) (sym same) ∙ length-take-le 64 (drop at text) (omega (arith, within, length-drop at text)),
    )

piece_parent : (fixed : Fixed) (piece : Piece) (m : ℕ) (bytes : List ℕ) → IsAcceptedPiece fixed piece → parent_bytes piece m ≡ Some bytes
    → AreBytes bytes × (length bytes ≡ 64)
piece_parent fixed piece m bytes accepted has =
    let places : List (ℕ × TreeNode) = places_in piece in
    let good = IsGoodNode fixed.mode fixed.root.0 piece.text places in
    parent_taken piece.text bytes (parent_place places m) accepted.bytes
    (parent_place-within (length piece.text) places m
    (All-from_members (λ place. end_of place ≤ length piece.text) places (λ p h. (All-member good places accepted.accepted.good p h).0)))
    (sym (parent_in-place piece.text places m) ∙ has)

-- and so is one that is held
pub parent_valid : (fixed : Fixed) (history : List Event) (m : ℕ) (bytes : List ℕ) → IsLegal fixed history → (state_after history).parents m ≡ Some bytes
    → AreBytes bytes × (length bytes ≡ 64)
parent_valid fixed history m bytes legal has =
    let k : IsStored fixed history m bytes = parent_is_stored fixed history m bytes legal has in
    piece_parent fixed k.piece m bytes k.accepted k.has

-- a state that holds the parent in the place of each chunk
abbrev pub beside : State → ℕ → State
beside s m = record s { held = λ c. s.parents m }

beside_small : (fixed : Fixed) (history : List Event) (m : ℕ) → IsLegal fixed history → AreSmall (beside (state_after history) m)
beside_small fixed history m legal c bytes has = let valid = parent_valid fixed history m bytes legal has in (valid.0, omega (arith, valid.1))

-- one word more
pub parent_more : (fixed : Fixed) (history : List Event) (m w word : ℕ) (first old new part : List ℕ) → IsLegal fixed history → is_some ((state_after history).parents m) ≡ true
    → w < 8 → ((bytes : List ℕ) → (state_after history).parents m ≡ Some bytes → word ≡ parent_word bytes w) → part ≡ to_le_bytes w64 word → length first ≡ 64
    → IsBufferFilled (beside (state_after history) m) 0 0 (0 + 8 * w) first old → new ≡ take (0 + 8 * w) old ++ (part ++ drop (0 + 8 * w + length part) old)
    → IsBufferFilled (beside (state_after history) m) 0 0 (0 + 8 * (w + 1)) first new
parent_more fixed history m w word first old new part legal held less found part_is size filled put =
    let s : State = beside (state_after history) m in
    let there = some_there ((state_after history).parents m) held in
    let all : held_size s 0 ≡ 64 = size_of s 0 there.0 there.1 ∙ (parent_valid fixed history m there.0 legal there.1).1 in
    words_more s 0 0 w 8 0 (suc w) word first old new part (beside_small fixed history m legal) (omega (arith, all)) (λ some. refl) less refl (omega arith) found part_is
    (omega (arith, size)) filled put

-- a buffer that begins with all bytes of a list
all_taken : (bytes out : List ℕ) (done : ℕ) → done ≤ length out → length bytes ≤ done → ((i : ℕ) → i < done → slice_get bytes i ≡ Some (slice_index out i)) → bytes ≡ take done out
all_taken bytes out done room past at =
    let reaches : done ≤ length bytes = elim (cases_lt (length bytes) done) [
      | inr enough ↦ enough
      | inl short ↦
          let none : slice_get bytes (length bytes) ≡ None = slice_get_past bytes (length bytes) (omega arith) in
          let some : slice_get bytes (length bytes) ≡ Some (slice_index out (length bytes)) = at (length bytes) short in
          cc
    ] in
    ext_get_or 0 bytes (take done out) (omega (arith, past, reaches, length-take-le done out room)) (λ i h.
    let below : i < done = omega (arith, h, past) in
    let some : Some (get_or bytes i 0) ≡ Some (get_or out i 0) = sym (slice_get-get_or bytes i 0 h) ∙ at i below in
    let same : get_or bytes i 0 ≡ get_or out i 0 = cc in
    same ∙ sym (get_or-take done out i 0 below))

-- all words of a parent
pub parent_whole : (fixed : Fixed) (history : List Event) (m : ℕ) (first out : List ℕ) → IsLegal fixed history → is_some ((state_after history).parents m) ≡ true
    → length first ≡ 64 → IsBufferFilled (beside (state_after history) m) 0 0 64 first out → (state_after history).parents m ≡ Some (take 64 out)
parent_whole fixed history m first out legal held size filled =
    let there = some_there ((state_after history).parents m) held in
    let bytes : List ℕ = there.0 in
    let valid = parent_valid fixed history m bytes legal there.1 in
    there.1 ∙ ap (λ (xs : List ℕ). Some xs) (all_taken bytes out 64 (omega (arith, size, filled.size)) (omega (arith, valid.1)) (λ i h.
    let place : (0 + i) % 1024 ≡ i = omega (arith, h) in
    ap (λ (k : ℕ). slice_get bytes k) (sym place)
    ∙ ap (λ (o : Option (List ℕ)). option_and_then (λ bs. slice_get bs ((0 + i) % 1024)) o) (sym there.1)
    ∙ filled.bytes i (omega arith) h))

-- all that a chunk has
pub chunk_whole : (fixed : Fixed) (history : List Event) (c done : ℕ) (old out : List ℕ) → IsLegal fixed history → is_held (state_after history) c ≡ true
    → length old ≡ 1024 → IsBufferFilled (state_after history) (1024 * c) 0 done old out
    → StopsFilling (state_after history) (1024 * c + done) (1024 * ((1024 * c + 0) / 1024 + 1)) done (length old) → (state_after history).held c ≡ Some (take done out)
chunk_whole fixed history c done old out legal held size filled stops =
    let s : State = state_after history in
    let there = some_there (s.held c) held in
    let bytes : List ℕ = there.0 in
    let fits : length bytes ≤ 1024 = (held_valid fixed history legal c bytes there.1).1 in
    let byte : (i : ℕ) → i < 1024 → slice_get bytes i ≡ byte_at s (1024 * c + i) = λ i h.
    let number : (1024 * c + i) / 1024 ≡ c = omega (arith, h) in
    let place : (1024 * c + i) % 1024 ≡ i = omega (arith, h) in
    ap (λ (k : ℕ). slice_get bytes k) (sym place)
    ∙ ap (λ (o : Option (List ℕ)). option_and_then (λ bs. slice_get bs ((1024 * c + i) % 1024)) o) (sym there.1)
    ∙ ap (λ (k : ℕ). option_and_then (λ bs. slice_get bs ((1024 * c + i) % 1024)) (s.held k)) (sym number) in
    let past : length bytes ≤ done = elim stops.why [
      | inl full ↦ omega (arith, full, size, fits)
      | inr other ↦ elim other [
        | inl end ↦ omega (arith, end, fits)
        | inr none ↦ elim (cases_lt done (length bytes)) [
          | inr enough ↦ enough
          | inl short ↦
              let some : slice_get bytes done ≡ Some (get_or bytes done 0) = slice_get-get_or bytes done 0 short in
              let gone : slice_get bytes done ≡ None = byte done (omega (arith, short, fits)) ∙ none in
              cc
        ]
      ]
    ] in
    there.1 ∙ ap (λ (xs : List ℕ). Some xs) (all_taken bytes out done (omega (arith, filled.within, filled.size)) past
    (λ i h. byte i (omega (arith, h, filled.within, size)) ∙ filled.bytes i (omega arith) h))
