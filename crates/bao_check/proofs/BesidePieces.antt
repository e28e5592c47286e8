-- The chunks and parents of the slice that chunks beside an outline make, where they stand.
use Rattle.std.proofs.Common.{◌≡◌, ℕ, ◌-◌, ◌*◌, ◌/◌, List, [], ◌∷◌, length, take, drop, true, false, None, Some, Option, refl, sym, ap, subst, ◌∙◌, arith, inl, inr}
use Rattle.std.specs.List.{Contains}
use Rattle.std.specs.Option.{option_map, unwrap_or}
use Rattle.std.proofs.lemmas.Bool.{cases_Bool}
use Rattle.std.proofs.lemmas.Bool.Decides.{eqb_tells}
use Rattle.b3tree.specs.declared.mode.Mode.{Mode}
use Rattle.bao_text.specs.Cut.{claimed}
use Rattle.bao_text.specs.NodeNames.{boundary}
use Rattle.bao_text.specs.Nodes.{TreeNode, nodes, size}
use Rattle.std.specs.Borrow.{Bor}
use Rattle.bao_check.specs.declared.checked.Body.{Body}
use Rattle.bao_check.specs.declared.checked.Body.TheVariants.{Beside}
use Rattle.bao_check.specs.declared.checked.Checked.{Checked}
use Rattle.bao_check.specs.declared.locate.Span.{Span}
use Rattle.bao_check.specs.declared.outline.Outline.{Outline}
use Rattle.bao_check.specs.Bodies.{IsOfWhole, text_of}
use Rattle.bao_check.specs.Checked.{piece_places, piece_text}
use Rattle.bao_check.specs.Outline.{outline_mode, outline_root, outline_text}
use Rattle.bao_check.specs.Accepted.{IsAccepted, bytes_at, outboard_nodes, places_of, slice_nodes, text_end}
use Rattle.bao_check.specs.Beside.{IsOfChunks, beside_text, node_beside}
use Rattle.bao_check.specs.Parents.{parent_in, parent_place}
use Rattle.bao_check.specs.Pieces.{chunk_in}
use Rattle.bao_check.specs.Spans.{chunk_place}
use Rattle.bao_check.proofs.BesidePlaces.{IsMade, Stands, beside-bytes, made-claimed}
use Rattle.bao_check.proofs.Lists.{Contains-head, Contains-tail}
use Rattle.bao_check.proofs.Locating.{chunk_in-place}
use Rattle.bao_check.proofs.Parenting.{parent_in-place}

-- the place at which a chunk is found
record IsChunkPlace (places : List (ℕ × TreeNode)) (i : ℕ) (span : Span) : Type 0 where
  place : ℕ × TreeNode
  there : Contains places place
  chunk : place.1.is_chunk ≡ true
  number_is : place.1.number ≡ i
  at_is : place.0 ≡ span.at
  len_is : place.1.len ≡ span.len

chunk_found : (places : List (ℕ × TreeNode)) (i : ℕ) (span : Span) → chunk_place places i ≡ Some span → IsChunkPlace places i span
chunk_found [] i span is = let none : None ≡ Some span = is in cc
chunk_found (place ∷ places) i span is =
    let further : chunk_place places i ≡ Some span → IsChunkPlace (place ∷ places) i span =
    λ e. let h = chunk_found places i span e in
    record { place = h.place; there = Contains-tail places place h.place h.there; chunk = h.chunk; number_is = h.number_is; at_is = h.at_is; len_is = h.len_is } in
    elim (cases_Bool place.1.is_chunk) [
      | inr parent ↦ further (rw parent at is)
      | inl chunk ↦
          elim (eqb_tells place.1.number i) [
            | inr other ↦ further (rw (chunk, other.0) at is)
            | inl same ↦
                let found : Some (record { at = place.0; len = place.1.len }) ≡ Some span = rw (chunk, same.0) at is in
                let whole : record { at = place.0; len = place.1.len } ≡ span = cc in
                record {
                  place = place;
                  there = Contains-head places place;
                  chunk = chunk;
                  number_is = same.1;
                  at_is = ap (λ (s : Span). s.at) whole;
                  len_is = ap (λ (s : Span). s.len) whole;
                }
          ]
    ]

-- and that at which a parent is
record IsParentPlace (places : List (ℕ × TreeNode)) (m at : ℕ) : Type 0 where
  place : ℕ × TreeNode
  there : Contains places place
  parent : place.1.is_chunk ≡ false
  boundary_is : boundary place.1 ≡ m
  at_is : place.0 ≡ at

parent_found : (places : List (ℕ × TreeNode)) (m at : ℕ) → parent_place places m ≡ Some at → IsParentPlace places m at
parent_found [] m at is = let none : None ≡ Some at = is in cc
parent_found (place ∷ places) m at is =
    let further : parent_place places m ≡ Some at → IsParentPlace (place ∷ places) m at =
    λ e. let h = parent_found places m at e in
    record { place = h.place; there = Contains-tail places place h.place h.there; parent = h.parent; boundary_is = h.boundary_is; at_is = h.at_is } in
    elim (cases_Bool place.1.is_chunk) [
      | inl chunk ↦ further (rw chunk at is)
      | inr parent ↦
          elim (eqb_tells (boundary place.1) m) [
            | inr other ↦ further (rw (parent, other.0) at is)
            | inl same ↦
                let found : Some place.0 ≡ Some at = rw (parent, same.0) at is in
                let same_at : place.0 ≡ at = cc in
                record { place = place; there = Contains-head places place; parent = parent; boundary_is = same.1; at_is = same_at }
          ]
    ]

-- what has 64 bytes is there
there_is : (o : Option (List ℕ)) → length (unwrap_or o []) ≡ 64 → o ≡ Some (unwrap_or o [])
there_is None full = absurd (omega (arith, full))
there_is (Some bytes) full = refl

-- the nodes of the made encoding stand at their places
abbrev pub StandBeside : List ℕ → ℕ → ℕ → List ℕ → Type 0
StandBeside outline start len chunks =
    (place : ℕ × TreeNode) → Contains (places_of (slice_nodes (beside_text outline start len chunks) start len)) place
    → (bytes_at (beside_text outline start len chunks) place ≡ node_beside outline (start / 1024) chunks place.1)
    × (length (node_beside outline (start / 1024) chunks place.1) ≡ size place.1)

module _ (outline : List ℕ) (start len : ℕ) (chunks : List ℕ) (stand : StandBeside outline start len chunks) where
  abbrev text : List ℕ
  text = beside_text outline start len chunks

  abbrev places : List (ℕ × TreeNode)
  places = places_of (slice_nodes text start len)

  abbrev outline_places : List (ℕ × TreeNode)
  outline_places = places_of (outboard_nodes outline)

  -- chunk i's bytes, where it is found
  pub chunk_beside : (i : ℕ) (span : Span) → chunk_place places i ≡ Some span
      → chunk_in text places i ≡ Some (take span.len (drop (1024 * (i - start / 1024)) chunks))
  chunk_beside i span is =
      let h : IsChunkPlace places i span = chunk_found places i span is in
      let size_is : span.len ≡ size h.place.1 = rw h.chunk (sym h.len_is) in
      let node_is : node_beside outline (start / 1024) chunks h.place.1 ≡ take span.len (drop (1024 * (i - start / 1024)) chunks) =
      rw h.chunk (λ k. take (h.len_is k) (drop (1024 * (h.number_is k - start / 1024)) chunks)) in
      chunk_in-place text places i
      ∙ ap (option_map (λ s. take s.len (drop s.at text))) is
      ∙ ap Some ((λ k. take (size_is k) (drop (sym h.at_is k) text)) ∙ (stand h.place h.there).0 ∙ node_is)

  -- the parent whose right part begins at chunk m is the outline's
  pub parent_beside : (m at : ℕ) → parent_place places m ≡ Some at → parent_in outline outline_places m ≡ parent_in text places m
  parent_beside m at is =
      let h : IsParentPlace places m at = parent_found places m at is in
      let size_is : 64 ≡ size h.place.1 = rw h.parent refl in
      let node_is : node_beside outline (start / 1024) chunks h.place.1 ≡ unwrap_or (parent_in outline outline_places m) [] =
      rw h.parent (ap (λ (b : ℕ). unwrap_or (parent_in outline outline_places b) []) h.boundary_is) in
      let value : parent_in text places m ≡ Some (unwrap_or (parent_in outline outline_places m) []) =
      parent_in-place text places m
      ∙ ap (option_map (λ at. take 64 (drop at text))) is
      ∙ ap Some ((λ k. take (size_is k) (drop (sym h.at_is k) text)) ∙ (stand h.place h.there).0 ∙ node_is) in
      let full : length (unwrap_or (parent_in outline outline_places m) []) ≡ 64 = ap length (sym node_is) ∙ (stand h.place h.there).1 ∙ sym size_is in
      there_is (parent_in outline outline_places m) full ∙ sym value

-- they do where the encoding is accepted
pub stand_beside : (outer inner : Mode) (outer_root inner_root outline : List ℕ) (start len : ℕ) (chunks : List ℕ)
    → IsOfChunks (claimed outline) start len → IsAccepted inner inner_root outline (outboard_nodes outline)
    → IsAccepted outer outer_root (beside_text outline start len chunks) (slice_nodes (beside_text outline start len chunks) start len) → StandBeside outline start len chunks
stand_beside outer inner outer_root inner_root outline start len chunks range parents accepted =
    let text : List ℕ = beside_text outline start len chunks in
    let same : slice_nodes text start len ≡ nodes (claimed outline) start len = ap (λ (n : ℕ). nodes n start len) (made-claimed outline start len chunks parents.long) in
    let made : IsMade outline start len chunks = record { of_chunks = range; parents = omega (arith, parents.ends) } in
    λ place there.
    let h : Stands outline start len chunks place =
    beside-bytes outline start len chunks made (accepted.ends ∙ ap text_end same) place (subst (λ (ns : List TreeNode). Contains (places_of ns) place) same there) in
    (h.bytes, h.size_is)

-- of a piece that is chunks beside an outline
module _ (piece : Checked) (outline : Bor Outline) (chunks : Bor (List ℕ)) (is : piece.body ≡ Beside outline chunks) where
  text_is : piece_text piece ≡ beside_text (outline_text outline.now) piece.start piece.len chunks.now
  text_is = ap (λ (body : Body). text_of body piece.start piece.len) is

  stands : StandBeside (outline_text outline.now) piece.start piece.len chunks.now
  stands =
      stand_beside piece.mode (outline_mode outline.now) piece.root.0 (outline_root outline.now) (outline_text outline.now) piece.start piece.len chunks.now
      (subst (λ (body : Body). IsOfWhole body piece.start piece.len) is piece.whole) outline.now.accepted
      (subst (λ (s : List ℕ). IsAccepted piece.mode piece.root.0 s (slice_nodes s piece.start piece.len)) text_is piece.accepted)

  pub piece_chunk : (i : ℕ) (span : Span) → chunk_place (piece_places piece) i ≡ Some span
      → chunk_in (piece_text piece) (piece_places piece) i ≡ Some (take span.len (drop (1024 * (i - piece.start / 1024)) chunks.now))
  piece_chunk i span =
      subst (λ (s : List ℕ). chunk_place (places_of (slice_nodes s piece.start piece.len)) i ≡ Some span
      → chunk_in s (places_of (slice_nodes s piece.start piece.len)) i ≡ Some (take span.len (drop (1024 * (i - piece.start / 1024)) chunks.now))) (sym text_is)
      (chunk_beside (outline_text outline.now) piece.start piece.len chunks.now stands i span)

  pub piece_parent : (m at : ℕ) → parent_place (piece_places piece) m ≡ Some at
      → parent_in (outline_text outline.now) (places_of (outboard_nodes (outline_text outline.now))) m ≡ parent_in (piece_text piece) (piece_places piece) m
  piece_parent m at =
      subst (λ (s : List ℕ). parent_place (places_of (slice_nodes s piece.start piece.len)) m ≡ Some at
      → parent_in (outline_text outline.now) (places_of (outboard_nodes (outline_text outline.now))) m ≡ parent_in s (places_of (slice_nodes s piece.start piece.len)) m) (sym text_is)
      (parent_beside (outline_text outline.now) piece.start piece.len chunks.now stands m at)

-- where a piece reads its chunks
pub ruleset chunks_read = (chunk_in-place, piece_chunk)
