-- What comes from accepted texts is the blob's, or a collision is exhibited.
use Rattle.gather.proofs.Common.{Contains, map, option_map, ap, ◌∙◌, ◌≡◌, ◌⊎◌, ℕ, ◌+◌, ◌-◌, List, length, Option, None, Some, is_some, true, false, slice_get, refl, sym, subst, arith, inl, inr, All-member, slice_get-map, IsKeyed, AcceptedBinds, chunk_in, chunk_of, chunk_count, Fixed, Piece, Store, IsBlob, CollidesWith, has_room, length_of, places_in, Event, AreLegalFrom, IsLegal, run, IsReached, fixed_of, state_of, State, empty}
use Rattle.holders.specs.Encodings.{EncodedBytes, IsCut, IsCutOf, cut_gives, encoding}
use Rattle.holders.specs.Holders.{IsHanded}
use Rattle.gather.specs.Finished.{BindsTo, IsNamedIn}
use Rattle.holders.specs.Blobs.{AreLonger, AreTheBlob, HasCollision, IsTooLarge}
use Rattle.gather.specs.Worked.{AreFrom, HasWorked, IsFrom, AddsBlobs, AddsCertified, IsCertified}

certified_binds : AcceptedBinds → (handed : Piece → Type 0) (fixed : Fixed) (blob : List ℕ) (c : ℕ) (bytes : List ℕ) → IsKeyed fixed.mode → IsBlob fixed blob
    → (from : IsCertified handed fixed c bytes)
    → (chunk_of blob (fixed.base + c) ≡ Some bytes) ⊎ CollidesWith fixed blob from.piece
certified_binds law handed fixed blob c bytes keyed is from = elim (
    law fixed.mode fixed.root.0 from.piece.text blob from.piece.start from.piece.len (from.piece.base + c) bytes keyed is.bytes from.accepted.bytes is.root from.accepted.accepted from.has
    ) [ inl same ↦ inl (subst (λ (b : ℕ). chunk_of blob (b + c) ≡ Some bytes) from.accepted.base same.0) | inr named ↦ inr named ]

pub adds_blobs : AcceptedBinds → (handed : Piece → Type 0) (old new : Store) → IsKeyed (fixed_of old).mode → AddsCertified handed old new → AddsBlobs handed old new
adds_blobs law handed old new keyed adds blob is c bytes held = elim (adds c bytes held) [
  | inl before ↦ inl before
  | inr from ↦ elim (certified_binds law handed (fixed_of old) blob c bytes keyed is from) [ inl same ↦ inr (inl same) | inr named ↦ inr (inr (from, named)) ]
]

pub some_bytes : (o : Option (List ℕ)) → is_some o ≡ true → (bytes : List ℕ) × (o ≡ Some bytes)
some_bytes (Some bytes) is = (bytes, refl)
some_bytes None is = let no : false ≡ true = is in cc

pub are_longer : AcceptedBinds → (handed : Piece → Type 0) (fixed : Fixed) → IsKeyed fixed.mode → IsTooLarge handed fixed → AreLonger handed fixed
are_longer law handed fixed keyed too_large blob is =
    let piece = too_large.piece in
    let large = too_large.large in
    let last = chunk_count (length_of piece) - 1 in
    let there = some_bytes (chunk_in piece.text (places_in piece) last) large.ends in
    elim (law fixed.mode fixed.root.0 piece.text blob piece.start piece.len last there.0 keyed is.bytes large.accepted.bytes is.root large.accepted.accepted there.1) [
      | inl same ↦ let long : length_of piece ≡ length blob = same.1 (omega arith) in inl (sym (ap (λ (l : ℕ). has_room fixed l) long) ∙ large.above)
      | inr named ↦ inr (record { piece = piece; from = too_large.from; accepted = large.accepted; pair = named })
    ]

-- what holders over some things hand over is what these give
pub handed_over : {H S : Type 0} (f : H → S) (gives : S → ℕ → ℕ → List ℕ → Type 0) (holders : List H) (all : List S) → map f holders ≡ all → (piece : Piece)
    → IsHanded (λ holder start len text. gives (f holder) start len text) holders piece → IsHanded gives all piece
handed_over {H = H} {S = S} f gives holders all over piece from = record {
  place = from.place;
  holder = f from.holder;
  there = subst (λ (xs : List S). slice_get xs from.place ≡ Some (f from.holder)) over
      (slice_get-map f holders from.place ∙ ap (λ (o : Option H). option_map f o) from.there);
  given = from.given;
}

-- what holders over texts hand over is cut out of the texts
pub handed_cut : (holders : List EncodedBytes) (texts : List (List ℕ)) → map encoding holders ≡ texts → (piece : Piece) → IsHanded IsCut holders piece → IsCutOf texts piece
handed_cut holders texts over piece from = handed_over encoding cut_gives holders texts over piece from

-- the piece of each event
event_from : (handed : Piece → Type 0) (events : List Event) (e : Event) → AreFrom handed events → Contains events e → IsFrom handed e.call
event_from handed events e from there = All-member (λ (it : Event). IsFrom handed it.call) events from e there

-- a collision that is exhibited from a piece of the worker's history
pub pair_of : (handed : Piece → Type 0) (fixed : Fixed) (history : List Event) (blob : List ℕ) → AreFrom handed history → IsNamedIn fixed history blob → HasCollision handed fixed blob
pair_of handed fixed history blob of (inl from) =
    let it = from.1.committed in
    record { piece = it.piece; from = event_from handed history _ of it.there; accepted = it.accepted; pair = from.1.pair }
pair_of handed fixed history blob of (inr from) =
    let it = from.1.settled in
    record { piece = it.piece; from = event_from handed history _ of it.there; accepted = it.accepted; pair = from.1.pair }

-- the worker's history leads from a new store to the one that it leaves
pub worked_reaches : (handed : Piece → Type 0) (old new : Store) (chunks parents : ℕ) → state_of old ≡ empty → HasWorked handed old new chunks parents
    → IsReached (fixed_of new) (state_of new)
worked_reaches handed old new chunks parents fresh worked = record {
  history = worked.events;
  legal = subst (λ (fixed : Fixed). IsLegal fixed worked.events) (sym worked.fixed)
      (subst (λ (s : State). AreLegalFrom (fixed_of old) s worked.events) fresh worked.legal);
  is = sym (worked.after ∙ ap (λ (s : State). run s worked.events) fresh);
}

-- bytes that bind by a history of pieces that were handed over
pub found_by : (handed : Piece → Type 0) (fixed : Fixed) (history : List Event) (bytes : List ℕ) → AreFrom handed history → BindsTo fixed history bytes → AreTheBlob handed fixed bytes
found_by handed fixed history bytes from binds blob is = elim (binds blob is) [ inl same ↦ inl same | inr named ↦ inr (pair_of handed fixed history blob from named) ]

pub of_blob : (handed : Piece → Type 0) (old new : Store) (fixed : Fixed) (chunks parents : ℕ) (bytes : List ℕ) → fixed_of old ≡ fixed → state_of old ≡ empty
    → HasWorked handed old new chunks parents → ((by : IsReached (fixed_of new) (state_of new)) → BindsTo (fixed_of new) by.history bytes) → AreTheBlob handed fixed bytes
unfolding worked_reaches
of_blob handed old new fixed chunks parents bytes same fresh worked binds =
    subst (λ (f : Fixed). AreTheBlob handed f bytes) (worked.fixed ∙ same)
    (found_by handed (fixed_of new) worked.events bytes worked.from (binds (worked_reaches handed old new chunks parents fresh worked)))
