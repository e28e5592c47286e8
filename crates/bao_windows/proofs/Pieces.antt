-- Bytes that are taken from checked pieces.
use Rattle.std.proofs.Common.{◌≡◌, ◌⊎◌, ℕ, ◌+◌, ◌-◌, ◌*◌, ◌/◌, ◌%◌, ◌<◌, ◌≤◌, min, Bool, true, false, List, [], ◌++◌, length, take, drop, IfSome, None, Option, Some, slice_get, ◌∙◌, sym, ap, subst, arith, inl, inr, refl, append_assoc, length-append, length-drop}
use Rattle.std.proofs.lemmas.List.{append_cancel_left, drop-append-le, drop_at, take-append-le, take_all}
use Rattle.std.proofs.lemmas.Option.{slice_get-get_or}
use Rattle.b3tree.specs.declared.mode.Mode.{Mode}
use Rattle.b3tree.specs.declared.values.Cv.{Cv}
use Rattle.b3tree.specs.declared.values.Hash.{Hash}
use Rattle.b3tree.specs.Hashing.{hash}
use Rattle.b3tree.specs.Tree.{subtree_cv}
use Rattle.b3tree.specs.Valid.{AreBytes}
use Rattle.bao_check.specs.Accepted.{IsAccepted}
use Rattle.bao_check.specs.declared.checked.Checked.{Checked}
use Rattle.bao_check.specs.Checked.{piece_len, piece_mode, piece_nodes, piece_places, piece_root, piece_start, piece_text}
use Rattle.bao_check.specs.Inputs.{NamesCollision}
use Rattle.bao_check.specs.Laws.{BindsChunk}
use Rattle.bao_check.specs.Pieces.{chunk_in}
use Rattle.bao_check.specs.declared.tail.Tail.{Tail}
use Rattle.bao_text.specs.Nodes.{TreeNode}
use Rattle.bao_check.specs.Tail.{tail_piece}
use Rattle.holders.specs.Blobs.{HasCollision, fixed_as}
use Rattle.holders.specs.declared.piece.Piece.{Piece}
use Rattle.holders.specs.Pieces.{IsAcceptedPiece, piece_of}
use Rattle.bao_windows.proofs.Bytes.{both, chunk_byte, place_of}
use Rattle.bao_windows.specs.Asked.{IsSound}
use Rattle.bao_windows.specs.Windows.{AddsOf, AreBytesAt, AreOfPiece, HasByte, HasChunks, IsAddedValue, IsAt, IsLengthOfEach, IsValueIn, LacksChunk, Takes, TakesOf}

-- the bytes of one of its chunks
pub of_chunk : (piece : Checked) (at c : ℕ) (bytes : List ℕ) → at ≡ 1024 * c → chunk_in (piece_text piece) (piece_places piece) c ≡ Some bytes
    → ((blob : List ℕ) → AreBytes blob → hash (piece_mode piece) blob ≡ piece_root piece → BindsChunk (piece_mode piece) (piece_text piece) (piece_start piece) (piece_len piece) blob c bytes)
    → AreOfPiece piece at bytes
of_chunk piece at c bytes same there binds = record {
  chunks = λ i below. record { number = c; index = i; chunk = bytes; place = ap (λ (q : ℕ). q + i) same; there = there; is = slice_get-get_or bytes i 0 below };
  each = λ blob valid is i below. elim (binds blob valid is) [
    | inl here ↦ inl (ap (λ (q : ℕ). slice_get blob (q + i)) same ∙ chunk_byte blob bytes c i here.0 below)
    | inr named ↦ inr named
  ];
}

pub some_is : {X : Type 0} (x y : X) → Some x ≡ Some y → x ≡ y
some_is x y e = cc

-- one chunk more
chunks_more : (text : List ℕ) (places : List (ℕ × TreeNode)) (at m : ℕ) (xs bytes : List ℕ) → at % 1024 ≡ 0 → m % 1024 ≡ 0 → length xs ≡ m → length bytes ≤ 1024
    → HasChunks text places (at / 1024) xs → chunk_in text places ((at + m) / 1024) ≡ Some bytes → HasChunks text places (at / 1024) (xs ++ bytes)
chunks_more text places at m xs bytes aligned whole size one has there k below = elim (place_of k (m / 1024)) [
  | inl low ↦
      has k (omega (arith, low, whole, size))
      ∙ ap (λ (s : List ℕ). Some s) (sym (ap (λ (s : List ℕ). take 1024 s) (drop-append-le (1024 * k) xs bytes (omega (arith, low, whole, size)))
      ∙ take-append-le 1024 (drop (1024 * k) xs) bytes (omega (arith, low, whole, size, length-drop (1024 * k) xs))))
  | inr high ↦
      let here : 1024 * k ≡ m = omega (arith, high, below, length-append xs bytes, size, one, whole) in
      let last : take 1024 (drop (1024 * k) (xs ++ bytes)) ≡ bytes = ap (λ (s : List ℕ). take 1024 s) (drop_at xs bytes (1024 * k) (omega (arith, here, size))) ∙ take_all 1024 bytes one in
      subst (λ (c : ℕ). chunk_in text places c ≡ Some (take 1024 (drop (1024 * k) (xs ++ bytes)))) (omega (arith, here, aligned)) (there ∙ ap (λ (s : List ℕ). Some s) (sym last))
]

-- and more follow
pub adds_more_of : (piece : Checked) (at m n : ℕ) (old mid new bytes : List ℕ) → at % 1024 ≡ 0 → m % 1024 ≡ 0 → n ≤ 1024 → chunk_in (piece_text piece) (piece_places piece) ((at + m) / 1024) ≡ Some bytes
    → AddsOf piece at m old mid → new ≡ mid ++ bytes → length bytes ≡ n → AreOfPiece piece (at + m) bytes → AddsOf piece at (m + n) old new
adds_more_of piece at m n old mid new bytes aligned whole one there first is size each =
    let xs : List ℕ = first.bytes in
    let next : AreOfPiece piece (at + length xs) bytes = subst (λ (k : ℕ). AreOfPiece piece (at + k) bytes) (sym first.size) each in
    record {
      bytes = xs ++ bytes;
      is = is ∙ ap (λ (s : List ℕ). s ++ bytes) first.is ∙ append_assoc old xs bytes;
      size = omega (arith, length-append xs bytes, first.size, size);
      chunks = chunks_more (piece_text piece) (piece_places piece) at m xs bytes aligned whole first.size (omega (arith, size, one)) first.chunks there;
      each = record {
        chunks = both (HasByte (piece_text piece) (piece_places piece)) at xs bytes first.each.chunks next.chunks;
        each = λ blob valid hashed.
            both (IsAt blob (NamesCollision (piece_mode piece) blob (piece_text piece) (piece_places piece))) at xs bytes (first.each.each blob valid hashed) (next.each blob valid hashed);
      };
    }

-- the piece is accepted under the root
sound_piece : (mode : Mode) (root : Hash) (piece : Checked) → IsSound piece mode root.0 → IsAcceptedPiece (fixed_as root mode 0) (piece_of 0 piece)
sound_piece mode root piece sound = record {
  bytes = sound.bytes;
  accepted = subst (λ (m : Mode). IsAccepted m root.0 (piece_text piece) (piece_nodes piece)) sound.mode_is
      (subst (λ (r : List ℕ). IsAccepted (piece_mode piece) r (piece_text piece) (piece_nodes piece)) sound.root_is sound.accepted);
  base = refl;
}

-- a collision that is exhibited from the piece
pub pair_from : (handed : Piece → Type 0) (mode : Mode) (root : Hash) (piece : Checked) (blob : List ℕ) → IsSound piece mode root.0 → handed (piece_of 0 piece)
    → NamesCollision (piece_mode piece) blob (piece_text piece) (piece_places piece) → HasCollision handed (fixed_as root mode 0) blob
pair_from handed mode root piece blob sound from named = record {
  piece = piece_of 0 piece;
  from = from;
  accepted = sound_piece mode root piece sound;
  pair = subst (λ (m : Mode). NamesCollision m blob (piece_text piece) (piece_places piece)) sound.mode_is named;
}

-- a blob with the root has it in the piece's mode
pub hashed_by : (mode : Mode) (root : Hash) (piece : Checked) (blob : List ℕ) → IsSound piece mode root.0 → hash mode blob ≡ root.0 → hash (piece_mode piece) blob ≡ piece_root piece
hashed_by mode root piece blob sound is = subst (λ (m : Mode). hash m blob ≡ piece_root piece) (sym sound.mode_is) (is ∙ sym sound.root_is)

pub bytes_of : (handed : Piece → Type 0) (mode : Mode) (root : Hash) (piece : Checked) (at : ℕ) (bytes : List ℕ) → IsSound piece mode root.0 → handed (piece_of 0 piece)
    → AreOfPiece piece at bytes → AreBytesAt handed (fixed_as root mode 0) at bytes
bytes_of handed mode root piece at bytes sound from of = record {
  slices = λ i less. record { piece = piece_of 0 piece; from = from; accepted = sound_piece mode root piece sound; has = of.chunks i less };
  each = λ blob is i less. elim (of.each blob is.bytes (hashed_by mode root piece blob sound is.root) i less) [
    | inl same ↦ inl same
    | inr named ↦ inr (pair_from handed mode root piece blob sound from named)
  ];
}

-- what is taken of a piece that was handed over
pub takes_of : (took : Bool) (handed : Piece → Type 0) (mode : Mode) (root : Hash) (piece : Checked) (at len : ℕ) (old new : List ℕ) → IsSound piece mode root.0 → handed (piece_of 0 piece)
    → TakesOf took piece at len old new → Takes took handed (fixed_as root mode 0) at len old new
takes_of true handed mode root piece at len old new sound from adds =
    record { bytes = adds.bytes; is = adds.is; size = adds.size; each = bytes_of handed mode root piece at adds.bytes sound from adds.each }
takes_of false handed mode root piece at len old new sound from none = none.0

-- the value that the piece has of what is taken of it
pub added_value : (piece : Checked) (mode : Mode) (at len : ℕ) (old new : List ℕ) (value : Option Cv) (took : Bool) → piece_mode piece ≡ mode → IfSome value (IsValueIn piece at len)
    → TakesOf took piece at len old new → took ≡ true → IfSome value (IsAddedValue mode at old new)
added_value piece mode at len old new None took same known takes done = tt
added_value piece mode at len old new (Some v) false same known takes done = let wrong : false ≡ true = done in cc
added_value piece mode at len old new (Some v) true same known adds done = λ bytes is.
    let own : adds.bytes ≡ bytes = append_cancel_left old adds.bytes bytes (sym adds.is ∙ is) in
    known adds.bytes adds.size adds.chunks ∙ (λ i. subtree_cv (same i) (at / 1024) (own i))

-- the value of what follows nothing
pub first_value : (mode : Mode) (at : ℕ) (old new : List ℕ) (value : Option Cv) → old ≡ [] → IfSome value (IsAddedValue mode at old new)
    → IfSome value (λ v. v.0 ≡ subtree_cv mode (at / 1024) new)
first_value mode at old new None none known = tt
first_value mode at old new (Some v) none known = known new (ap (λ (xs : List ℕ). xs ++ new) (sym none))

-- a chunk that the piece doesn't hold, of those that so many bytes begin in
pub lacks_no_chunk : (piece : Checked) (at len came : ℕ) → at % 1024 ≡ 0 → (came % 1024 ≡ 0) ⊎ (came ≡ len) → came < len
    → chunk_in (piece_text piece) (piece_places piece) ((at + came) / 1024) ≡ None → LacksChunk (piece_of 0 piece) at len
lacks_no_chunk piece at len came aligned step below none = record {
  number = (at + came) / 1024;
  from = omega (arith, aligned, step, below);
  below = omega (arith, aligned, step, below);
  lacks = λ bytes there size. let wrong : None ≡ Some bytes = sym none ∙ there in cc;
}

-- or holds with another number of bytes
pub lacks_size : (piece : Checked) (at len came : ℕ) (bytes : List ℕ) → at % 1024 ≡ 0 → (came % 1024 ≡ 0) ⊎ (came ≡ len) → came < len
    → chunk_in (piece_text piece) (piece_places piece) ((at + came) / 1024) ≡ Some bytes → (length bytes ≡ min 1024 (len - came) → ⊥) → LacksChunk (piece_of 0 piece) at len
lacks_size piece at len came bytes aligned step below is other = record {
  number = (at + came) / 1024;
  from = omega (arith, aligned, step, below);
  below = omega (arith, aligned, step, below);
  lacks = λ found there size.
      let same : bytes ≡ found = some_is bytes found (sym is ∙ there) in
      let place : 1024 * ((at + came) / 1024) ≡ at + came = omega (arith, aligned, step, below) in
      other (omega (arith, size, place, ap (λ (xs : List ℕ). length xs) same, below));
}

-- the length that a tail certifies
pub length_each : (handed : Piece → Type 0) (mode : Mode) (root : Hash) (piece : Checked) (tail : Tail) (l : ℕ) → IsSound piece mode root.0 → handed (piece_of 0 piece) → tail_piece tail ≡ piece
    → ((blob : List ℕ) → AreBytes blob → hash (piece_mode (tail_piece tail)) blob ≡ piece_root (tail_piece tail)
    → (l ≡ length blob) ⊎ NamesCollision (piece_mode (tail_piece tail)) blob (piece_text (tail_piece tail)) (piece_places (tail_piece tail)))
    → IsLengthOfEach handed (fixed_as root mode 0) l
length_each handed mode root piece tail l sound from same binds blob is =
    let own : (l ≡ length blob) ⊎ NamesCollision (piece_mode piece) blob (piece_text piece) (piece_places piece) =
    subst (λ (p : Checked). hash (piece_mode p) blob ≡ piece_root p → (l ≡ length blob) ⊎ NamesCollision (piece_mode p) blob (piece_text p) (piece_places p)) same (binds blob is.bytes)
    (hashed_by mode root piece blob sound is.root) in
    elim own [
      | inl long ↦ inl long
      | inr named ↦ inr (pair_from handed mode root piece blob sound from named)
    ]
