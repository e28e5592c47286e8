-- What the words of a held chunk's cell say of its bytes.
use Rattle.std.proofs.Common.{◌≡◌, ℕ, ◌+◌, ◌-◌, ◌*◌, ◌/◌, ◌%◌, ◌<◌, ◌≤◌, min, Bool, true, if◌then◌else◌, List, [], ◌++◌, length, take, drop, get_or, slice_get, slice_index, Option, None, Some, is_some, option_and_then, refl, sym, ap, subst, ◌∙◌, arith, inl, inr, length-take, length-drop, get_or-take, get_or-drop}
use Rattle.std.specs.Int.{w64, to_le_bytes}
use Rattle.std.specs.Option.{unwrap_or}
use Rattle.std.proofs.lemmas.Bool.{cases_lt, lt-ltb}
use Rattle.std.proofs.lemmas.Option.{slice_get_past}
use Rattle.b3tree.specs.Valid.{AreBytes}
use Rattle.holders.specs.declared.fixed.Fixed.{Fixed}
use Rattle.store_core.specs.declared.history.Event.{Event}
use Rattle.store_core.specs.Cells.{cell_byte, cell_bytes, cell_word}
use Rattle.store_core.specs.Histories.{IsLegal, state_after}
use Rattle.store_core.specs.Laws.{IsCommitted}
use Rattle.holders.specs.Pieces.{places_in}
use Rattle.store_core.specs.States.{State, byte_at, is_held}
use Rattle.store_core.proofs.CellWords.{cell_get, cell_is}
use Rattle.store_core.proofs.Lasting.{legal_is_sound}
use Rattle.store_core.proofs.Origins.{held_is_committed}
use Rattle.store_core.proofs.MachineInvariants.{chunk_fits, chunk_valid}
use Rattle.store_shared.specs.Filled.{IsBufferFilled, StopsFilling, held_size}
use Rattle.store_shared.proofs.Filling.{filled_then, put_filled}

-- a chunk with bytes is held
some_size : (o : Option (List ℕ)) → 0 < length (unwrap_or o []) → (bytes : List ℕ) × (o ≡ Some bytes)
some_size None h = absurd (omega (arith, h))
some_size (Some bytes) h = (bytes, refl)

pub some_there : (o : Option (List ℕ)) → is_some o ≡ true → (bytes : List ℕ) × (o ≡ Some bytes)
some_there None h = cc
some_there (Some bytes) h = (bytes, refl)

-- each held chunk is of bytes, at most 1,024
abbrev pub AreSmall : State → Type 0
AreSmall s = (c : ℕ) (bytes : List ℕ) → s.held c ≡ Some bytes → AreBytes bytes × (length bytes ≤ 1024)

pub held_valid : (fixed : Fixed) (history : List Event) → IsLegal fixed history → AreSmall (state_after history)
held_valid fixed history legal c bytes has =
    let k : IsCommitted fixed history c bytes = held_is_committed fixed history c bytes legal has in
    (chunk_valid k.piece.text (places_in k.piece) (k.piece.base + c) bytes k.accepted.bytes k.has, chunk_fits fixed k.piece c bytes k.accepted k.has)

pub size_of : (s : State) (c : ℕ) (bytes : List ℕ) → s.held c ≡ Some bytes → held_size s c ≡ length bytes
size_of s c bytes has = ap (λ (o : Option (List ℕ)). length (unwrap_or o [])) has

-- a chunk that is held lies below the capacity
pub held_below : (fixed : Fixed) (history : List Event) (c : ℕ) → IsLegal fixed history → is_held (state_after history) c ≡ true → c < fixed.capacity
held_below fixed history c legal held = (legal_is_sound fixed history legal).held_below c held

pub sized_below : (fixed : Fixed) (history : List Event) (c : ℕ) → IsLegal fixed history → 0 < held_size (state_after history) c → c < fixed.capacity
sized_below fixed history c legal some =
    let there = some_size ((state_after history).held c) some in
    held_below fixed history c legal (ap (λ (o : Option (List ℕ)). is_some o) there.1)

-- and has at most 1,024 bytes
size_small : (s : State) → AreSmall s → (c : ℕ) → held_size s c ≤ 1024
size_small s small c = elim (cases_lt 0 (held_size s c)) [
  | inl some ↦ let there = some_size (s.held c) some in omega (arith, size_of s c there.0 there.1, (small c there.0 there.1).1)
  | inr none ↦ omega (arith, none)
]

pub size_fits : (fixed : Fixed) (history : List Event) (c : ℕ) → IsLegal fixed history → held_size (state_after history) c ≤ 1024
size_fits fixed history c legal = size_small (state_after history) (held_valid fixed history legal) c

-- the first word of a held chunk's cell is its size
size_is : (s : State) (c word : ℕ) → is_held s c ≡ true → ((bytes : List ℕ) → s.held c ≡ Some bytes → word ≡ cell_word bytes 0) → word ≡ held_size s c
size_is s c word held found =
    let there = some_there (s.held c) held in found there.0 there.1 ∙ sym (size_of s c there.0 there.1)

-- as it is in what a legal history leaves
pub chunk_size : (fixed : Fixed) (history : List Event) (c word : ℕ) → IsLegal fixed history → is_held (state_after history) c ≡ true
    → ((bytes : List ℕ) → (state_after history).held c ≡ Some bytes → word ≡ cell_word bytes 0) → (word ≡ held_size (state_after history) c) × (word ≤ 1024)
chunk_size fixed history c word legal held found =
    let is : word ≡ held_size (state_after history) c = size_is (state_after history) c word held found in (is, omega (arith, is, size_fits fixed history c legal))

-- a position past the bytes of its chunk isn't held
none_past : (o : Option (List ℕ)) (k : ℕ) → length (unwrap_or o []) ≤ k → option_and_then (λ bytes. slice_get bytes k) o ≡ None
none_past None k h = refl
none_past (Some bytes) k h = slice_get_past bytes k h

pub unheld_past : (s : State) (q : ℕ) → held_size s (q / 1024) ≤ q % 1024 → byte_at s q ≡ None
unheld_past s q h = none_past (s.held (q / 1024)) (q % 1024) h

-- the byte at a position is that of its word
pub byte_is : (s : State) (q word : ℕ) → AreSmall s → q % 1024 < held_size s (q / 1024)
    → ((bytes : List ℕ) → s.held (q / 1024) ≡ Some bytes → word ≡ cell_word bytes (q % 1024 / 8 + 1))
    → byte_at s q ≡ Some (slice_index (to_le_bytes w64 word) (q % 8))
byte_is s q word small below found =
    let there = some_size (s.held (q / 1024)) (omega (arith, below)) in
    let bytes : List ℕ = there.0 in
    let has : s.held (q / 1024) ≡ Some bytes = there.1 in
    let valid = small (q / 1024) bytes has in
    let cell : ℕ → ℕ = λ w. cell_word bytes w in
    let whole : cell_bytes cell ≡ bytes = cell_is cell bytes valid.0 valid.1 (λ w h. refl) in
    let inside : q % 1024 < length bytes = omega (arith, below, size_of s (q / 1024) bytes has) in
    let place : q % 1024 % 8 ≡ q % 8 = omega arith in
    ap (λ (o : Option (List ℕ)). option_and_then (λ bs. slice_get bs (q % 1024)) o) has
    ∙ ap (λ (xs : List ℕ). slice_get xs (q % 1024)) (sym whole)
    ∙ cell_get cell (q % 1024) (omega arith)
    ∙ ap (λ (b : Bool). if b then Some (cell_byte cell (q % 1024)) else None) (lt-ltb (q % 1024) (length bytes) inside)
    ∙ ap (λ (n : ℕ). Some (slice_index (to_le_bytes w64 n) (q % 1024 % 8))) (sym (found bytes has))
    ∙ ap (λ (k : ℕ). Some (slice_index (to_le_bytes w64 word) k)) place

-- a part of a word that is written into the buffer
pub part_filled : (s : State) (at from count skip chunk number word : ℕ) (old new part : List ℕ) → AreSmall s
    → (at + from) % 1024 + count ≤ held_size s ((at + from) / 1024)
    → (at + from) % 8 + count ≤ 8 → skip ≡ (at + from) % 8 → chunk ≡ (at + from) / 1024 → number ≡ (at + from) % 1024 / 8 + 1
    → ((bytes : List ℕ) → s.held chunk ≡ Some bytes → word ≡ cell_word bytes number)
    → length part ≡ count → ((k : ℕ) → k < count → slice_index part k ≡ slice_index (to_le_bytes w64 word) (skip + k))
    → from + count ≤ length old → new ≡ take from old ++ (part ++ drop (from + length part) old)
    → IsBufferFilled s at from (from + count) old new
part_filled s at from count skip chunk number word old new part small held inside skips chunk_is number_is found size bytes room is =
    let fits : held_size s ((at + from) / 1024) ≤ 1024 = size_small s small ((at + from) / 1024) in
    subst (λ (n : ℕ). IsBufferFilled s at from (from + n) old new) size
    (put_filled s at from old new part (omega (arith, size, room)) is (λ k h.
    let below : k < count = omega (arith, h, size) in
    let same : (at + from) / 1024 ≡ (at + from + k) / 1024 = omega (arith, held, fits, below) in
    let at_chunk : chunk ≡ (at + from + k) / 1024 = chunk_is ∙ same in
    let at_word : number ≡ (at + from + k) % 1024 / 8 + 1 = omega (arith, number_is, held, fits, inside, below) in
    let at_byte : (at + from + k) % 8 ≡ skip + k = omega (arith, skips, inside, below) in
    let within : (at + from + k) % 1024 < held_size s ((at + from + k) / 1024) =
    subst (λ (c : ℕ). (at + from + k) % 1024 < held_size s c) same (omega (arith, held, fits, below)) in
    byte_is s (at + from + k) word small within
    (λ bs has. found bs (ap (λ (c : ℕ). s.held c) at_chunk ∙ has) ∙ ap (λ (w : ℕ). cell_word bs w) at_word)
    ∙ ap (λ (j : ℕ). Some (slice_index (to_le_bytes w64 word) j)) at_byte
    ∙ ap (λ (x : ℕ). Some x) (sym (bytes k below))))

-- where a chunk's copy stops: the buffer is full, or the chunk ends, or it has no more bytes
pub chunk_stops : (fixed : Fixed) (history : List Event) (at from size count len : ℕ) → IsLegal fixed history
    → size ≡ held_size (state_after history) ((at + from) / 1024) → (at + from) % 1024 < size → count ≡ min (size - (at + from) % 1024) (len - from) → from ≤ len
    → StopsFilling (state_after history) (at + (from + count)) (1024 * ((at + from) / 1024 + 1)) (from + count) len
chunk_stops fixed history at from size count len legal is within least room =
    let s : State = state_after history in
    let c : ℕ = (at + from) / 1024 in
    let fits : held_size s c ≤ 1024 = size_fits fixed history c legal in
    record {
      within = omega (arith, is, fits, within, least);
      why = elim (cases_lt (from + count) len) [
        | inr full ↦ inl (omega (arith, full, least, room))
        | inl less ↦ inr (elim (cases_lt size 1024) [
          | inr whole ↦ inl (omega (arith, whole, less, least, is, fits, within))
          | inl short ↦
              let same : c ≡ (at + (from + count)) / 1024 = omega (arith, short, less, least, within) in
              inr (unheld_past s (at + (from + count)) (subst (λ (d : ℕ). held_size s d ≤ (at + (from + count)) % 1024) same (omega (arith, short, less, least, within, is))))
        ])
      ];
    }

-- a chunk with no bytes from the position on
pub chunk_ends : (s : State) (at from size len : ℕ) → size ≡ held_size s ((at + from) / 1024) → size ≤ (at + from) % 1024
    → StopsFilling s (at + from) (1024 * ((at + from) / 1024 + 1)) from len
chunk_ends s at from size len is past = record {
  within = omega arith;
  why = inr (inr (unheld_past s (at + from) (omega (arith, is, past))));
}

-- a part of a word's bytes
pub part_size : (bytes : List ℕ) (word skip count : ℕ) → bytes ≡ to_le_bytes w64 word → skip + count ≤ 8 → length (take count (drop skip bytes)) ≡ count
part_size bytes word skip count is inside =
    let eight : length bytes ≡ 8 = ap (λ (xs : List ℕ). length xs) is in
    omega (arith, length-take count (drop skip bytes), length-drop skip bytes, eight, inside)

pub part_byte : (bytes : List ℕ) (word skip count k : ℕ) → bytes ≡ to_le_bytes w64 word → k < count
    → slice_index (take count (drop skip bytes)) k ≡ slice_index (to_le_bytes w64 word) (skip + k)
part_byte bytes word skip count k is below =
    get_or-take count (drop skip bytes) k 0 below ∙ get_or-drop skip bytes k 0 ∙ ap (λ (xs : List ℕ). get_or xs (skip + k) 0) is

-- one whole word more
pub words_more : (s : State) (at from i count chunk number word : ℕ) (first old new bytes : List ℕ) → AreSmall s
    → (at + from) % 1024 + 8 * count ≤ held_size s ((at + from) / 1024) → (0 < count → (at + from) % 8 ≡ 0) → i < count
    → chunk ≡ (at + from) / 1024 → number ≡ (at + from) % 1024 / 8 + 1 + i
    → ((bs : List ℕ) → s.held chunk ≡ Some bs → word ≡ cell_word bs number)
    → bytes ≡ to_le_bytes w64 word → from + 8 * count ≤ length first → IsBufferFilled s at from (from + 8 * i) first old
    → new ≡ take (from + 8 * i) old ++ (bytes ++ drop (from + 8 * i + length bytes) old)
    → IsBufferFilled s at from (from + 8 * (i + 1)) first new
words_more s at from i count chunk number word first old new bytes small held aligned less chunk_is number_is found is room filled put =
    let fits : held_size s ((at + from) / 1024) ≤ 1024 = size_small s small ((at + from) / 1024) in
    let begins : (at + from) % 8 ≡ 0 = aligned (omega (arith, less)) in
    let same : (at + from) / 1024 ≡ (at + (from + 8 * i)) / 1024 = omega (arith, held, fits, less) in
    let within : (at + (from + 8 * i)) % 1024 + 8 ≤ held_size s ((at + (from + 8 * i)) / 1024) =
    subst (λ (c : ℕ). (at + (from + 8 * i)) % 1024 + 8 ≤ held_size s c) same (omega (arith, held, fits, less)) in
    let starts : 0 ≡ (at + (from + 8 * i)) % 8 = omega (arith, begins) in
    let at_word : number ≡ (at + (from + 8 * i)) % 1024 / 8 + 1 = omega (arith, number_is, held, fits, less, begins) in
    let next : from + 8 * i + 8 ≡ from + 8 * (i + 1) = omega arith in
    let size : length bytes ≡ 8 = ap (λ (xs : List ℕ). length xs) is in
    filled_then s at from (from + 8 * i) (from + 8 * (i + 1)) first old new filled
    (subst (λ (n : ℕ). IsBufferFilled s at (from + 8 * i) n old new) next
    (part_filled s at (from + 8 * i) 8 0 chunk number word old new bytes small within (omega (arith, starts)) starts (chunk_is ∙ same) at_word found size
    (λ k below. let place : k ≡ 0 + k = omega arith in ap (λ (xs : List ℕ). get_or xs k 0) is ∙ ap (λ (j : ℕ). get_or (to_le_bytes w64 word) j 0) place)
    (omega (arith, room, less, filled.size)) put))

-- what is held from a position on is so from a later one
pub still_held : (s : State) (p q d n : ℕ) → q ≡ p + d → p % 1024 + d + n ≤ held_size s (p / 1024) → held_size s (p / 1024) ≤ 1024
    → q % 1024 + n ≤ held_size s (q / 1024)
still_held s p q d n is held fits = elim (cases_lt (p % 1024 + d) 1024) [
  | inl inside ↦
      let same : p / 1024 ≡ q / 1024 = omega (arith, is, inside) in
      subst (λ (c : ℕ). q % 1024 + n ≤ held_size s c) same (omega (arith, is, inside, held))
  | inr past ↦ omega (arith, is, past, held, fits)
]
