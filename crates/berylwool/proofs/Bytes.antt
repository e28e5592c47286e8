-- Elements of lists that are cut and put together, and the bytes of a piece that are copied out of it.
use Rattle.std.proofs.Common.{◌≡◌, ◌∙◌, ℕ, zero, suc, ◌+◌, ◌-◌, ◌/◌, ◌%◌, ◌<◌, ◌≤◌, List, [], ◌∷◌, ◌++◌, append_assoc, drop, drop_at, length, length-append, length-drop, length-take-le, slice_get, take, None, Some, Option, get_or, option_and_then, ap, arith, inl, inr, refl, subst, sym}
use Rattle.std.proofs.lemmas.Bool.{cases_lt}
use Rattle.std.proofs.lemmas.Option.{none-some, same_Some, slice_get-get_or}
use Rattle.std.proofs.lemmas.List.{drop-append-le, drop-drop, take-append-drop, take-append-le}
use Rattle.holders.specs.declared.piece.Piece.{Piece}
use Rattle.holders.specs.Pieces.{chunk_bytes}
use Rattle.berylwool.specs.Decoding.{AreBytesOf, byte_of}

pub get_drop : (xs : List ℕ) (n i : ℕ) → slice_get (drop n xs) i ≡ slice_get xs (n + i)
get_drop xs zero i = ap (λ (k : ℕ). slice_get xs k) (omega arith)
get_drop [] (suc n) i = refl
get_drop (x ∷ xs) (suc n) i =
    let next : suc (n + i) ≡ suc n + i = omega arith in
    get_drop xs n i ∙ ap (λ (k : ℕ). slice_get (x ∷ xs) k) next

pub get_take : (xs : List ℕ) (n i : ℕ) → i < n → slice_get (take n xs) i ≡ slice_get xs i
get_take xs zero i below = absurd (omega (arith, below))
get_take [] (suc n) i below = refl
get_take (x ∷ xs) (suc n) zero below = refl
get_take (x ∷ xs) (suc n) (suc i) below = get_take xs n i (omega (arith, below))

pub get_left : (xs ys : List ℕ) (i : ℕ) → i < length xs → slice_get (xs ++ ys) i ≡ slice_get xs i
get_left [] ys i below = absurd (omega (arith, below))
get_left (x ∷ xs) ys zero below = refl
get_left (x ∷ xs) ys (suc i) below = get_left xs ys i (omega (arith, below))

pub get_right : (xs ys : List ℕ) (i : ℕ) → slice_get (xs ++ ys) (length xs + i) ≡ slice_get ys i
get_right [] ys i = ap (λ (k : ℕ). slice_get ys k) (omega arith)
get_right (x ∷ xs) ys i =
    let next : length (x ∷ xs) + i ≡ suc (length xs + i) = omega arith in
    ap (λ (k : ℕ). slice_get (x ∷ (xs ++ ys)) k) next ∙ get_right xs ys i

-- what is copied so far, and a part after it
pub copied_next : (piece : Piece) (start f : ℕ) (out part out' : List ℕ) → f + length part ≤ length out → out' ≡ take f out ++ (part ++ drop (f + length part) out)
    → ((i : ℕ) → i < f → byte_of piece (start + i) ≡ slice_get out i) → ((i : ℕ) → i < length part → byte_of piece ((start + f) + i) ≡ slice_get part i)
    → (i : ℕ) → i < f + length part → byte_of piece (start + i) ≡ slice_get out' i
copied_next piece start f out part out' fits is so then i below =
    let rest : List ℕ = part ++ drop (f + length part) out in
    let cut : length (take f out) ≡ f = length-take-le f out (omega (arith, fits)) in
    elim (cases_lt i f) [
      | inl early ↦ so i early ∙ sym (ap (λ (xs : List ℕ). slice_get xs i) is ∙ get_left (take f out) rest i (omega (arith, cut, early)) ∙ get_take out f i early)
      | inr late ↦
          let k : ℕ = i - f in
          let place : start + i ≡ (start + f) + k = omega (arith, late) in
          let there : i ≡ length (take f out) + k = omega (arith, late, cut) in
          ap (λ (q : ℕ). byte_of piece q) place ∙ then k (omega (arith, late, below))
          ∙ sym (ap (λ (xs : List ℕ). slice_get xs i) is ∙ ap (λ (j : ℕ). slice_get (take f out ++ rest) j) there ∙ get_right (take f out) rest k
          ∙ get_left part (drop (f + length part) out) k (omega (arith, late, below)))
    ]

-- and what comes after stays
pub stays_after : (f : ℕ) (first out part out' : List ℕ) → f + length part ≤ length out → out' ≡ take f out ++ (part ++ drop (f + length part) out)
    → drop f out ≡ drop f first → drop (f + length part) out' ≡ drop (f + length part) first
stays_after f first out part out' fits is same =
    let n : ℕ = length part in
    let cut : length (take f out) ≡ f = length-take-le f out (omega (arith, fits)) in
    let both : length (take f out ++ part) ≡ f + n = length-append (take f out) part ∙ omega (arith, cut) in
    ap (λ (xs : List ℕ). drop (f + n) xs) (is ∙ sym (append_assoc (take f out) part (drop (f + n) out)))
    ∙ drop_at (take f out ++ part) (drop (f + n) out) (f + n) both
    ∙ sym (drop-drop n f out) ∙ ap (λ (xs : List ℕ). drop n xs) same ∙ drop-drop n f first

pub copied_all : (piece : Piece) (start most f : ℕ) (out : List ℕ) → f ≤ length out → length out ≡ most
    → ((i : ℕ) → i < f → byte_of piece (start + i) ≡ slice_get out i) → (f < most → byte_of piece (start + f) ≡ None) → AreBytesOf piece start most (take f out)
copied_all piece start most f out within size so ends =
    let cut : length (take f out) ≡ f = length-take-le f out within in
    record {
      within = omega (arith, cut, within, size);
      are = λ i below. let early : i < f = omega (arith, cut, below) in so i early ∙ sym (get_take out f i early);
      ends = λ below. ap (λ (k : ℕ). byte_of piece (start + k)) cut ∙ ends (omega (arith, cut, below));
    }

-- a byte of a chunk that the piece has
pub byte_there : (piece : Piece) (q : ℕ) (bytes : List ℕ) → chunk_bytes piece (q / 1024) ≡ Some bytes → byte_of piece q ≡ slice_get bytes (q % 1024)
byte_there piece q bytes has = ap (λ (o : Option (List ℕ)). option_and_then (λ bs. slice_get bs (q % 1024)) o) has

-- the bytes from one of them on are as they stand in their chunk
pub bytes_there : (piece : Piece) (q n i : ℕ) (bytes : List ℕ) → chunk_bytes piece (q / 1024) ≡ Some bytes → q % 1024 + n ≤ 1024 → i < n
    → byte_of piece (q + i) ≡ slice_get (take n (drop (q % 1024) bytes)) i
bytes_there piece q n i bytes has fits below =
    let same : (q + i) / 1024 ≡ q / 1024 = omega (arith, fits, below) in
    let place : (q + i) % 1024 ≡ q % 1024 + i = omega (arith, fits, below) in
    byte_there piece (q + i) bytes (ap (λ (k : ℕ). chunk_bytes piece k) same ∙ has) ∙ ap (λ (k : ℕ). slice_get bytes k) place
    ∙ sym (get_take (drop (q % 1024) bytes) n i below ∙ get_drop bytes (q % 1024) i)

pub same_size : (f : ℕ) (out part out' : List ℕ) → f + length part ≤ length out → out' ≡ take f out ++ (part ++ drop (f + length part) out) → length out' ≡ length out
same_size f out part out' fits is =
    let rest : List ℕ = drop (f + length part) out in
    ap (λ (xs : List ℕ). length xs) is
    ∙ omega (arith, fits, length-append (take f out) (part ++ rest), length-append part rest, length-take-le f out (omega (arith, fits)), length-drop (f + length part) out)

-- what was copied to the front of a buffer
pub decoded_bytes : (p piece : Piece) (start size n : ℕ) (room filled rest : List ℕ) → p ≡ piece → length room ≡ size → n ≤ length filled
    → AreBytesOf p start (length room) (take n filled) → AreBytesOf piece start size (take n (filled ++ rest))
decoded_bytes p piece start size n room filled rest is long within are =
    subst (λ (q : Piece). AreBytesOf q start size (take n (filled ++ rest))) is
    (subst (λ (k : ℕ). AreBytesOf p start k (take n (filled ++ rest))) long
    (subst (λ (xs : List ℕ). AreBytesOf p start (length room) xs) (sym (take-append-le n filled rest within)) are))

pub decoded_rest : (n size : ℕ) (out filled : List ℕ) → n ≤ length filled → length filled ≡ length (take size out) → drop n filled ≡ drop n (take size out)
    → drop n (filled ++ drop size out) ≡ drop n out
decoded_rest n size out filled within long same =
    drop-append-le n filled (drop size out) within ∙ ap (λ (xs : List ℕ). xs ++ drop size out) same
    ∙ sym (drop-append-le n (take size out) (drop size out) (omega (arith, within, long))) ∙ ap (λ (xs : List ℕ). drop n xs) (take-append-drop size out)

-- lists of one length with the same elements
same_list : (xs ys : List ℕ) → length xs ≡ length ys → ((i : ℕ) → i < length xs → slice_get xs i ≡ slice_get ys i) → xs ≡ ys
same_list [] [] long same = refl
same_list [] (y ∷ ys) long same = absurd (omega (arith, long))
same_list (x ∷ xs) [] long same = absurd (omega (arith, long))
same_list (x ∷ xs) (y ∷ ys) long same =
    let first : x ≡ y = same_Some x y (same 0 (omega arith)) in
    let rest : xs ≡ ys = same_list xs ys (omega (arith, long)) (λ i below. same (suc i) (omega (arith, below))) in
    λ i. first i ∷ rest i

no_less : (piece : Piece) (start most : ℕ) (xs ys : List ℕ) → AreBytesOf piece start most xs → AreBytesOf piece start most ys → length xs < length ys → ⊥
no_less piece start most xs ys one other less =
    let none : slice_get ys (length xs) ≡ None = sym (other.are (length xs) less) ∙ one.ends (omega (arith, less, other.within)) in
    none-some (get_or ys (length xs) 0) (sym none ∙ slice_get-get_or ys (length xs) 0 less)

-- what a piece has from a position on is one list
pub one_list : (piece : Piece) (start most : ℕ) (xs ys : List ℕ) → AreBytesOf piece start most xs → AreBytesOf piece start most ys → xs ≡ ys
one_list piece start most xs ys one other =
    let long : length xs ≡ length ys = elim (cases_lt (length xs) (length ys)) [
      | inl less ↦ absurd (no_less piece start most xs ys one other less)
      | inr more ↦ elim (cases_lt (length ys) (length xs)) [ inl less ↦ absurd (no_less piece start most ys xs other one less) | inr same ↦ omega (arith, more, same) ]
    ] in
    same_list xs ys long (λ i below. sym (one.are i below) ∙ other.are i (omega (arith, below, long)))

-- buffers of which the front and the rest are the same
pub one_buffer : (n m : ℕ) (xs ys was : List ℕ) → n ≡ m → take n xs ≡ take m ys → drop n xs ≡ drop n was → drop m ys ≡ drop m was → xs ≡ ys
one_buffer n m xs ys was count front ours theirs =
    sym (take-append-drop n xs) ∙ (λ i. front i ++ (ours ∙ ap (λ (k : ℕ). drop k was) count ∙ sym theirs) i) ∙ take-append-drop m ys
