-- What a worker does with the slices of a blob that a holder gives.
use Rattle.gather.proofs.Common.{◌≢◌, eqb-true, eq-eqb, ◌≡◌, ℕ, ◌+◌, ◌-◌, ◌*◌, ◌/◌, ◌%◌, ◌^◌, ◌<◌, ◌≤◌, min, ◌==◌, ◌&&◌, not, Bool, true, false, List, [], ◌∷◌, zero, suc, get_or, set, slice_get, IfSome, IsSome, Option, None, Some, length, refl, sym, ap, subst, ◌∙◌, arith, inl, inr, ltb-true, mul_comm, nat_lt, get_or_from_slice_get, and_parts, both_ways, cases_Bool, cases_lt, lt-ltb, add-mod_right, div-lt_iff_lt-mul, mod-eq_of_lt, mul-lt-mul_of_pos_right, Mode, IsAccepted, slice_nodes, HoldsLast, IsPiece, Checked, slice_text, Fixed, Piece, has_room, IsMaskOf, has_bit, in_mask, EndsBlob, length_of, piece_of, IsOf}
use Rattle.gather.proofs.Bits.{has_bit_zero}
use Rattle.holders.specs.Holders.{AreLater}
use Rattle.gather.specs.Filled.{IsWanted}
use Rattle.holders.specs.Available.{GivesSlice, HasSlice, IsServed, slice_of}
use Rattle.gather.specs.Counts.{HasFailed, HasFailedSince, memory_once}
use Rattle.gather.specs.declared.report.Report.{Report}
use Rattle.holders.specs.Blobs.{EndsTooFar}
use Rattle.holders.proofs.Slices.{piece_is}

-- a slice is accepted under the store's root and in its mode
pub slice_good : (fixed known : Fixed) (blob text : List ℕ) (start len : ℕ) → IsServed fixed blob → known ≡ fixed → text ≡ slice_text fixed.mode blob start len
    → IsAccepted known.mode known.root.0 text (slice_nodes text start len)
slice_good fixed known blob text start len served same is =
    subst (λ (f : Fixed). IsAccepted f.mode f.root.0 text (slice_nodes text start len)) (sym same)
    (subst (λ (xs : List ℕ). IsAccepted fixed.mode fixed.root.0 xs (slice_nodes xs start len)) (sym is) (served.accepted start len))

pub slice_is : (fixed : Fixed) (it : Checked) (mode : Mode) (root : List ℕ) (start len : ℕ) (blob text : List ℕ) → IsPiece it mode root start len text
    → text ≡ slice_text fixed.mode blob start len → piece_of fixed.base it ≡ slice_of fixed blob start len
slice_is fixed it mode root start len blob text is same = piece_is fixed.base it mode root start len text is ∙ ap (λ (xs : List ℕ). record { base = fixed.base; start = start; len = len; text = xs }) same

-- it is of the store's root and mode
pub is_of : (fixed known : Fixed) (it : Checked) (start len : ℕ) (text : List ℕ) → known ≡ fixed → IsPiece it known.mode known.root.0 start len text → IsOf fixed it
is_of fixed known it start len text same is = record {
  root = (λ i. record { 0 = is.root_is i }) ∙ ap (λ (f : Fixed). f.root) same;
  mode = is.mode_is ∙ ap (λ (f : Fixed). f.mode) same;
}

-- a slice that reaches the end has the last chunk
pub holds_last : (fixed : Fixed) (it : Checked) (blob : List ℕ) (start len : ℕ) → IsServed fixed blob → length blob ≤ start + len → piece_of fixed.base it ≡ slice_of fixed blob start len → HoldsLast it
holds_last fixed it blob start len served reaches is = subst (λ (piece : Piece). EndsBlob piece) (sym is) (served.ends start len reaches)

-- and its length is never too large
pub never_large : (fixed : Fixed) (piece : Piece) (blob : List ℕ) (start len : ℕ) → IsServed fixed blob → piece ≡ slice_of fixed blob start len → EndsTooFar fixed piece → ⊥
never_large fixed piece blob start len served is large =
    let long : length_of piece ≡ length blob = ap (λ (p : Piece). length_of p) is ∙ served.claims start len in
    both_ways _ large.above (ap (λ (l : ℕ). has_room fixed l) long ∙ served.fits)

-- a fetch that memory was refused to counts that
pub memory_counts : (w x y : Report) → x.memory ≡ w.memory → y ≡ memory_once x → HasFailedSince w y
memory_counts w x y same is = let counts : y.memory ≡ min (x.memory + 1) (2 ^ 64 - 1) = ap (λ (r : Report). r.memory) is in
    elim (cases_lt w.memory (2 ^ 64 - 1)) [ inl low ↦ inl (omega (arith, counts, same, low)) | inr high ↦ inr (omega (arith, counts, same, high)) ]

-- it was so since an earlier report, and until a later one
pub fails_from : (w x y : Report) → (w.memory ≤ x.memory) × (w.failed ≤ x.failed) → HasFailedSince x y → HasFailedSince w y
fails_from w x y no_less (inl more) = inl (omega (arith, more, no_less.0))
fails_from w x y no_less (inr end) = inr end

pub fails_until : (w x y : Report) → (x.memory ≤ y.memory) × (x.failed ≤ y.failed) → HasFailedSince w x → HasFailedSince w y
fails_until w x y no_less (inl more) = inl (omega (arith, more, no_less.0))
fails_until w x y no_less (inr end) = inr (omega (arith, end, no_less.0))

pub failed_since : (x y : Report) → HasFailedSince x y → HasFailed y
failed_since x y (inl more) = omega (arith, more)
failed_since x y (inr end) = omega (arith, end)

not_true : (b : Bool) → not b ≡ true → b ≡ false
not_true true is = let no : false ≡ true = is in cc
not_true false is = refl

-- chunks of a mask without another
pub rest_parts : (group mask other rest c : ℕ) → ((j : ℕ) → j < 64 → has_bit rest j ≡ (has_bit mask j && not (has_bit other j)))
    → in_mask group rest c ≡ true → (in_mask group mask c ≡ true) × (in_mask group other c ≡ false)
rest_parts group mask other rest c bits hit =
    let parts = and_parts (c / 64 == group) (has_bit rest (c % 64)) hit in
    let both : (has_bit mask (c % 64) && not (has_bit other (c % 64))) ≡ true = sym (bits (c % 64) (omega arith)) ∙ parts.1 in
    let halves = and_parts (has_bit mask (c % 64)) (not (has_bit other (c % 64))) both in
    let here : (c / 64 == group) ≡ true = parts.0 in
    let off : has_bit other (c % 64) ≡ false = not_true (has_bit other (c % 64)) halves.1 in (
      rw here halves.0,
      rw here off,
    )

-- an element after the one that was set
pub get_set_after : {H : Type 0} (xs : List H) (i k : ℕ) (y : H) → i < k → slice_get (set xs i y) k ≡ slice_get xs k
get_set_after [] i k y after = refl
get_set_after (x ∷ xs) zero zero y after = absurd (omega (arith, after))
get_set_after (x ∷ xs) zero (suc k) y after = refl
get_set_after (x ∷ xs) (suc i) zero y after = absurd (omega (arith, after))
get_set_after (x ∷ xs) (suc i) (suc k) y after = get_set_after xs i k y (omega (arith, after))

-- the holder that gives a slice of the blob, when it is asked
pub slice_here : {H : Type 0} (gives : H → ℕ → ℕ → List ℕ → Type 0) (mode : Mode) (blob : List ℕ) (start len : ℕ) (all now : List H) (d : H)
    (is : HasSlice gives mode blob start len all) → slice_get now is.place ≡ slice_get all is.place → GivesSlice gives mode blob start len (get_or now is.place d)
slice_here gives mode blob start len all now d is same =
    subst (λ h. GivesSlice gives mode blob start len h) (sym (get_or_from_slice_get now is.place is.holder d (same ∙ is.there))) is.gives_slice

-- what is recorded is answered again
pub known_some : (o then : Option ℕ) (P : ℕ → Type 0) → IfSome o P → IsSome o → ((n : ℕ) → P n → then ≡ Some n) → IsSome then
known_some None then P has is known = let no : false ≡ true = is in cc
known_some (Some n) then P has is known = subst (λ (x : Option ℕ). IsSome x) (sym (known n has)) refl

-- the wanted chunks of a group are those of the first ones
pub wanted_below : (chunks group want : ℕ) → IsMaskOf group want (λ c. nat_lt c chunks) → (c : ℕ) → IsWanted group want c → c < chunks
wanted_below chunks group want is c (here, bit) = ltb-true c chunks (sym (is.bits c here) ∙ bit)

pub wanted_there : (chunks group want : ℕ) → IsMaskOf group want (λ c. nat_lt c chunks) → (c : ℕ) → c / 64 ≡ group → c < chunks → IsWanted group want c
wanted_there chunks group want is c here below = (here, is.bits c here ∙ lt-ltb c chunks below)

-- of a mask of one bit one chunk is wanted
pub wanted_one : (chunk group want c : ℕ) → group ≡ chunk / 64 → ((k : ℕ) → k ≢ chunk % 64 → has_bit want k ≡ has_bit 0 k) → IsWanted group want c → c ≡ chunk
wanted_one chunk group want c at others (here, bit) = elim (cases_Bool (c % 64 == chunk % 64)) [
  | inl same ↦ omega (arith, at, here, eqb-true (c % 64) (chunk % 64) same)
  | inr other ↦
      let unset : has_bit want (c % 64) ≡ false = others (c % 64) (λ same. both_ways _ other (eq-eqb (c % 64) (chunk % 64) same)) ∙ has_bit_zero (c % 64) in
      absurd (both_ways _ unset bit)
]

-- a round over groups meets each of them
pub round_meets : (first groups group : ℕ) → first < groups → group < groups → (k : ℕ) × (k < groups) × (group ≡ (first + k) % groups)
round_meets first groups group begun there = elim (cases_lt group first) [
  | inl before ↦
      let k = group + groups - first in
      let sum : first + k ≡ group + groups = omega (arith, begun, before) in
      (k, omega (arith, begun, before), sym (ap (λ (n : ℕ). n % groups) sum ∙ add-mod_right group groups ∙ mod-eq_of_lt there))
  | inr after ↦
      let k = group - first in
      let sum : first + k ≡ group = omega (arith, after) in
      (k, omega (arith, begun, there, after), sym (ap (λ (n : ℕ). n % groups) sum ∙ mod-eq_of_lt there))
]

-- a holder that gives a slice of a blob goes on to
pub later_slice : {H : Type 0} (gives : H → ℕ → ℕ → List ℕ → Type 0) (mode : Mode) (blob : List ℕ) (start len : ℕ) (old new : List H) → AreLater gives old new
    → HasSlice gives mode blob start len old → HasSlice gives mode blob start len new
later_slice gives mode blob start len old new later has =
    let then = later.each has.place has.holder has.there in
    record { place = has.place; holder = then.0; there = then.1; gives_slice = λ text is. has.gives_slice text (then.2 start len text is) }

-- a worker begins at one of the groups
pub begins_within : (number workers groups : ℕ) → number < workers → 0 < groups → number * groups / workers < groups
begins_within number workers groups below some =
    let scaled : number * groups < workers * groups = mul-lt-mul_of_pos_right below some in
    (div-lt_iff_lt-mul (omega (arith, below))).1 (subst (λ (m : ℕ). number * groups < m) (mul_comm workers groups) scaled)
