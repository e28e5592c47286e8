-- Words that stand for a state still do where a step writes a word of one kind, and the words of the other kinds are left.
use Rattle.std.proofs.Common.{[], ◌≡◌, ◌≢◌, ℕ, ◌+◌, ◌*◌, ◌/◌, ◌%◌, ◌^◌, ◌<◌, ◌≤◌, Bool, true, false, not, ◌&&◌, ◌||◌, if◌then◌else◌, List, Option, None, Some, is_some, length, slice_index, set, sym, ap, ◌∙◌, arith, inl, inr, eq-eqb, ne_eqb, ◌==◌, ◌∷◌, eqb-true, subst, nat_lt}
use Rattle.std.specs.Int.{w64, bit_not}
use Rattle.std.specs.Int.Bits.{bit_and, bit_or}
use Rattle.std.proofs.lemmas.Bool.Decides.{nat_tests}
use Rattle.std.proofs.Math.Bool.{and_assoc}
use Rattle.std.proofs.lemmas.Bool.{and_left, and_right, both_ways, cases_Bool, cases_eq}
use Rattle.std.proofs.lemmas.List.{get_or-set_other, get_or-set_same, length-set}
use Rattle.holders.specs.declared.fixed.Fixed.{Fixed}
use Rattle.store_core.specs.declared.view.StoredWord.{StoredWord}
use Rattle.store_core.specs.Laws.{IsSound}
use Rattle.holders.specs.Room.{groups}
use Rattle.store_core.specs.Masks.{has_bit, in_mask, IsMaskOf}
use Rattle.store_core.specs.Names.{Name}
use Rattle.store_core.specs.States.{State, is_claimed, is_held}
use Rattle.store_core.specs.Views.{stored, without_chunks}
use Rattle.store_core.proofs.Bits.{has_bit-zero, has_bit-and, has_bit-not, has_bit-or, and_small}
use Rattle.store_steps.specs.Layout.{cell_place, claim_place, length_code, length_place, length_word, parents_place}
use Rattle.store_steps.specs.Rule.{StandFor}

-- a word that isn't written, and one that is
pub left : (words : List ℕ) (i n j : ℕ) → j ≢ i → slice_index (set words i n) j ≡ slice_index words j
left words i n j other = get_or-set_other words i j n 0 other

pub put : (words : List ℕ) (i n : ℕ) → i < length words → slice_index (set words i n) i ≡ n
put words i n within = get_or-set_same words i n 0 within

-- a mask's items, and those of other groups
pub in_here : (group mask n : ℕ) → n / 64 ≡ group → in_mask group mask n ≡ has_bit mask (n % 64)
in_here group mask n here = ap (λ (b : Bool). b && has_bit mask (n % 64)) (eq-eqb (n / 64) group here)

pub in_other : (group mask n : ℕ) → n / 64 ≢ group → in_mask group mask n ≡ false
in_other group mask n other = and_left _ _ (ne_eqb (n / 64) group other)

-- no item is in a mask of no bits
pub in_none : (group n : ℕ) → in_mask group 0 n ≡ false
in_none group n = and_right _ _ (has_bit-zero (n % 64))

-- what counts as stored where words of a mask's chunks count no more
stored-without : (group mask number : ℕ) (words : List StoredWord)
    → stored (without_chunks group mask words) number ≡ (if in_mask group mask (number / 129) then None else stored words number)
stored-without group mask number [] = grind (arith, nat_tests)
stored-without group mask number (w ∷ words) = let rest = stored-without group mask number words in grind (arith, nat_tests)

-- of a chunk whose claim goes on that is as it was
pub stays_stored : (group mask number : ℕ) (words : List StoredWord) → in_mask group mask (number / 129) ≡ false
    → stored (without_chunks group mask words) number ≡ stored words number
stays_stored group mask number words miss = stored-without group mask number words ∙ ap (λ (b : Bool). if b then None else stored words number) miss

-- a word that still counts as stored did so before, and is of none of the mask's chunks
pub still_stored : (group mask : ℕ) (words : List StoredWord) (number value : ℕ) → stored (without_chunks group mask words) number ≡ Some value
    → (in_mask group mask (number / 129) ≡ false) × (stored words number ≡ Some value)
still_stored group mask words number value h = let is = stored-without group mask number words in grind (arith, nat_tests)

-- Items are chunks, or boundaries with their parents. At a place for each group stands a word whose bits are those of the
-- group's items that pass a test.
abbrev pub AreBits : Fixed → (ℕ → ℕ) → List ℕ → (ℕ → Bool) → Type 0
AreBits fixed at words test = (n : ℕ) → n / 64 < groups fixed → has_bit (slice_index words (at (n / 64))) (n % 64) ≡ test n

-- no two groups have one place
abbrev pub ArePlaces : (ℕ → ℕ) → Type 0
ArePlaces at = (g h : ℕ) → at g ≡ at h → g ≡ h

-- a word beside them is written
pub bits_left : (fixed : Fixed) (at : ℕ → ℕ) (words : List ℕ) (test : ℕ → Bool) (i n : ℕ) → ((g : ℕ) → g < groups fixed → at g ≢ i) → AreBits fixed at words test
    → AreBits fixed at (set words i n) test
bits_left fixed at words test i n beside stand c below = ap (λ (w : ℕ). has_bit w (c % 64)) (left words i n (at (c / 64)) (beside (c / 64) below)) ∙ stand c below

module _ (fixed : Fixed) (at : ℕ → ℕ) (places : ArePlaces at) (words : List ℕ) (test : ℕ → Bool) (stand : AreBits fixed at words test)
    (group : ℕ) (there : group < groups fixed) where
  -- what the group's word says of an item
  pub bit_is : (n : ℕ) → n / 64 ≡ group → has_bit (slice_index words (at group)) (n % 64) ≡ test n
  bit_is n here = ap (λ (g : ℕ). has_bit (slice_index words (at g)) (n % 64)) (sym here) ∙ stand n (omega (arith, here, there))

  -- the word is written
  pub bits_put : (word : ℕ) (after : ℕ → Bool) → at group < length words → ((n : ℕ) → n / 64 ≡ group → has_bit word (n % 64) ≡ after n)
      → ((n : ℕ) → n / 64 ≢ group → after n ≡ test n) → AreBits fixed at (set words (at group) word) after
  bits_put word after within here other n below = elim (cases_eq (n / 64) group) [
    | inl e ↦
        ap (λ (g : ℕ). has_bit (slice_index (set words (at group) word) (at g)) (n % 64)) e
        ∙ ap (λ (w : ℕ). has_bit w (n % 64)) (put words (at group) word within) ∙ here n e
    | inr differ ↦
        ap (λ (w : ℕ). has_bit w (n % 64)) (left words (at group) word (at (n / 64)) (λ e. differ (places (n / 64) group e)))
        ∙ stand n below ∙ sym (other n differ)
  ]

-- the bit of an item in a claim word, by whether it is shown and who claims it: it is asked for, or given up
grant_bit : {A : Type 0} (asked shown : Bool) (claim by : Option A) → is_some by ≡ true
    → ((shown || is_some claim) || asked) ≡ (shown || is_some (if asked && not (shown || is_some claim) then by else claim))
grant_bit asked shown claim by some = grind (arith, nat_tests)

give_bit : {A : Type 0} (given shown : Bool) (claim : Option A) → (given ≡ true → shown ≡ false)
    → ((shown || is_some claim) && not given) ≡ (shown || is_some (if given then None else claim))
give_bit given shown claim hidden = grind (arith, nat_tests)

-- Claim words have the bits of the items that are shown or claimed, by somebody of any kind: a name, a view's place, a
-- number. One of them is changed.
module _ {A : Type 0} (fixed : Fixed) (at : ℕ → ℕ) (places : ArePlaces at) (words : List ℕ) (shown : ℕ → Bool) (claim : ℕ → Option A)
    (stand : AreBits fixed at words (λ n. shown n || is_some (claim n))) (group : ℕ) (there : group < groups fixed) where
  -- what an or with these bits grants
  pub granted_bit : (asked n : ℕ) → slice_index words (at group) < 2 ^ 64 → n / 64 ≡ group
      → has_bit (bit_and asked (bit_not w64 (slice_index words (at group)))) (n % 64) ≡ (has_bit asked (n % 64) && not (shown n || is_some (claim n)))
  granted_bit asked n small here =
      has_bit-and asked (bit_not w64 (slice_index words (at group))) (n % 64)
      ∙ ap (λ (b : Bool). has_bit asked (n % 64) && b) (has_bit-not (slice_index words (at group)) (n % 64) small (omega arith)
      ∙ ap (λ (b : Bool). not b) (bit_is fixed at places words (λ m. shown m || is_some (claim m)) stand group there n here))

  -- of the wanted items below a capacity those that are free
  pub mask_granted : (asked want capacity : ℕ) → slice_index words (at group) < 2 ^ 64 → IsMaskOf group asked (λ n. has_bit want (n % 64) && nat_lt n capacity)
      → IsMaskOf group (bit_and asked (bit_not w64 (slice_index words (at group)))) (λ n. has_bit want (n % 64) && (nat_lt n capacity && not (shown n || is_some (claim n))))
  mask_granted asked want capacity small asks = record {
    small = and_small asked (bit_not w64 (slice_index words (at group))) asks.small;
    bits = λ n here.
        granted_bit asked n small here ∙ ap (λ (b : Bool). b && not (shown n || is_some (claim n))) (asks.bits n here)
        ∙ and_assoc (has_bit want (n % 64)) (nat_lt n capacity) (not (shown n || is_some (claim n)));
  }

  pub bits_granted : (asked : ℕ) (by : Option A) → is_some by ≡ true → slice_index words (at group) < 2 ^ 64 → at group < length words
      → AreBits fixed at (set words (at group) (bit_or (slice_index words (at group)) asked))
      (λ n. shown n || is_some (if in_mask group (bit_and asked (bit_not w64 (slice_index words (at group)))) n then by else claim n))
  bits_granted asked by some small within =
      let found : ℕ = slice_index words (at group) in
      let granted : ℕ = bit_and asked (bit_not w64 found) in
      bits_put fixed at places words (λ m. shown m || is_some (claim m)) stand group there (bit_or found asked)
      (λ n. shown n || is_some (if in_mask group granted n then by else claim n)) within
      (λ n here.
      has_bit-or found asked (n % 64)
      ∙ ap (λ (b : Bool). b || has_bit asked (n % 64)) (bit_is fixed at places words (λ m. shown m || is_some (claim m)) stand group there n here)
      ∙ grant_bit (has_bit asked (n % 64)) (shown n) (claim n) by some
      ∙ ap (λ (b : Bool). shown n || is_some (if b then by else claim n)) (sym (in_here group granted n here ∙ granted_bit asked n small here)))
      (λ n other. ap (λ (b : Bool). shown n || is_some (if b then by else claim n)) (in_other group granted n other))

  -- an and takes these out, of which none is shown
  pub bits_given : (given : ℕ) → given < 2 ^ 64 → ((n : ℕ) → in_mask group given n ≡ true → shown n ≡ false) → at group < length words
      → AreBits fixed at (set words (at group) (bit_and (slice_index words (at group)) (bit_not w64 given))) (λ n. shown n || is_some (if in_mask group given n then None else claim n))
  bits_given given small hidden within =
      let found : ℕ = slice_index words (at group) in
      bits_put fixed at places words (λ m. shown m || is_some (claim m)) stand group there (bit_and found (bit_not w64 given))
      (λ n. shown n || is_some (if in_mask group given n then None else claim n)) within
      (λ n here.
      has_bit-and found (bit_not w64 given) (n % 64)
      ∙ ap (λ (b : Bool). b && has_bit (bit_not w64 given) (n % 64)) (bit_is fixed at places words (λ m. shown m || is_some (claim m)) stand group there n here)
      ∙ ap (λ (b : Bool). (shown n || is_some (claim n)) && b)
      (has_bit-not given (n % 64) small (omega arith) ∙ ap (λ (b : Bool). not b) (sym (in_here group given n here)))
      ∙ give_bit (in_mask group given n) (shown n) (claim n) (hidden n))
      (λ n other. ap (λ (b : Bool). shown n || is_some (if b then None else claim n)) (in_other group given n other))

-- the bit of an item in a held word, and whether it is held or claimed, where it becomes held
show_bit : (hit : Bool) (new old : Option (List ℕ)) → (hit ≡ true → is_some new ≡ true) → (is_some old || hit) ≡ is_some (if hit then new else old)
show_bit hit new old has = grind (arith, nat_tests)

pub still_taken : {A : Type 0} (hit : Bool) (new old : Option (List ℕ)) (claim : Option A) → (hit ≡ true → is_some new ≡ true) → (hit ≡ true → is_some claim ≡ true)
    → (is_some old || is_some claim) ≡ (is_some (if hit then new else old) || is_some (if hit then None else claim))
still_taken hit new old claim has claimed = grind (arith, nat_tests)

-- Held words have the bits of the items that are held. An or shows these.
pub bits_shown : (fixed : Fixed) (at : ℕ → ℕ) → ArePlaces at → (words : List ℕ) (held new : ℕ → Option (List ℕ)) → AreBits fixed at words (λ n. is_some (held n))
    → (group mask : ℕ) → group < groups fixed → at group < length words → ((n : ℕ) → in_mask group mask n ≡ true → is_some (new n) ≡ true)
    → AreBits fixed at (set words (at group) (bit_or (slice_index words (at group)) mask)) (λ n. is_some (if in_mask group mask n then new n else held n))
bits_shown fixed at places words held new stand group mask there within has =
    let found : ℕ = slice_index words (at group) in
    bits_put fixed at places words (λ n. is_some (held n)) stand group there (bit_or found mask) (λ n. is_some (if in_mask group mask n then new n else held n)) within
    (λ n here.
    has_bit-or found mask (n % 64) ∙ ap (λ (b : Bool). b || has_bit mask (n % 64)) (bit_is fixed at places words (λ m. is_some (held m)) stand group there n here)
    ∙ ap (λ (b : Bool). is_some (held n) || b) (sym (in_here group mask n here))
    ∙ show_bit (in_mask group mask n) (new n) (held n) (has n))
    (λ n other. ap (λ (b : Bool). is_some (if b then new n else held n)) (in_other group mask n other))

-- Words that count as stored stand at their places, if they are of one's own items. So they do with one word more.
pub stored_more : (place : ℕ → ℕ) → ArePlaces place → (own : ℕ → Bool) (words : List ℕ) (old : List StoredWord) (number value : ℕ) → place number < length words → own number ≡ true
    → ((other found : ℕ) → stored old other ≡ Some found → (own other ≡ true) × (slice_index words (place other) ≡ found))
    → (other found : ℕ) → stored (record { number = number; value = value } ∷ old) other ≡ Some found
    → (own other ≡ true) × (slice_index (set words (place number) value) (place other) ≡ found)
stored_more place places own words old number value within ours fits other found is = elim (cases_Bool (number == other)) [
  | inl here ↦
      let same : number ≡ other = eqb-true number other here in
      let is_value : Some value ≡ Some found = rw here at is in
      let value_is : value ≡ found = cc in (
        subst (λ (n : ℕ). own n ≡ true) same ours,
        ap (λ (n : ℕ). slice_index (set words (place number) value) (place n)) (sym same) ∙ put words (place number) value within ∙ value_is,
      )
  | inr differs ↦
      let w = fits other found (rw differs at is) in
      (w.0, left words (place number) value (place other) (λ e. both_ways _ differs (eq-eqb number other (sym (places other number e)))) ∙ w.1)
]

module _ (fixed : Fixed) (words : List ℕ) (s : State) (h : StandFor fixed words s) where
  -- a claim word is written
  pub claims_stand : (claim : ℕ → Option Name) (group n : ℕ) → group < groups fixed
      → AreBits fixed (claim_place fixed) (set words (claim_place fixed group) n) (λ c. is_held s c || is_some (claim c))
      → StandFor fixed (set words (claim_place fixed group) n) (record s { claim = claim })
  claims_stand claim group n there claimed = record {
    count = length-set words (claim_place fixed group) n ∙ h.count;
    held = bits_left fixed (λ g. g) words (is_held s) (claim_place fixed group) n (λ g below e. omega (arith, e, below)) h.held;
    claimed = claimed;
    cells = λ c w bytes held below.
        left words (claim_place fixed group) n (cell_place fixed (129 * c + w)) (λ e. omega (arith, e, there)) ∙ h.cells c w bytes held below;
    recorded = left words (claim_place fixed group) n (length_place fixed) (λ e. omega (arith, e, there)) ∙ h.recorded;
  }

  -- a word past the bits is written, and no word of a held chunk's cell
  beside_stand : (recorded : Option ℕ) (parents : ℕ → Option (List ℕ)) (i n : ℕ) → 2 * groups fixed ≤ i
      → ((c w : ℕ) (bytes : List ℕ) → s.held c ≡ Some bytes → w < 129 → cell_place fixed (129 * c + w) ≢ i) → length_word fixed (set words i n) ≡ length_code recorded
      → StandFor fixed (set words i n) (record s { recorded = recorded; parents = parents })
  beside_stand recorded parents i n past beside length_is = record {
    count = length-set words i n ∙ h.count;
    held = bits_left fixed (λ g. g) words (is_held s) i n (λ g below e. omega (arith, e, below, past)) h.held;
    claimed = bits_left fixed (claim_place fixed) words (λ c. is_held s c || is_claimed s c) i n (λ g below e. omega (arith, e, below, past)) h.claimed;
    cells = λ c w bytes held below. left words i n (cell_place fixed (129 * c + w)) (beside c w bytes held below) ∙ h.cells c w bytes held below;
    recorded = length_is;
  }

  -- a word of a chunk's cell is written that isn't held
  pub cells_stand : (number n : ℕ) → number < 129 * fixed.capacity → is_held s (number / 129) ≡ false → StandFor fixed (set words (cell_place fixed number) n) s
  cells_stand number n there free = beside_stand s.recorded s.parents (cell_place fixed number) n (omega arith)
      (λ c w bytes held below e.
      let chunk : number / 129 ≡ c = omega (arith, e, below) in
      both_ways _ free (ap (λ (k : ℕ). is_held s k) chunk ∙ ap (λ (o : Option (List ℕ)). is_some o) held))
      (left words (cell_place fixed number) n (length_place fixed) (λ e. omega (arith, e, there)) ∙ h.recorded)

  -- a held chunk's cell lies before the length word
  cell_low : IsSound fixed s → (c w : ℕ) (bytes : List ℕ) → s.held c ≡ Some bytes → w < 129 → cell_place fixed (129 * c + w) < length_place fixed
  cell_low sound c w bytes held below =
      let low : c < fixed.capacity = sound.held_below c (ap (λ (o : Option (List ℕ)). is_some o) held) in omega (arith, low, below)

  -- the length word is written
  pub length_stands : IsSound fixed s → (recorded : Option ℕ) (n : ℕ) → n ≡ length_code recorded
      → StandFor fixed (set words (length_place fixed) n) (record s { recorded = recorded })
  length_stands sound recorded n is = beside_stand recorded s.parents (length_place fixed) n (omega arith)
      (λ c w bytes held below e. omega (arith, e, cell_low sound c w bytes held below)) (put words (length_place fixed) n (omega (arith, h.count)) ∙ is)

  -- a word of parents is written
  pub aside_stands : IsSound fixed s → (parents : ℕ → Option (List ℕ)) (i n : ℕ) → parents_place fixed ≤ i → StandFor fixed (set words i n) (record s { parents = parents })
  aside_stands sound parents i n high = beside_stand s.recorded parents i n (omega (arith, high))
      (λ c w bytes held below e. omega (arith, e, high, cell_low sound c w bytes held below)) (left words i n (length_place fixed) (λ e. omega (arith, e, high)) ∙ h.recorded)
