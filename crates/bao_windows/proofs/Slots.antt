-- The bytes of a window's slots.
use Rattle.std.proofs.Common.{◌≡◌, ℕ, ◌+◌, ◌-◌, ◌*◌, ◌<◌, ◌≤◌, min, suc, List, [], ◌∷◌, ◌++◌, length, take, take_at, drop, get_or, slice_index_or, ◌∙◌, sym, ap, subst, arith, inl, inr, refl, Option, None, Some, IfErr, IfSome, OnOk, Result, Ok, Err, append-nil, length-append, ◌⊎◌}
use Rattle.std.proofs.lemmas.Grind.{flat_map-append}
use Rattle.std.proofs.lemmas.List.{drop_more, take-append-drop, take_more}
use Rattle.bao_windows.specs.declared.fault.GatherFault.{GatherFault}
use Rattle.bao_windows.specs.declared.fault.GatherFault.TheVariants.{Starved, Unfinished}
use Rattle.holders.specs.declared.fixed.Fixed.{Fixed}
use Rattle.holders.specs.declared.piece.Piece.{Piece}
use Rattle.bao_windows.proofs.Bytes.{both_at, none_at, place_of}
use Rattle.bao_windows.specs.declared.wanted.Wanted.{Wanted}
use Rattle.bao_windows.specs.declared.window.Slot.{Slot}
use Rattle.bao_windows.specs.Available.{IsFilled, IsMissing, IsTried}
use Rattle.bao_windows.specs.Windows.{Adds, AreBytesAt, AreOfWindow, HasFault, IsFrom, IsOfSlot, IsValue, IsValued, fixed_for, window_bytes}

-- where the bytes of a part end
next_at : (handed : Piece → Type 0) (fixed : Fixed) (start total k : ℕ) (n : ℕ) (rest : List ℕ) → n ≡ min 65536 (total - (start + 65536 * k))
    → length rest ≤ total - (start + 65536 * (k + 1)) → AreBytesAt handed fixed (start + 65536 * (k + 1)) rest → AreBytesAt handed fixed (start + 65536 * k + n) rest
next_at handed fixed start total k n rest size few each = elim (place_of n 65536) [
  | inl low ↦ none_at handed fixed (start + 65536 * k + n) rest (omega (arith, size, few, low))
  | inr high ↦
      let same : start + 65536 * (k + 1) ≡ start + 65536 * k + n = omega (arith, size, high) in
      subst (λ (at : ℕ). AreBytesAt handed fixed at rest) same each
]

-- those of slots from number k on
pub filled : (handed : Piece → Type 0) (fixed : Fixed) (start total k : ℕ) (window : List Slot)
    → ((i n : ℕ) (d : Slot) → n ≡ k + i → i < length window → IsOfSlot handed fixed start total n (slice_index_or window i d))
    → (length (window_bytes window) ≡ min (65536 * length window) (total - (start + 65536 * k))) × AreBytesAt handed fixed (start + 65536 * k) (window_bytes window)
filled handed fixed start total k [] each = (omega arith, none_at handed fixed (start + 65536 * k) [] refl)
filled handed fixed start total k (slot ∷ rest) each =
    let head : IsOfSlot handed fixed start total k slot = each 0 k slot (omega arith) (omega arith) in
    let tail = filled handed fixed start total (k + 1) rest (λ i n d same less. each (suc i) n d (omega (arith, same)) (omega (arith, less))) in
    let long = length-append slot.bytes.items (window_bytes rest) in (
      omega (arith, long, head.valued.size, tail.0),
      both_at handed fixed (start + 65536 * k) slot.bytes.items (window_bytes rest) head.each
          (next_at handed fixed start total k (length slot.bytes.items) (window_bytes rest) head.valued.size (omega (arith, tail.0)) tail.1),
    )

-- the bytes before a slot, its own, and those after it
pub parted_at : (window : List Slot) (i : ℕ) (slot : Slot) → i < length window → slot ≡ get_or window i slot
    → window_bytes window ≡ window_bytes (take i window) ++ (slot.bytes.items ++ window_bytes (drop (i + 1) window))
parted_at window i slot within is =
    let rest : drop i window ≡ slot ∷ drop (i + 1) window = drop_more window i slot within ∙ ap (λ (s : Slot). s ∷ drop (i + 1) window) (sym is) in
    ap window_bytes (sym (take-append-drop i window))
    ∙ flat_map-append (λ (s : Slot). s.bytes.items) (take i window) (drop i window)
    ∙ ap (λ (ss : List Slot). window_bytes (take i window) ++ window_bytes ss) rest

-- one slot more
pub slot_more : (window : List Slot) (i : ℕ) (slot : Slot) → i < length window → slot ≡ get_or window i slot → window_bytes (take (i + 1) window) ≡ window_bytes (take i window) ++ slot.bytes.items
slot_more window i slot within is =
    ap window_bytes (take_more window i slot within ∙ ap (λ (s : Slot). take i window ++ s ∷ []) (sym is))
    ∙ flat_map-append (λ (s : Slot). s.bytes.items) (take i window) (slot ∷ [])
    ∙ ap (λ (xs : List ℕ). window_bytes (take i window) ++ xs) (append-nil slot.bytes.items)

-- what is so of all slots without a fault
pub none_faulty : (window : List Slot) (P : ℕ → Slot → Type 0) → ((i : ℕ) (d : Slot) → i < length window → (slice_index_or window i d).fault ≡ None)
    → ((i : ℕ) (d : Slot) → i < length window → (slice_index_or window i d).fault ≡ None → P i (slice_index_or window i d))
    → (i n : ℕ) (d : Slot) → n ≡ 0 + i → i < length window → P n (slice_index_or window i d)
none_faulty window P clean holds i n d same less = let at : i ≡ n = omega (arith, same) in subst (λ (k : ℕ). P k (slice_index_or window i d)) at (holds i d less (clean i d less))

-- a window whose slots have no fault
pub window_filled : (handed : Piece → Type 0) (fixed : Fixed) (start total : ℕ) (window : List Slot)
    → ((i : ℕ) (d : Slot) → i < length window → (slice_index_or window i d).fault ≡ None → IsOfSlot handed fixed start total i (slice_index_or window i d))
    → ((i : ℕ) (d : Slot) → i < length window → (slice_index_or window i d).fault ≡ None) → AreOfWindow handed fixed start total window
window_filled handed fixed start total window tried clean =
    let both = filled handed fixed start total 0 window
    (none_faulty window (λ (n : ℕ) (slot : Slot). IsOfSlot handed fixed start total n slot) clean tried) in
    let place : start + 65536 * 0 ≡ start = omega arith in
    record {
      valued = λ i d less. (tried i d less (clean i d less)).valued;
      size = omega (arith, both.0);
      each = subst (λ (at : ℕ). AreBytesAt handed fixed at (window_bytes window)) place both.1;
    }

-- a slot that was filled by itself
pub slot_filled : (handed : Piece → Type 0) (fixed : Fixed) (start total number at len : ℕ) (old : List ℕ) (slot : Slot) → at ≡ start + 65536 * number → len ≡ min 65536 (total - at) → old ≡ []
    → Adds handed fixed at len old slot.bytes.items → (length slot.bytes.items ≡ min 65536 (total - at) → IsValue fixed.mode at total slot.bytes.items slot.value)
    → IsOfSlot handed fixed start total number slot
slot_filled handed fixed start total number at len old slot place size none adds value =
    let new : List ℕ = slot.bytes.items in
    let same : adds.bytes ≡ new = sym (adds.is ∙ ap (λ (xs : List ℕ). xs ++ adds.bytes) none) in
    let long : length new ≡ min 65536 (total - at) = omega (arith, ap (λ (xs : List ℕ). length xs) same, adds.size, size) in
    record {
      valued = subst (λ (n : ℕ). IsValued slot fixed.mode n total) place (record { size = long; value = value long });
      each = subst (λ (n : ℕ). AreBytesAt handed fixed n new) place (subst (λ (xs : List ℕ). AreBytesAt handed fixed at xs) same adds.each);
    }

-- a fault of one of a window's slots
pub faulty : {S : Type 0} (contents : S → Option (List ℕ)) (faultless : S → Type 0) (wanted : Wanted) (sources : List S) (start total : ℕ) (window : List Slot) (fault : GatherFault)
    → ((i : ℕ) (d : Slot) → i < length window → IsTried contents faultless wanted sources start total i (slice_index_or window i d)) → HasFault window fault
    → ((fault ≡ Unfinished) ⊎ (fault ≡ Starved)) × (fault ≡ Unfinished → IsMissing contents faultless wanted sources total)
faulty contents faultless wanted sources start total window fault tried it =
    let own : IsTried contents faultless wanted sources start total it.number it.slot =
    subst (λ (s : Slot). IsTried contents faultless wanted sources start total it.number s) it.there (tried it.number it.slot it.below) in (
      subst (λ (o : Option GatherFault). IfSome o (λ f. (f ≡ Unfinished) ⊎ (f ≡ Starved))) it.is own.fault,
      λ same. own.missing (it.is ∙ ap (λ (f : GatherFault). Some f) same),
    )

-- a window of which each slot was to be filled
pub filled_so : {S : Type 0} (contents : S → Option (List ℕ)) (faultless : S → Type 0) (wanted : Wanted) (sources : List S) (start total : ℕ) (old new : List Slot) (result : Result Unit GatherFault)
    → length new ≡ length old → ((i : ℕ) (d : Slot) → i < length new → IsTried contents faultless wanted sources start total i (slice_index_or new i d))
    → OnOk result ((i : ℕ) (d : Slot) → i < length new → (slice_index_or new i d).fault ≡ None) → IfErr result (HasFault new)
    → IsFilled contents faultless wanted sources start total old new result
filled_so contents faultless wanted sources start total old new (Ok u) same tried clean has =
    let whole = window_filled (IsFrom wanted contents faultless sources) (fixed_for wanted) start total new (λ i d less none. (tried i d less).filled none) clean in
    record { same = same; whole = whole; fault = tt; missing = λ e. cc }
filled_so contents faultless wanted sources start total old new (Err fault) same tried clean has =
    let own = faulty contents faultless wanted sources start total new fault tried has in
    record { same = same; whole = tt; fault = own.0; missing = λ e. let is : fault ≡ Unfinished = cc in own.1 is }

-- a vector of slots, all of which were written back
pub written_back : (len : ℕ) (new old : List Slot) → len ≡ length old → length new ≡ length old → take len (new ++ drop (length new) old) ≡ new
written_back len new old is same = take_at new (drop (length new) old) len (same ∙ sym is)
