-- A buffer that is filled with what slots hold, part by part.
use Rattle.std.proofs.lemmas.Bool.Decides.{nat_tests}
use Rattle.std.proofs.Common.{◌≡◌, ℕ, ◌+◌, ◌-◌, ◌*◌, ◌<◌, ◌≤◌, min, List, ◌++◌, length, take, drop, get_or, slice_index, Option, None, Some, sym, ap, subst, ◌∙◌, arith, append_assoc, length-take, length-drop, length-append, get_or-take, get_or-append-add, take-append-drop}
use Rattle.std.proofs.lemmas.List.{drop-drop, drop_at, get_or_append_left}
use Rattle.store_core.specs.declared.slot.Slot.{Slot}
use Rattle.store_core.specs.Laws.{IsRead}
use Rattle.store_core.specs.Slots.{slot_byte, state_in}
use Rattle.store_core.specs.States.{State, read_bytes}
use Rattle.store_core.proofs.ReadLaws.{is_read}

-- the first `done` bytes are those from position `at` on, and the rest is as it was; once a byte was read, no
-- position passes the end of the slots
pub record IsCopied (slots : List Slot) (at done : ℕ) (first out : List ℕ) : Type 0 where
  pub within : done ≤ length out
  pub got : (i : ℕ) → i < done → slot_byte slots (at + i) ≡ Some (slice_index out i)
  pub rest : drop done out ≡ drop done first
  pub below : 0 < done → at + done ≤ 1024 * length slots

-- how long the beginning is
length_taken : (out : List ℕ) (n : ℕ) → n ≤ length out → length (take n out) ≡ n
length_taken out n h = omega (arith, length-take n out)

-- one part more
pub copied_more : (slots : List Slot) (at done : ℕ) (first out new part : List ℕ) → IsCopied slots at done first out → done + length part ≤ length out
    → ((k : ℕ) → k < length part → slot_byte slots (at + done + k) ≡ Some (slice_index part k)) → at + done + length part ≤ 1024 * length slots
    → new ≡ take done out ++ (part ++ drop (done + length part) out) → IsCopied slots at (done + length part) first new
copied_more slots at done first out new part copied fits part_got below is =
    let taken : length (take done out) ≡ done = length_taken out done copied.within in
    record {
      within = grind (arith, nat_tests, taken, length-append, length-drop);
      got = λ i h. grind (arith, nat_tests, copied.got i, part_got (i - done), taken, get_or_append_left, get_or-append-add, get_or-take);
      rest =
          ap (λ (xs : List ℕ). drop (done + length part) xs) (is ∙ sym (append_assoc (take done out) part (drop (done + length part) out)))
          ∙ drop_at (take done out ++ part) (drop (done + length part) out) (done + length part) (omega (arith, taken, length-append (take done out) part))
          ∙ sym (drop-drop (length part) done out)
          ∙ ap (λ (xs : List ℕ). drop (length part) xs) copied.rest
          ∙ drop-drop (length part) done first;
      below = λ h. omega (arith, below);
    }

-- the bytes that were read, as the event has them
pub record IsFilled (s : State) (at done : ℕ) (first out : List ℕ) : Type 0 where
  pub right : take done out ≡ read_bytes s at (length first)
  pub count : length (take done out) ≡ done
  pub filled : out ≡ take done out ++ drop (length (take done out)) first

pub copied_filled : (slots : List Slot) (o : Option ℕ) (at done : ℕ) (first out : List ℕ) → IsCopied slots at done first out → length out ≡ length first
    → (done < length out → slot_byte slots (at + done) ≡ None) → IsFilled (state_in slots o) at done first out
copied_filled slots o at done first out copied same ends =
    let taken : length (take done out) ≡ done = length_taken out done copied.within in
    let is : IsRead (state_in slots o) at (length first) (take done out) = record {
      within = omega (arith, taken, copied.within, same);
      held = λ i h. grind (arith, nat_tests, taken, copied.got i, get_or-take);
      missing = λ h. grind (arith, nat_tests, taken, ends);
    } in
    record {
      right = is_read (state_in slots o) at (length first) (take done out) is;
      count = taken;
      filled = grind (arith, nat_tests, taken, copied.rest, take-append-drop);
    }

-- what one chunk's slot gave, of which `count` bytes are taken
pub copied_part : (slots seen : List Slot) (at done : ℕ) (first out new held : List ℕ) (count : ℕ) → seen ≡ slots → IsCopied slots at done first out
    → count ≡ min (length held) (length out - done) → 0 < count
    → ((k : ℕ) → k < length held → slot_byte seen (at + done + k) ≡ Some (slice_index held k))
    → (0 < length held → at + done + length held ≤ 1024 * length seen)
    → new ≡ take done out ++ (take count held ++ drop (done + length (take count held)) out) → IsCopied slots at (done + count) first new
copied_part slots seen at done first out new held count e copied least some held_got within is =
    let taken : length (take count held) ≡ count = omega (arith, length-take count held, least) in
    let below : at + done + length held ≤ 1024 * length slots = subst (λ (xs : List Slot). at + done + length held ≤ 1024 * length xs) e (within (omega (arith, least, some))) in
    subst (λ (n : ℕ). IsCopied slots at (done + n) first new) taken
    (copied_more slots at done first out new (take count held) copied (omega (arith, taken, least, copied.within))
    (λ k h. subst (λ (xs : List Slot). slot_byte xs (at + done + k) ≡ Some (get_or (take count held) k 0)) e
    (held_got k (omega (arith, taken, h, least)) ∙ ap (λ (x : ℕ). Some x) (sym (get_or-take count held k 0 (omega (arith, taken, h))))))
    (omega (arith, below, taken, least)) is)

-- nothing was given: the position isn't held
pub ends_at : (slots seen : List Slot) (at done : ℕ) (out held : List ℕ) (count : ℕ) → seen ≡ slots → done < length out
    → count ≡ min (length held) (length out - done) → count ≡ 0 → (length held ≡ 0 → slot_byte seen (at + done) ≡ None) → slot_byte slots (at + done) ≡ None
ends_at slots seen at done out held count e more least zero none = grind (arith, nat_tests)
