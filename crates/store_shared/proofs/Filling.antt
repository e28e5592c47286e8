-- A buffer that is filled part by part.
use Rattle.std.proofs.Common.{◌≡◌, ℕ, ◌+◌, ◌-◌, ◌<◌, ◌≤◌, List, ◌++◌, length, take, drop, get_or, slice_index, Some, sym, ap, subst, ◌∙◌, arith, inl, inr, append_assoc, length-take, length-drop, length-append, get_or-take, get_or-drop, get_or-append-add, take-take}
use Rattle.std.proofs.lemmas.Bool.{cases_lt}
use Rattle.std.proofs.lemmas.List.{get_or_append_left, get_or-append_right, take-append-le}
use Rattle.std.proofs.Math.Seq.{take-append-add}
use Rattle.store_core.specs.States.{State, byte_at}
use Rattle.store_shared.specs.Filled.{IsBufferFilled}

-- one part and then another
pub filled_then : (s : State) (at a b c : ℕ) (x y z : List ℕ) → IsBufferFilled s at a b x y → IsBufferFilled s at b c y z → IsBufferFilled s at a c x z
filled_then s at a b c x y z one two = record {
  forward = omega (arith, one.forward, two.forward);
  within = omega (arith, two.within, one.size);
  size = two.size ∙ one.size;
  bytes = λ i low high. elim (cases_lt i b) [
    | inl early ↦ one.bytes i low early ∙ ap (λ (v : ℕ). Some v) (sym (two.others i (inl early)))
    | inr late ↦ two.bytes i late high
  ];
  others = λ i outside. elim outside [
    | inl before ↦ two.others i (inl (omega (arith, before, one.forward))) ∙ one.others i (inl before)
    | inr after ↦ two.others i (inr after) ∙ one.others i (inr (omega (arith, after, two.forward)))
  ];
}

-- a part that is written into the buffer
pub put_filled : (s : State) (at from : ℕ) (old new part : List ℕ) → from + length part ≤ length old
    → new ≡ take from old ++ (part ++ drop (from + length part) old)
    → ((k : ℕ) → k < length part → byte_at s (at + from + k) ≡ Some (slice_index part k))
    → IsBufferFilled s at from (from + length part) old new
put_filled s at from old new part room is part_got =
    let end : ℕ = from + length part in
    let taken : length (take from old) ≡ from = omega (arith, length-take from old, room) in
    let front : length (take from old ++ part) ≡ end = omega (arith, length-append (take from old) part, taken) in
    let size : length (take from old ++ (part ++ drop end old)) ≡ length old =
    length-append (take from old) (part ++ drop end old)
    ∙ omega (arith, taken, length-append part (drop end old), length-drop end old, room) in
    record {
      forward = omega arith;
      within = room;
      size = ap length is ∙ size;
      bytes = λ i low high.
          let place : length (take from old) + (i - from) ≡ i = omega (arith, taken, low) in
          let of_part : get_or new i 0 ≡ get_or part (i - from) 0 = ap (λ (xs : List ℕ). get_or xs i 0) is
          ∙ ap (λ (k : ℕ). get_or (take from old ++ (part ++ drop end old)) k 0) (sym place)
          ∙ get_or-append-add (take from old) (part ++ drop end old) (i - from) 0
          ∙ get_or_append_left part (drop end old) 0 (i - from) (omega (arith, low, high)) in
          let position : at + from + (i - from) ≡ at + i = omega (arith, low) in
          subst (λ (q : ℕ). byte_at s q ≡ Some (get_or new i 0)) position
          (part_got (i - from) (omega (arith, low, high)) ∙ ap (λ (x : ℕ). Some x) (sym of_part));
      others = λ i outside. elim outside [
        | inl before ↦ ap (λ (xs : List ℕ). get_or xs i 0) is
            ∙ get_or_append_left (take from old) (part ++ drop end old) 0 i (omega (arith, taken, before)) ∙ get_or-take from old i 0 before
        | inr after ↦
            let place : end + (i - end) ≡ i = omega (arith, after) in
            ap (λ (xs : List ℕ). get_or xs i 0) (is ∙ sym (append_assoc (take from old) part (drop end old)))
            ∙ get_or-append_right (take from old ++ part) (drop end old) end i 0 front after
            ∙ get_or-drop end old (i - end) 0 ∙ ap (λ (k : ℕ). get_or old k 0) place
      ];
    }

-- A buffer that begins with `old`, in which a part is written over what comes after. It is cut off within the part.
pub gained : (old before part after last cut : List ℕ) (from count whole : ℕ) → from ≡ length old → take from before ≡ old → count ≤ length part → from + count ≤ whole
    → cut ≡ take (from + count) (take whole ((take from before ++ (part ++ after)) ++ last)) → cut ≡ old ++ take count part
gained old before part after last cut from count whole from_is begins within room is =
    let all : List ℕ = part ++ (after ++ last) in
    let joined : (old ++ (part ++ after)) ++ last ≡ old ++ all = append_assoc old (part ++ after) last ∙ ap (λ (xs : List ℕ). old ++ xs) (append_assoc part after last) in
    let size : from + count ≡ length old + count = omega (arith, from_is) in
    is
    ∙ ap (λ (xs : List ℕ). take (from + count) (take whole ((xs ++ (part ++ after)) ++ last))) begins
    ∙ ap (λ (xs : List ℕ). take (from + count) (take whole xs)) joined
    ∙ take-take (from + count) whole (old ++ all) room
    ∙ ap (λ (n : ℕ). take n (old ++ all)) size
    ∙ take-append-add old all count
    ∙ ap (λ (xs : List ℕ). old ++ xs) (take-append-le count part (after ++ last) within)
