-- Slots that a hasher takes in.
use Rattle.std.proofs.Common.{◌≡◌, ℕ, ◌+◌, ◌-◌, ◌*◌, ◌<◌, min, List, [], ◌++◌, length, take, get_or, ◌∙◌, sym, ap, subst, arith, append_assoc, length-append}
use Rattle.b3tree.specs.declared.hasher.Hasher.{Hasher}
use Rattle.b3tree.specs.declared.mode.Mode.{Mode}
use Rattle.b3tree.specs.Taken.{Holds, Splits}
use Rattle.bao_windows.proofs.Slots.{slot_more}
use Rattle.bao_windows.specs.declared.window.Slot.{Slot}
use Rattle.bao_windows.specs.Windows.{AreValued, IsValued, window_bytes}
use Rattle.bao_windows.specs.Written.{AreNext, HasTaken, TookIn}

-- what a window has before a slot was taken in, and then the slot
abbrev pub TookFirst : List Slot → ℕ → Hasher → Hasher → Type 0
TookFirst window i old new =
    (mode : Mode) (at total : ℕ) → AreValued window mode at total
    → (length (window_bytes (take i window)) ≡ min (65536 * i) (total - at)) × TookIn mode total at old new (window_bytes (take i window))

-- the slot is valued at its offset
own_valued : (window : List Slot) (i : ℕ) (slot : Slot) (mode : Mode) (at total : ℕ) → i < length window → slot ≡ get_or window i slot → AreValued window mode at total
    → IsValued slot mode (at + 65536 * i) total
own_valued window i slot mode at total within is valued = subst (λ (x : Slot). IsValued x mode (at + 65536 * i) total) (sym is) (valued i slot within)

pub took_more : (window : List Slot) (i : ℕ) (slot : Slot) (h j k : Hasher) → i < length window → slot ≡ get_or window i slot → TookFirst window i h j
    → ((mode : Mode) (at total : ℕ) → IsValued slot mode at total → TookIn mode total at j k slot.bytes.items) → TookFirst window (i + 1) h k
took_more window i slot h j k within is before took mode at total valued =
    let done : List ℕ = window_bytes (take i window) in
    let bytes : List ℕ = slot.bytes.items in
    let first = before mode at total valued in
    let own : IsValued slot mode (at + 65536 * i) total = own_valued window i slot mode at total within is valued in
    let all : window_bytes (take (i + 1) window) ≡ done ++ bytes = slot_more window i slot within is in (
      omega (arith, ap (λ (xs : List ℕ). length xs) all, length-append done bytes, first.0, own.size),
      λ s size taken. subst (λ (xs : List ℕ). HasTaken mode total k xs) (append_assoc s done bytes ∙ ap (λ (xs : List ℕ). s ++ xs) (sym all))
          (took mode (at + 65536 * i) total own (s ++ done) (omega (arith, length-append s done, size, first.0)) (first.1 s size taken)),
    )

-- the slot comes next
pub next_slot : (window : List Slot) (i : ℕ) (slot : Slot) (h j : Hasher) → i < length window → slot ≡ get_or window i slot → AreNext (AreValued window) h → TookFirst window i h j
    → AreNext (IsValued slot) j
next_slot window i slot h j within is next before =
    let done : List ℕ = window_bytes (take i window) in
    let first = before next.mode next.at next.total next.are in
    let s : List ℕ = next.taken.0 in
    record {
      mode = next.mode;
      at = next.at + 65536 * i;
      total = next.total;
      are = own_valued window i slot next.mode next.at next.total within is next.are;
      taken = (s ++ done, omega (arith, length-append s done, next.taken.1, first.0), first.1 s next.taken.1 next.taken.2);
      aligned = omega (arith, next.aligned);
      fits = next.fits;
    }

-- a hasher with no input has taken in the beginning of each blob
pub begins : {mode : Mode} {total : ℕ} {h : Hasher} → Splits h mode [] [] → Holds h mode [] → HasTaken mode total h []
begins splits holds = record { part = λ _. splits; all = λ _. holds }

-- and then all of it
pub all_taken : {mode : Mode} {bytes : List ℕ} {h j : Hasher} (total : ℕ) → Splits h mode [] [] → Holds h mode [] → (0 ≡ min 0 total → HasTaken mode total h [] → HasTaken mode total j bytes)
    → length bytes ≡ total → Holds j mode bytes
all_taken total splits holds took size = (took (omega arith) (begins splits holds)).all (omega (arith, size))
