-- What the machine of schedules keeps, and what each of its steps is as an event of the store.
use Rattle.std.proofs.lemmas.Grind.{common_steps}
use Rattle.std.proofs.lemmas.Bool.Decides.{nat_tests}
use Rattle.std.proofs.Common.{◌≡◌, ℕ, ◌+◌, ◌≤◌, true, false, List, [], ◌∷◌, length, slice_index, Option, None, Some, option_map, refl, sym, subst, ◌∙◌, arith, eq-eqb}
use Rattle.b3tree.specs.Valid.{AreBytes}
use Rattle.bao_text.specs.Nodes.{TreeNode}
use Rattle.bao_check.specs.Pieces.{chunk_in}
use Rattle.bao_check.proofs.Certified.{certified}
use Rattle.holders.specs.declared.fixed.Fixed.{Fixed}
use Rattle.store_core.specs.declared.history.Event.{Event}
use Rattle.holders.specs.declared.piece.Piece.{Piece}
use Rattle.store_core.specs.Histories.{AreLegalFrom, run}
use Rattle.store_core.specs.Laws.{IsSound}
use Rattle.store_core.specs.Machine.{Machine, is_number, is_shown, seat_has, shown_byte, store_of}
use Rattle.holders.specs.Pieces.{IsAcceptedPiece, chunk_bytes}
use Rattle.store_core.specs.MachineInvariant.{IsKept, IsReadSoFar, IsSoundMachine}
use Rattle.store_core.specs.Slots.{caller}
use Rattle.store_core.specs.States.{State, byte_at, claims, is_among}
use Rattle.store_core.proofs.CellWords.{cell_get}
use Rattle.store_core.proofs.Lasting.{held_from, sound_from}

-- a step that is these events
pub record IsStep (fixed : Fixed) (m next : Machine) (events : List Event) : Type 0 where
  pub served : IsSoundMachine fixed next
  pub legal : AreLegalFrom fixed (store_of m) events
  pub state : run (store_of m) events ≡ store_of next

-- a chunk of an accepted piece is of bytes, at most 1,024
pub chunk_valid : (text : List ℕ) (places : List (ℕ × TreeNode)) (c : ℕ) (bytes : List ℕ) → AreBytes text → chunk_in text places c ≡ Some bytes → AreBytes bytes
chunk_valid text [] c bytes valid there = let none : None ≡ Some bytes = there in cc
chunk_valid text (place ∷ places) c bytes valid there = grind (arith, common_steps, nat_tests, chunk_valid text places c bytes valid)

pub chunk_fits : (fixed : Fixed) (piece : Piece) (c : ℕ) (bytes : List ℕ) → IsAcceptedPiece fixed piece → chunk_bytes piece c ≡ Some bytes → length bytes ≤ 1024
chunk_fits fixed piece c bytes accepted there = (certified fixed.mode fixed.root.0 piece.text piece.start piece.len accepted.accepted (piece.base + c) bytes there).size

-- bytes of the words and of the store that they stand for
pub shown_is : (m : Machine) (q : ℕ) → shown_byte m q ≡ byte_at (store_of m) q
shown_is m q = grind (arith, nat_tests, cell_get)

-- a seat's claims
named : (n : ℕ) (o : Option ℕ) → is_among (caller n) (option_map (λ k. k ∷ []) o) ≡ is_number n o
named n o = grind (arith, nat_tests)

pub claims_seat : (m : Machine) (n c : ℕ) → claims (caller n) (store_of m) c ≡ seat_has m n c
claims_seat m n c = named n (m.claim c)

pub seat_claim : (n : ℕ) (o : Option ℕ) → is_number n o ≡ true → o ≡ Some n
seat_claim n o h = grind (arith, nat_tests)

pub claim_seat : (n : ℕ) → is_number n (Some n) ≡ true
claim_seat n = eq-eqb n n refl

-- a seat that claims a chunk, which is then not shown
pub claimed_hidden : (fixed : Fixed) (m : Machine) (n c : ℕ) → IsSound fixed (store_of m) → seat_has m n c ≡ true → is_shown m c ≡ false
claimed_hidden fixed m n c sound has = grind (arith, nat_tests, seat_claim)

-- bytes held stay through events
pub byte_lasts : (fixed : Fixed) (s : State) (events : List Event) → IsSound fixed s → AreLegalFrom fixed s events → (q x : ℕ) → byte_at s q ≡ Some x
    → byte_at (run s events) q ≡ Some x
byte_lasts fixed s events sound legal q x h = grind (arith, nat_tests, held_from)

-- after steps that leave the reads under way
pub keeps : (fixed : Fixed) (m next : Machine) (events : List Event) → IsSoundMachine fixed m → AreLegalFrom fixed (store_of m) events → run (store_of m) events ≡ store_of next
    → IsKept fixed next → ((n : ℕ) → (next.seat n).reading ≡ (m.seat n).reading) → IsStep fixed m next events
keeps fixed m next events served legal state kept same = record {
  served = record {
    sound = subst (λ (s : State). IsSound fixed s) state (sound_from fixed (store_of m) events served.sound legal);
    kept = kept;
    reads = λ n r is.
        let part : IsReadSoFar (store_of m) r = served.reads n r (sym (same n) ∙ is) in record {
          within = part.within;
          held = λ i h. subst (λ (s : State). byte_at s (r.at + i) ≡ Some (slice_index r.bytes i)) state
              (byte_lasts fixed (store_of m) events served.sound legal (r.at + i) (slice_index r.bytes i) (part.held i h));
        };
  };
  legal = legal;
  state = state;
}
