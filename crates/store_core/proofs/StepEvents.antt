-- Each step of a schedule as an event of the store.
use Rattle.std.proofs.lemmas.Bool.Decides.{nat_tests}
use Rattle.std.proofs.Common.{arith, ◌≡◌, ℕ, ◌+◌, ◌/◌, ◌%◌, nat_lt, ◌==◌, Bool, true, false, not, ◌&&◌, ◌||◌, if◌then◌else◌, List, [], ◌∷◌, slice_get, Option, None, Some, is_some, option_map, refl, sym, ap, ◌∙◌, inl, inr, eqb-true}
use Rattle.std.proofs.lemmas.Bool.{and_parts, cases_Bool}
use Rattle.bao_check.specs.declared.checked.Checked.{Checked}
use Rattle.holders.specs.declared.fixed.Fixed.{Fixed}
use Rattle.store_core.specs.declared.history.Call.TheVariants.{Take, Give, Commit}
use Rattle.holders.specs.declared.piece.Piece.{Piece}
use Rattle.store_core.specs.declared.micro.MicroStep.TheVariants.{Claim, Hash, Write, Publish, GiveBack}
use Rattle.store_core.specs.declared.micro.Reply.TheVariants.{Granted, Committed, Given}
use Rattle.store_core.specs.Cells.{cell_bytes, cell_word}
use Rattle.store_core.specs.Events.{IsRightReply}
use Rattle.store_core.specs.Machine.{Machine, MachineSeat, bytes_or_none, current_bytes, current_holds, is_shown, seat_has, store_of, with_seat}
use Rattle.store_core.specs.Masks.{IsMaskOf, has_bit, in_mask}
use Rattle.holders.specs.Pieces.{IsAcceptedPiece, chunk_bytes, holds_chunk, piece_of, places_in}
use Rattle.store_core.specs.Schedules.{HasPiece, IsWritten, TakesBytes, after_step, event_by}
use Rattle.store_core.specs.Slots.{caller}
use Rattle.store_core.specs.MachineInvariant.{IsSoundMachine}
use Rattle.store_core.proofs.MachineInvariants.{IsStep, chunk_fits, chunk_valid, claimed_hidden, claims_seat, keeps}
use Rattle.store_core.proofs.Bits.{has_bit-or}
use Rattle.store_core.proofs.CellWords.{cell_is}
use Rattle.store_core.proofs.SlotStates.{mask_same, same_state}
use Rattle.store_core.proofs.Tells.{masked}

unclaimed_map : (b : Bool) (o : Option ℕ) → (if b then None else option_map (λ (k : ℕ). k ∷ []) o) ≡ option_map (λ k. k ∷ []) (if b then None else o)
unclaimed_map b o = grind (arith, nat_tests)

-- Claim
pub claim_step : (fixed : Fixed) (pieces : List Checked) (m : Machine) (n group want mask : ℕ) → IsSoundMachine fixed m
    → IsMaskOf group mask (λ c. has_bit want (c % 64) && (nat_lt c fixed.capacity && not (is_shown m c || is_some (m.claim c))))
    → IsStep fixed m (after_step fixed pieces m (Claim n group want) (Some (Granted mask))) (event_by n (Take group want mask))
claim_step fixed pieces m n group want mask served is = grind (arith, nat_tests, mask_same, keeps, same_state)

-- A seat that is changed. Its read under way is the same, and so are the others.
reading_same : (m : Machine) (n : ℕ) (seat : MachineSeat) → seat.reading ≡ (m.seat n).reading → (k : ℕ) → ((with_seat m n seat).seat k).reading ≡ (m.seat k).reading
reading_same m n seat same k = grind (arith, nat_tests)

accepted_seat : (fixed : Fixed) (m : Machine) (n : ℕ) (seat : MachineSeat) → ((piece : Piece) → seat.piece ≡ Some piece → IsAcceptedPiece fixed piece)
    → ((k : ℕ) (piece : Piece) → (m.seat k).piece ≡ Some piece → IsAcceptedPiece fixed piece)
    → (k : ℕ) (piece : Piece) → ((with_seat m n seat).seat k).piece ≡ Some piece → IsAcceptedPiece fixed piece
accepted_seat fixed m n seat here others k piece is = elim (cases_Bool (k == n)) [
  | inl hit ↦ here piece (rw hit at is)
  | inr miss ↦ others k piece (rw miss at is)
]

-- Hash
listed_accepted : (fixed : Fixed) (pieces : List Checked) (n i : ℕ) (piece : Piece) → TakesBytes pieces (Hash n i) → HasPiece fixed pieces i
    → option_map (piece_of fixed.base) (slice_get pieces i) ≡ Some piece → IsAcceptedPiece fixed piece
listed_accepted fixed pieces n i piece bytes has is = grind (arith, nat_tests)

pub hash_step : (fixed : Fixed) (pieces : List Checked) (m : Machine) (n i : ℕ) → TakesBytes pieces (Hash n i) → IsSoundMachine fixed m → HasPiece fixed pieces i
    → IsStep fixed m (after_step fixed pieces m (Hash n i) None) []
hash_step fixed pieces m n i bytes served has =
    let seat : MachineSeat = record (m.seat n) { piece = option_map (piece_of fixed.base) (slice_get pieces i); written = λ c w. false } in
    keeps fixed m (with_seat m n seat) [] served tt refl
    (record {
      known = λ k c w wrote dark. grind (arith, nat_tests, served.kept.known k c w);
      cells = λ k c w wrote has_it. grind (arith, nat_tests, served.kept.cells k c w);
      accepted = accepted_seat fixed m n seat (λ piece is. listed_accepted fixed pieces n i piece bytes has is) served.kept.accepted;
    })
    (reading_same m n seat refl)

-- Write
pub write_step : (fixed : Fixed) (pieces : List Checked) (m : Machine) (n c w : ℕ) → IsSoundMachine fixed m → seat_has m n c ≡ true
    → IsStep fixed m (after_step fixed pieces m (Write n c w) None) []
write_step fixed pieces m n c w served ours =
    let seat : MachineSeat = record (m.seat n) { written = λ d v. ((d == c) && (v == w)) || (m.seat n).written d v } in
    let next : Machine = after_step fixed pieces m (Write n c w) None in
    keeps fixed m next [] served tt
    (same_state (store_of m) (store_of next) refl
    (λ d. elim (cases_Bool (d == c)) [
      | inl hit ↦ rw (claimed_hidden fixed m n d served.sound (rw (eqb-true d c hit) ours)) refl
      | inr miss ↦ rw miss refl
    ])
    (λ d. refl) refl)
    (record {
      known = λ k d v wrote dark. grind (arith, nat_tests, served.kept.known k d v);
      cells = λ k d v wrote has. grind (arith, nat_tests, served.kept.cells k d v);
      accepted = accepted_seat fixed m n seat (served.kept.accepted n) served.kept.accepted;
    })
    (reading_same m n seat refl)

-- GiveBack
pub give_step : (fixed : Fixed) (pieces : List Checked) (m : Machine) (n group mask given : ℕ) → IsSoundMachine fixed m
    → IsMaskOf group given (λ c. has_bit mask (c % 64) && seat_has m n c)
    → IsStep fixed m (after_step fixed pieces m (GiveBack n group mask) (Some (Given given))) (event_by n (Give group mask given))
give_step fixed pieces m n group mask given served is =
    let seat : MachineSeat = record (m.seat n) { written = λ c w. not (in_mask group given c) && (m.seat n).written c w } in
    let right : IsRightReply fixed (store_of m) (caller n) (Give group mask given) =
    record { small = is.small; bits = λ c of_group. grind (arith, nat_tests, is.bits c, claims_seat m n c) } in
    keeps fixed m (after_step fixed pieces m (GiveBack n group mask) (Some (Given given))) (event_by n (Give group mask given)) served
    (right, tt)
    (same_state _ _ refl (λ c. refl) (λ c. unclaimed_map (in_mask group given c) (m.claim c)) refl)
    (record {
      known = λ k c w wrote dark. grind (arith, nat_tests, served.kept.known k c w, is.bits c);
      cells = λ k c w wrote has. grind (arith, nat_tests, served.kept.cells k c w);
      accepted = accepted_seat fixed m n seat (served.kept.accepted n) served.kept.accepted;
    })
    (reading_same m n seat refl)

-- Publish
pub shown_or : (fixed : Fixed) (pieces : List Checked) (m : Machine) (n group mask c : ℕ)
    → is_shown (after_step fixed pieces m (Publish n group) (Some (Committed mask))) c ≡ (is_shown m c || in_mask group mask c)
shown_or fixed pieces m n group mask c = grind (arith, nat_tests, has_bit-or)

-- an option that has a value, and what each value gives
some_is : (o : Option (List ℕ)) (x : Option (List ℕ)) → is_some o ≡ true → ((bytes : List ℕ) → o ≡ Some bytes → Some bytes ≡ x) → o ≡ x
some_is o x h each = grind (arith, nat_tests)

pub publish_step : (fixed : Fixed) (pieces : List Checked) (m : Machine) (n group mask : ℕ) (piece : Piece) → IsSoundMachine fixed m → (m.seat n).piece ≡ Some piece
    → IsWritten m n group → IsMaskOf group mask (λ c. seat_has m n c && current_holds (m.seat n).piece c)
    → IsStep fixed m (after_step fixed pieces m (Publish n group) (Some (Committed mask))) (event_by n (Commit group piece mask))
publish_step fixed pieces m n group mask piece served current wrote_all is =
    let next : Machine = after_step fixed pieces m (Publish n group) (Some (Committed mask)) in
    let accepted : IsAcceptedPiece fixed piece = served.kept.accepted n piece current in
    let right : IsRightReply fixed (store_of m) (caller n) (Commit group piece mask) =
    (accepted, record { small = is.small; bits = λ c of_group. grind (arith, nat_tests, is.bits c, claims_seat m n c) }) in
    let filled : (c : ℕ) → in_mask group mask c ≡ true → chunk_bytes piece c ≡ Some (cell_bytes (m.cell c)) = λ c hit.
    let parts = and_parts (seat_has m n c) (current_holds (m.seat n).piece c) (masked group mask (λ c. seat_has m n c && current_holds (m.seat n).piece c) c is hit) in
    let of_group : c / 64 ≡ group = eqb-true (c / 64) group (and_parts (c / 64 == group) (has_bit mask (c % 64)) hit).0 in
    let holds : holds_chunk piece c ≡ true = sym (ap (λ (o : Option Piece). current_holds o c) current) ∙ parts.1 in
    some_is (chunk_bytes piece c) (Some (cell_bytes (m.cell c))) holds (λ bytes there.
    let bytes_are : current_bytes (m.seat n).piece c ≡ bytes = ap (λ (o : Option Piece). current_bytes o c) current ∙ ap bytes_or_none there in
    ap (λ (xs : List ℕ). Some xs) (sym (cell_is (m.cell c) bytes (chunk_valid piece.text (places_in piece) (piece.base + c) bytes accepted.bytes there) (chunk_fits fixed piece c bytes accepted there)
    (λ w below. served.kept.cells n c w (wrote_all c w of_group parts.0 parts.1 below) parts.0 ∙ ap (λ (xs : List ℕ). cell_word xs w) bytes_are)))) in
    keeps fixed m next (event_by n (Commit group piece mask)) served
    (right, tt)
    (same_state _ _ refl
    (λ c. grind (arith, nat_tests, filled c, has_bit-or))
    (λ c. unclaimed_map (in_mask group mask c) (m.claim c)) refl)
    (record {
      known = λ k c w wrote dark. grind (arith, nat_tests, served.kept.known k c w, has_bit-or);
      cells = λ k c w wrote has. grind (arith, nat_tests, served.kept.cells k c w);
      accepted = served.kept.accepted;
    })
    (λ k. refl)
