-- Which chunks a commit stores.
use Rattle.std.proofs.lemmas.Bool.Decides.{nat_tests}
use Rattle.std.proofs.Common.{◌≡◌, ◌↔◌, ℕ, ◌%◌, ◌<◌, ◌≤◌, nat_lt, Bool, true, not, ◌&&◌, ap, ◌∙◌, arith}
use Rattle.std.specs.Int.{w64, bit_not}
use Rattle.std.specs.Int.Bits.{bit_and}
use Rattle.std.proofs.lemmas.Bool.{and_parts}
use Rattle.holders.specs.declared.piece.Piece.{Piece}
use Rattle.store_core.specs.declared.view.SeatView.{SeatView}
use Rattle.store_core.specs.Masks.{IsMaskOf, has_bit, in_mask}
use Rattle.holders.specs.Pieces.{holds_chunk}
use Rattle.store_core.specs.Views.{seat_claims}
use Rattle.store_steps.specs.Asks.{AreHeldClaims}
use Rattle.store_core.proofs.Tells.{masked}
use Rattle.store_steps.specs.Kinds.{chunk_kind}
use Rattle.store_shared.specs.StoredCells.{AreOwnItems}
use Rattle.store_core.proofs.Bits.{and_small, has_bit-and, has_bit-not}

-- what lies below the one number and not below the other
spanned : (b : Bool) (c first after : ℕ) → (b ≡ true) ↔ ((first ≤ c) × (c < after)) → (nat_lt c after && not (nat_lt c first)) ≡ b
spanned b c first after spans = grind (arith, nat_tests)

-- the group's chunks from number `first` on and below `after`: those below `after`, but not below `first`
pub span_mask : (group first after below_after below_first : ℕ) (test : ℕ → Bool) → ((c : ℕ) → (test c ≡ true) ↔ ((first ≤ c) × (c < after)))
    → IsMaskOf group below_after (λ c. nat_lt c after) → IsMaskOf group below_first (λ c. nat_lt c first) → IsMaskOf group (bit_and below_after (bit_not w64 below_first)) test
span_mask group first after below_after below_first test spans until before = record {
  small = and_small below_after (bit_not w64 below_first) until.small;
  bits = λ c at.
      has_bit-and below_after (bit_not w64 below_first) (c % 64)
      ∙ ap (λ (b : Bool). b && has_bit (bit_not w64 below_first) (c % 64)) (until.bits c at)
      ∙ ap (λ (b : Bool). nat_lt c after && b) (has_bit-not below_first (c % 64) before.small (omega arith) ∙ ap (λ (b : Bool). not b) (before.bits c at))
      ∙ spanned (test c) c first after (spans c);
}

-- the items of two masks
pub both_masks : (group one other : ℕ) (first second : ℕ → Bool) → IsMaskOf group one first → IsMaskOf group other second
    → IsMaskOf group (bit_and one other) (λ n. first n && second n)
both_masks group one other first second is also = record {
  small = and_small one other is.small;
  bits = λ n at. has_bit-and one other (n % 64) ∙ (λ i. is.bits n at i && also.bits n at i);
}

-- the seat may store these chunks, and the piece has them
pub own_chunks : (view : SeatView) (group mask : ℕ) (piece : Piece) → AreHeldClaims view group piece mask → AreOwnItems chunk_kind view group mask piece
own_chunks view group mask piece k =
    let both : (c : ℕ) → in_mask group mask c ≡ true → (seat_claims view c ≡ true) × (holds_chunk piece c ≡ true) = λ c hit.
    and_parts (seat_claims view c) (holds_chunk piece c) (masked group mask (λ d. seat_claims view d && holds_chunk piece d) c k hit) in
    record { own = λ c hit. (both c hit).0; has = λ c hit. (both c hit).1 }
