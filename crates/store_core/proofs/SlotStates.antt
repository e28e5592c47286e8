-- What slots stand for, and how calls change it.
use Rattle.std.proofs.lemmas.Grind.{common_steps}
use Rattle.std.proofs.lemmas.Bool.Decides.{nat_tests}
use Rattle.std.proofs.Common.{◌≡◌, ℕ, ◌+◌, ◌/◌, ◌%◌, ◌<◌, ◌≤◌, nat_lt, nat_eq, ◌==◌, Bool, true, false, ◌&&◌, if◌then◌else◌, List, [], ◌∷◌, ◌++◌, length, Option, None, Some, Result, OnErr, refl, sym, ap, subst, ◌∙◌, arith, inl, inr}
use Rattle.std.proofs.Math.Logic.{∥∥₁_map}
use Rattle.std.proofs.lemmas.List.{get_or_past}
use Rattle.std.proofs.lemmas.Nat.Bits.{bit_at_ones}
use Rattle.holders.specs.declared.piece.Piece.{Piece}
use Rattle.std.proofs.lemmas.Bool.{and_left, and_right, cases_Bool, le-ltb}
use Rattle.b3tree.specs.declared.mode.Mode.{Mode}
use Rattle.b3tree.specs.declared.values.Hash.{Hash}
use Rattle.b3tree.specs.Valid.{AreBytes}
use Rattle.bao_check.specs.declared.checked.Checked.{Checked}
use Rattle.bao_check.specs.Accepted.{IsAccepted}
use Rattle.bao_check.specs.Checked.{HoldsLast, piece_claimed, piece_mode, piece_nodes, piece_root, piece_text}
use Rattle.store_core.specs.declared.history.Settling.TheVariants.{Settled}
use Rattle.holders.specs.Pieces.{IsAcceptedPiece, holds_chunk, piece_of}
use Rattle.store_core.specs.Stores.{IsOf}
use Rattle.holders.specs.declared.fixed.Fixed.{Fixed}
use Rattle.store_core.specs.declared.history.Call.{Call}
use Rattle.store_core.specs.declared.history.Call.TheVariants.{Give, Commit, Settle}
use Rattle.store_core.specs.declared.history.Event.{Event}
use Rattle.store_core.specs.declared.slot.Slot.{Slot}
use Rattle.store_core.specs.declared.slot.Slot.TheVariants.{Free}
use Rattle.store_core.specs.Events.{IsRightReply, after_call}
use Rattle.holders.specs.Room.{has_room}
use Rattle.holders.specs.Room.{groups}
use Rattle.store_core.specs.Masks.{IsMaskOf, has_bit, in_mask}
use Rattle.store_core.specs.Names.{Name}
use Rattle.store_core.specs.Reached.{IsReached}
use Rattle.store_core.specs.Slots.{AreCopies, IsSlotCopy, caller, claim_in, claimed_slot, held_in, is_of, slot_at, state_in, with_parents}
use Rattle.store_core.specs.States.{State, claims, empty}
use Rattle.store_core.proofs.Bits.{has_bit-zero}
use Rattle.store_core.proofs.Lasting.{legal-join, run-append}
use Rattle.store_core.proofs.Tells.{masked}

-- states with the same parents, chunks, claims and length are one
pub same_state : (s t : State) → s.parents ≡ t.parents → ((c : ℕ) → s.held c ≡ t.held c) → ((c : ℕ) → s.claim c ≡ t.claim c) → s.recorded ≡ t.recorded → s ≡ t
same_state s t parents held claim recorded = λ i. record { held = λ c. held c i; claim = λ c. claim c i; recorded = recorded i; parents = parents i }

-- slots that are the same stand for the same
pub state_same : (old new : List Slot) (o : Option ℕ) → ((c : ℕ) → slot_at new c ≡ slot_at old c) → state_in new o ≡ state_in old o
state_same old new o same = same_state (state_in new o) (state_in old o) refl (λ c. ap held_in (same c)) (λ c. ap claim_in (same c)) refl

-- what a call does to a state
pub record IsDone (fixed : Fixed) (s t : State) (who : List Name) (call : Call) : Type 0 where
  pub right : IsRightReply fixed s who call
  pub after : t ≡ after_call who call s

-- one more event goes on with a history
reached_more : {fixed : Fixed} {s t : State} {who : List Name} {call : Call} → IsDone fixed s t who call → IsReached fixed s → IsReached fixed t
reached_more {fixed} {s} {t} {who} {call} done r =
    let e : Event = record { who = who; call = call } in
    record {
      history = r.history ++ e ∷ [];
      legal = legal-join fixed empty r.history (e ∷ []) r.legal (subst (λ (x : State). IsRightReply fixed x who call) (sym r.is) done.right, tt);
      is = run-append empty r.history (e ∷ []) ∙ ap (λ (x : State). after_call who call x) r.is ∙ sym done.after;
    }

pub reached_by : {fixed : Fixed} {s t : State} {who : List Name} {call : Call} → IsDone fixed s t who call → ∥ IsReached fixed s ∥₁ → ∥ IsReached fixed t ∥₁
reached_by done r = ∥∥₁_map r (reached_more done)

-- a mask for a test is one for a test that is the same in the group
pub mask_same : (group mask : ℕ) (f h : ℕ → Bool) → ((c : ℕ) → c / 64 ≡ group → f c ≡ h c) → IsMaskOf group mask f → IsMaskOf group mask h
mask_same group mask f h same is = record { small = is.small; bits = λ c of_group. is.bits c of_group ∙ same c of_group }

-- no chunk past the end has a slot of its own
slot_past : (slots : List Slot) (c : ℕ) → length slots ≤ c → slot_at slots c ≡ Free
slot_past slots c past = get_or_past slots c Free past

pub claims_test : (slots : List Slot) (o : Option ℕ) (seat c : ℕ)
    → (nat_lt c (length slots) && is_of seat (slot_at slots c)) ≡ claims (caller seat) (state_in slots o) c
claims_test slots o seat c = grind (arith, nat_tests, slot_past)

of_held : (seat : ℕ) (slot : Slot) → is_of seat slot ≡ true → held_in slot ≡ None
of_held seat slot h = grind (arith, nat_tests)

-- claims that were put, or ended, are the claims after that
put_claims : (old new : List Slot) (o : Option ℕ) (p : List (Option (List ℕ))) (seat : Option ℕ) (group mask : ℕ)
    → ((c : ℕ) → in_mask group mask c ≡ true → held_in (slot_at old c) ≡ None)
    → ((c : ℕ) → slot_at new c ≡ (if in_mask group mask c then claimed_slot seat else slot_at old c))
    → with_parents (state_in new o) p
    ≡ record (with_parents (state_in old o) p) { claim = λ c. if in_mask group mask c then claim_in (claimed_slot seat) else claim_in (slot_at old c) }
put_claims old new o p seat group mask none put = grind (arith, nat_tests, same_state)

-- what a mask of picked chunks tells of each: its bit is among, it has a slot, and it passes
pub record IsPicked (slots : List Slot) (test : Slot → Bool) (c : ℕ) : Type 0 where
  pub inside : nat_lt c (length slots) ≡ true
  pub passes : test (slot_at slots c) ≡ true

pub picked : (slots : List Slot) (group mask among : ℕ) (test : Slot → Bool) (c : ℕ)
    → IsMaskOf group mask (λ c. has_bit among (c % 64) && (nat_lt c (length slots) && test (slot_at slots c))) → in_mask group mask c ≡ true → IsPicked slots test c
picked slots group mask among test c is hit = grind (arith, nat_tests, masked)

-- no bits
pub no_mask : (group : ℕ) (test : ℕ → Bool) → ((c : ℕ) → c / 64 ≡ group → test c ≡ false) → IsMaskOf group 0 test
no_mask group test none = record { small = omega arith; bits = λ c h. has_bit-zero (c % 64) ∙ sym (none c h) }

pub give_done : (fixed : Fixed) (old new : List Slot) (o : Option ℕ) (p : List (Option (List ℕ))) (seat group mask given : ℕ)
    → IsMaskOf group given (λ c. has_bit mask (c % 64) && (nat_lt c (length old) && is_of seat (slot_at old c)))
    → ((c : ℕ) → slot_at new c ≡ (if in_mask group given c then claimed_slot None else slot_at old c))
    → IsDone fixed (with_parents (state_in old o) p) (with_parents (state_in new o) p) (caller seat) (Give group mask given)
give_done fixed old new o p seat group mask given chosen put = grind (arith, common_steps, nat_tests, mask_same, claims_test, put_claims, of_held, picked)

-- no chunk is of no mask
none_put : (group c : ℕ) (slot : Slot) → slot ≡ (if in_mask group 0 c then claimed_slot None else slot)
none_put group c slot = rw (and_right (c / 64 == group) (has_bit 0 (c % 64)) (has_bit-zero (c % 64))) refl

-- a group that isn't there has no chunk with a slot, so nobody claims one
pub give_none : (fixed : Fixed) (slots : List Slot) (o : Option ℕ) (p : List (Option (List ℕ))) (seat group mask : ℕ) → length slots ≤ fixed.capacity → groups fixed ≤ group
    → IsDone fixed (with_parents (state_in slots o) p) (with_parents (state_in slots o) p) (caller seat) (Give group mask 0)
give_none fixed slots o p seat group mask fits absent =
    give_done fixed slots slots o p seat group mask 0
    (no_mask group (λ c. has_bit mask (c % 64) && (nat_lt c (length slots) && is_of seat (slot_at slots c)))
    (λ c of_group. and_right _ _ (and_left _ _ (le-ltb c (length slots) (omega (arith, of_group, absent, fits))))))
    (λ c. none_put group c (slot_at slots c))

-- a fact on an error
pub on_err : {A B : Type 0} {P : Type 0} (r : Result A B) → P → OnErr r P
on_err r p = grind (arith, nat_tests)

-- a hash with the bytes of another is that hash
pub same_hash : (one other : Hash) → one.0 ≡ other.0 → one ≡ other
same_hash one other same = λ i. record { 0 = same i }

-- what a piece of the store's root and mode carries is that it is accepted under them
pub accepted_piece : (fixed : Fixed) (piece : Checked) → AreBytes (piece_text piece) → IsAccepted (piece_mode piece) (piece_root piece) (piece_text piece) (piece_nodes piece)
    → IsOf fixed piece → IsAcceptedPiece fixed (piece_of fixed.base piece)
accepted_piece fixed piece bytes accepted is = grind (arith, nat_tests)

-- what is asked of a piece's root and mode
pub is_of_piece : (fixed : Fixed) (piece : Checked) (root : Hash) (mode : Mode) → root.0 ≡ piece_root piece → mode ≡ piece_mode piece
    → root ≡ fixed.root → mode ≡ fixed.mode → IsOf fixed piece
is_of_piece fixed piece root mode r m same_root same_mode = record { root = sym (same_hash root piece.root r) ∙ same_root; mode = sym m ∙ same_mode }

-- a length is settled where none is recorded
pub settle_done : (fixed : Fixed) (slots : List Slot) (o : Option ℕ) (p : List (Option (List ℕ))) (piece : Checked) (l : ℕ) → IsAcceptedPiece fixed (piece_of fixed.base piece) → HoldsLast piece
    → l ≡ piece_claimed piece → has_room fixed l ≡ true → o ≡ None
    → IsDone fixed (with_parents (state_in slots o) p) (with_parents (state_in slots (Some l)) p) [] (Settle (piece_of fixed.base piece) Settled)
settle_done fixed slots o p piece l accepted last is fits none = grind (arith, nat_tests)

and_assoc : (a b c : Bool) → (a && (b && c)) ≡ ((a && b) && c)
and_assoc a b c = grind (arith, nat_tests)

-- all bits are among the greatest mask
all_bits : (k : ℕ) → k < 64 → has_bit 18446744073709551615 k ≡ true
unfolding has_bit
all_bits k below = ap (λ x. nat_eq x 1) (bit_at_ones 64 k below)

-- the chunks that a seat claims and a piece holds
commit_test : (slots : List Slot) (o : Option ℕ) (seat : ℕ) (piece : Piece) (c : ℕ)
    → (has_bit 18446744073709551615 (c % 64) && (nat_lt c (length slots) && (is_of seat (slot_at slots c) && holds_chunk piece c)))
    ≡ (claims (caller seat) (state_in slots o) c && holds_chunk piece c)
commit_test slots o seat piece c = grind (arith, common_steps, nat_tests, all_bits, and_assoc, claims_test)

-- the copy of a chunk of the mask
copy_at : (base group mask : ℕ) (piece : Checked) (ready : List Slot) (c : ℕ) → AreCopies base piece group mask 64 ready → in_mask group mask c ≡ true → IsSlotCopy base piece c (slot_at ready (c % 64))
copy_at base group mask piece ready c copies hit = grind (arith, nat_tests)

pub commit_done : (fixed : Fixed) (old ready new : List Slot) (o : Option ℕ) (p : List (Option (List ℕ))) (seat group mask : ℕ) (piece : Checked)
    → IsAcceptedPiece fixed (piece_of fixed.base piece)
    → IsMaskOf group mask (λ c. has_bit 18446744073709551615 (c % 64) && (nat_lt c (length old) && (is_of seat (slot_at old c) && holds_chunk (piece_of fixed.base piece) c)))
    → AreCopies fixed.base piece group mask 64 ready → ((c : ℕ) → slot_at new c ≡ (if in_mask group mask c then slot_at ready (c % 64) else slot_at old c))
    → IsDone fixed (with_parents (state_in old o) p) (with_parents (state_in new o) p) (caller seat) (Commit group (piece_of fixed.base piece) mask)
commit_done fixed old ready new o p seat group mask piece accepted chosen copies put = record {
  right = (
    accepted,
    mask_same group mask
        (λ c. has_bit 18446744073709551615 (c % 64) && (nat_lt c (length old) && (is_of seat (slot_at old c) && holds_chunk (piece_of fixed.base piece) c)))
        (λ c. claims (caller seat) (state_in old o) c && holds_chunk (piece_of fixed.base piece) c)
        (λ c of_group. commit_test old o seat (piece_of fixed.base piece) c) chosen,
  );
  after = same_state _ _ refl
      (λ c. elim (cases_Bool (in_mask group mask c)) [
        | inl hit ↦ rw hit (ap held_in (rw hit at (put c)) ∙ (copy_at fixed.base group mask piece ready c copies hit).bytes)
        | inr miss ↦ rw miss (ap held_in (rw miss at (put c)))
      ])
      (λ c. elim (cases_Bool (in_mask group mask c)) [
        | inl hit ↦ rw hit (ap claim_in (rw hit at (put c)) ∙ (copy_at fixed.base group mask piece ready c copies hit).unclaimed)
        | inr miss ↦ rw miss (ap claim_in (rw miss at (put c)))
      ])
      refl;
}

-- a group that isn't there
pub commit_none : (fixed : Fixed) (slots : List Slot) (o : Option ℕ) (p : List (Option (List ℕ))) (seat group : ℕ) (piece : Checked) → IsAcceptedPiece fixed (piece_of fixed.base piece)
    → length slots ≤ fixed.capacity → groups fixed ≤ group
    → IsDone fixed (with_parents (state_in slots o) p) (with_parents (state_in slots o) p) (caller seat) (Commit group (piece_of fixed.base piece) 0)
commit_none fixed slots o p seat group piece accepted fits absent = record {
  right = (
    accepted,
    no_mask group (λ c. claims (caller seat) (state_in slots o) c && holds_chunk (piece_of fixed.base piece) c)
        (λ c of_group. and_left _ _ (sym (claims_test slots o seat c) ∙ and_left _ _ (le-ltb c (length slots) (omega (arith, of_group, absent, fits))))),
  );
  after = same_state _ _ refl
      (λ c. rw (and_right (c / 64 == group) (has_bit 0 (c % 64)) (has_bit-zero (c % 64))) refl)
      (λ c. rw (and_right (c / 64 == group) (has_bit 0 (c % 64)) (has_bit-zero (c % 64))) refl)
      refl;
}
