-- Give: one and on the claim word.
use Rattle.std.proofs.Common.{◌≡◌, ℕ, ◌*◌, ◌/◌, ◌%◌, ◌^◌, ◌<◌, Bool, true, false, ◌&&◌, if◌then◌else◌, List, [], ◌∷◌, Option, None, Some, slice_index, set, refl, sym, ap, ◌∙◌, arith}
use Rattle.std.specs.Int.{w64, bit_not}
use Rattle.std.specs.Int.Bits.{bit_and}
use Rattle.std.proofs.lemmas.Bool.{and_parts, both_ways, false_from_ne_true}
use mathlib.Core.Option.{some}
use lib.ListN.{get_elem?}
use Rattle.atomic_table.specs.Table.{State as Table}
use Rattle.holders.specs.declared.fixed.Fixed.{Fixed}
use Rattle.store_core.specs.declared.history.Call.TheVariants.{Give}
use Rattle.store_core.specs.declared.view.SeatView.{SeatView}
use Rattle.store_core.specs.Events.{IsRightReply, after_call}
use Rattle.store_core.specs.Histories.{state_after}
use Rattle.holders.specs.Room.{groups}
use Rattle.store_core.specs.Masks.{has_bit, in_mask}
use Rattle.store_core.specs.Names.{Name}
use Rattle.store_core.specs.States.{State, claims, is_among, is_held}
use Rattle.store_core.specs.Views.{names_of, stored, without_chunks}
use Rattle.store_core.proofs.Tells.{claims-claimed, masked}
use Rattle.store_steps.specs.Asks.{AreClaimed}
use Rattle.store_steps.specs.Layout.{cell_at, cell_place, claim_place}
use Rattle.store_steps.specs.Plays.{Gives}
use Rattle.store_steps.specs.Rule.{RuleHolds, StandFor}
use Rattle.store_steps.proofs.WrittenWords.{bits_given, claims_stand, left, still_stored}
use Rattle.store_steps.proofs.StepViews.{Steps, did_step, fitting, claims_now, sound}

module _ (fixed : Fixed) (s : Table Unit (List SeatView)) (k : RuleHolds fixed s) (id : ℕ) (view : SeatView) (seat : get_elem? s.views id ≡ some (view ∷ [])) where
  -- what it claims isn't held
  pub not_held : (c : ℕ) → claims (names_of view) (state_after k.history) c ≡ true → is_held (state_after k.history) c ≡ false
  not_held c ours = false_from_ne_true _ (λ shown.
      both_ways _ ((sound fixed s k id view seat).apart c shown) (claims-claimed (names_of view) (state_after k.history) c ours))

  -- words of cells are left where another kind of word is written
  pub cells_beside : (place n number : ℕ) → place < 2 * groups fixed → cell_at fixed (set s.words place n) number ≡ cell_at fixed s.words number
  cells_beside place n number below = left s.words place n (cell_place fixed number) (λ e. omega (arith, e, below))

  -- Claims of a mask's chunks end: what counts as stored stands in cells of claims that go on.
  pub ended_written : (t : State) (group mask place n : ℕ) → place < 2 * groups fixed
      → ((c : ℕ) → in_mask group mask c ≡ false → t.claim c ≡ (state_after k.history).claim c)
      → (number value : ℕ) → stored (without_chunks group mask view.written) number ≡ Some value
      → (claims (names_of view) t (number / 129) ≡ true) × (cell_at fixed (set s.words place n) number ≡ value)
  ended_written t group mask place n below same number value is =
      let old = still_stored group mask view.written number value is in
      let w = (fitting fixed s k id view seat).written number value old.1 in (
        ap (λ (o : Option Name). is_among (names_of view) o) (same (number / 129) old.0) ∙ w.0,
        cells_beside place n number below ∙ w.1,
      )

  module _ (group mask given : ℕ) (there : group < groups fixed) (ours : AreClaimed view group mask given)
      (small : slice_index s.words (claim_place fixed group) < 2 ^ 64) where
    abbrev found : ℕ
    found = slice_index s.words (claim_place fixed group)

    abbrev state : State
    state = state_after k.history

    right : IsRightReply fixed state (names_of view) (Give group mask given)
    right = record { small = ours.small; bits = λ c here. ours.bits c here ∙ ap (λ (b : Bool). has_bit mask (c % 64) && b) (sym (claims_now fixed s k id view seat c)) }

    -- a chunk of the mask is claimed, and so not held
    free : (c : ℕ) → in_mask group given c ≡ true → is_held state c ≡ false
    free c hit = not_held c (and_parts (has_bit mask (c % 64)) (claims (names_of view) state c)
        (masked group given (λ c. has_bit mask (c % 64) && claims (names_of view) state c) c right hit)).1

    abbrev claim_then : ℕ → Option Name
    claim_then c = if in_mask group given c then None else state.claim c

    words : StandFor fixed (set s.words (claim_place fixed group) (bit_and found (bit_not w64 given))) (after_call (names_of view) (Give group mask given) state)
    words = claims_stand fixed s.words state k.words claim_then group (bit_and found (bit_not w64 given)) there
        (bits_given fixed (claim_place fixed) (λ g h e. omega (arith, e)) s.words (is_held state) state.claim k.words.claimed group there given ours.small free
        (omega (arith, there, k.words.count)))

    pub give_steps : Steps fixed s id (claim_place fixed group) (bit_and found (bit_not w64 given)) (λ new. Gives group mask given view new)
    give_steps = did_step fixed s k id view seat (Give group mask given) (claim_place fixed group) (bit_and found (bit_not w64 given)) (omega (arith, there)) refl right words
        (ended_written (after_call (names_of view) (Give group mask given) state) group given (claim_place fixed group)
        (bit_and found (bit_not w64 given)) (omega (arith, there)) (λ c miss. ap (λ (b : Bool). if b then None else state.claim c) miss))
        (λ number c never. cells_beside (claim_place fixed group) (bit_and found (bit_not w64 given)) number (omega (arith, there)))
