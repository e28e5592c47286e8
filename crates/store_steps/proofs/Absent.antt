-- Calls for a group that isn't there. No chunk of it is claimed, so that their masks are 0, and a load stands for each.
use Rattle.std.proofs.Common.{◌≡◌, ℕ, ◌/◌, ◌%◌, ◌<◌, Bool, false, ◌||◌, if◌then◌else◌, List, [], ◌∷◌, Option, None, is_some, slice_index, set, refl, sym, ap, subst, ◌∙◌, arith}
use Rattle.std.proofs.lemmas.Bool.{and_left, and_right, false_from_ne_true}
use Rattle.std.proofs.lemmas.List.{set-get_or}
use mathlib.Core.Option.{some}
use lib.ListN.{get_elem?}
use Rattle.atomic_table.specs.Table.{State as Table}
use Rattle.holders.specs.declared.fixed.Fixed.{Fixed}
use Rattle.store_core.specs.declared.history.Call.TheVariants.{Commit, Give}
use Rattle.holders.specs.declared.piece.Piece.{Piece}
use Rattle.store_core.specs.declared.view.SeatView.{SeatView}
use Rattle.store_core.specs.Events.{after_call}
use Rattle.store_core.specs.Histories.{state_after}
use Rattle.holders.specs.Room.{groups}
use Rattle.store_core.specs.Masks.{in_mask}
use Rattle.store_core.specs.Names.{Name}
use Rattle.holders.specs.Pieces.{IsAcceptedPiece, chunk_bytes, holds_chunk}
use Rattle.store_core.specs.States.{State, claims, is_claimed}
use Rattle.store_core.specs.Views.{names_of}
use Rattle.store_core.proofs.Tells.{claims-claimed}
use Rattle.store_steps.specs.Layout.{length_code}
use Rattle.store_steps.specs.Plays.{Gives, Publishes}
use Rattle.store_steps.specs.Rule.{RuleHolds, StandFor}
use Rattle.store_core.proofs.Bits.{has_bit-zero}
use Rattle.store_steps.proofs.Giving.{cells_beside, ended_written}
use Rattle.store_steps.proofs.StepViews.{Steps, did_step, sound}
use Rattle.store_steps.proofs.WrittenWords.{in_none}

module _ (fixed : Fixed) (s : Table Unit (List SeatView)) (k : RuleHolds fixed s) (id : ℕ) (view : SeatView) (seat : get_elem? s.views id ≡ some (view ∷ []))
    (any : 0 < fixed.capacity) (group : ℕ) (none : group < groups fixed → ⊥) where
  abbrev found : ℕ
  found = slice_index s.words 0

  abbrev state : State
  state = state_after k.history

  abbrev who : List Name
  who = names_of view

  unclaimed : (c : ℕ) → c / 64 ≡ group → claims who state c ≡ false
  unclaimed c here = false_from_ne_true _ (λ ours.
      let low : c < fixed.capacity = (sound fixed s k id view seat).claimed_below c (claims-claimed who state c ours) in
      none (omega (arith, here, low)))

  -- the words stand for each state with the same chunks, claims and record
  stands : (t : State) → ((c : ℕ) → t.held c ≡ state.held c) → ((c : ℕ) → t.claim c ≡ state.claim c) → t.recorded ≡ state.recorded
      → StandFor fixed (set s.words 0 found) t
  stands t held claim recorded =
      let same : set s.words 0 found ≡ s.words = set-get_or s.words 0 0 in
      subst (λ (words : List ℕ). StandFor fixed words t) (sym same) (record {
        count = k.words.count;
        held = λ c below. k.words.held c below ∙ ap (λ (o : Option (List ℕ)). is_some o) (sym (held c));
        claimed = λ c below.
            k.words.claimed c below ∙ ap (λ (o : Option (List ℕ)). is_some o || is_claimed state c) (sym (held c))
            ∙ ap (λ (o : Option Name). is_some (t.held c) || is_some o) (sym (claim c));
        cells = λ c w bytes shown below. k.words.cells c w bytes (sym (held c) ∙ shown) below;
        recorded = k.words.recorded ∙ ap (λ (o : Option ℕ). length_code o) (sym recorded);
      })

  -- no claim ends
  abbrev claim_then : ℕ → Option Name
  claim_then c = if in_mask group 0 c then None else state.claim c

  claim_stays : (c : ℕ) → in_mask group 0 c ≡ false → claim_then c ≡ state.claim c
  claim_stays c miss = ap (λ (b : Bool). if b then None else state.claim c) miss

  pub give_none_steps : (mask : ℕ) → Steps fixed s id 0 found (λ new. Gives group mask 0 view new)
  give_none_steps mask = did_step fixed s k id view seat (Give group mask 0) 0 found (omega arith) refl
      (record { small = omega arith; bits = λ c here. has_bit-zero (c % 64) ∙ sym (and_right _ _ (unclaimed c here)) })
      (stands (after_call who (Give group mask 0) state) (λ c. refl) (λ c. claim_stays c (in_none group c)) refl)
      (ended_written fixed s k id view seat (after_call who (Give group mask 0) state) group 0 0 found (omega (arith, any)) claim_stays)
      (λ number c never. cells_beside fixed s k id view seat 0 found number (omega (arith, any)))

  pub publish_none_steps : (piece : Piece) → IsAcceptedPiece fixed piece → Steps fixed s id 0 found (λ new. Publishes group piece 0 view new)
  publish_none_steps piece accepted = did_step fixed s k id view seat (Commit group piece 0) 0 found (omega arith) refl
      (accepted, record { small = omega arith; bits = λ c here. has_bit-zero (c % 64) ∙ sym (and_left _ (holds_chunk piece c) (unclaimed c here)) })
      (stands (after_call who (Commit group piece 0) state)
      (λ c. ap (λ (b : Bool). if b then chunk_bytes piece c else state.held c) (in_none group c)) (λ c. claim_stays c (in_none group c)) refl)
      (ended_written fixed s k id view seat (after_call who (Commit group piece 0) state) group 0 0 found (omega (arith, any)) claim_stays)
      (λ number c never. cells_beside fixed s k id view seat 0 found number (omega (arith, any)))
