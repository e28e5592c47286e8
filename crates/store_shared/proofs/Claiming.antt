-- The claims that a seat keeps stay those of its view.
use Rattle.std.proofs.Common.{◌≡◌, ◌≢◌, ℕ, ◌/◌, ◌%◌, ◌^◌, ◌+◌, ◌<◌, ◌≤◌, Bool, false, not, ◌&&◌, ◌||◌, List, [], ◌++◌, length, replicate, set, slice_index, refl, sym, ap, subst, ◌∙◌, arith, inl, inr, eq-eqb, ne_eqb}
use Rattle.std.proofs.lemmas.Bool.{both_ways, cases_eq, false_from_ne_true, and_right}
use Rattle.std.proofs.lemmas.List.{get_or-replicate, length-replicate, length-set}
use Rattle.std.specs.Int.{w64, bit_not}
use Rattle.std.specs.Int.Bits.{bit_and, bit_or}
use Rattle.holders.specs.declared.fixed.Fixed.{Fixed}
use Rattle.store_core.specs.declared.history.Call.TheVariants.{Take}
use Rattle.holders.specs.declared.piece.Piece.{Piece}
use Rattle.store_core.specs.declared.view.Boundaries.{Boundaries}
use Rattle.store_core.specs.declared.view.SeatView.{SeatView}
use Rattle.holders.specs.Room.{groups}
use Rattle.store_core.specs.Masks.{IsMaskOf, has_bit, in_mask}
use Rattle.store_core.specs.Histories.{state_after, IsLegal}
use Rattle.store_core.specs.Names.{Name}
use Rattle.store_core.specs.States.{claims}
use Rattle.store_core.specs.Stores.{ChunksBind}
use Rattle.store_core.specs.Views.{names_of, seat_claims, split_first, Continues}
use Rattle.store_core.proofs.Joining.{claims_continued, join_keeps, split_keeps}
use Rattle.store_core.proofs.Tells.{claims_apart}
use Rattle.store_shared.specs.Grips.{AreClaimed}
use Rattle.store_core.specs.Knowledge.{AreMet, ArePartsOf, Did, IsMerged, KeepsClaims, NoneIsClaimedByBoth, opening_view}
use Rattle.store_core.proofs.Bits.{and_small, has_bit-and, has_bit-not, has_bit-or, has_bit-zero}
use Rattle.std.proofs.lemmas.List.{get_or-set_other, get_or-set_same}
use Rattle.store_shared.specs.Seats.{AreClaims}
use Rattle.std.proofs.Math.Bool.{and_comm, or_comm}
use Rattle.store_core.specs.declared.history.Event.{Event}

-- words of zeros, for a seat that claims nothing
pub none_claimed : (view : SeatView) (count : ℕ) → count ≡ groups view.fixed → ((c : ℕ) → seat_claims view c ≡ false) → view.storing ≡ [] → AreClaims view (replicate count 0)
none_claimed view count size none idle = record {
  count = length-replicate count 0 ∙ size;
  bits = λ c below. ap (λ (w : ℕ). has_bit w (c % 64)) (get_or-replicate count (c / 64) 0 0 (omega (arith, below, size))) ∙ has_bit-zero (c % 64) ∙ sym (none c);
  idle = idle;
}

pub opening_claims : (fixed : Fixed) (view : SeatView) (count : ℕ) (claims : List ℕ) → view ≡ opening_view fixed → count ≡ groups fixed
    → claims ≡ replicate count 0 → AreClaims view claims
opening_claims fixed view count claims is size zeros =
    subst (λ (v : SeatView). AreClaims v claims) (sym is)
    (subst (λ (xs : List ℕ). AreClaims (opening_view fixed) xs) (sym zeros) (none_claimed (opening_view fixed) count size (λ c. refl) refl))

-- the word of one group is made anew, and elsewhere the claims stay
pub claims_put : (old new : SeatView) (claims : List ℕ) (group n : ℕ) → AreClaims old claims → new.fixed ≡ old.fixed → new.storing ≡ old.storing → group < groups old.fixed
    → ((c : ℕ) → c / 64 ≡ group → has_bit n (c % 64) ≡ seat_claims new c)
    → ((c : ℕ) → c / 64 ≢ group → seat_claims new c ≡ seat_claims old c)
    → AreClaims new (set claims group n)
claims_put old new claims group n kept same storing within here elsewhere =
    let count : groups old.fixed ≡ groups new.fixed = ap (λ (f : Fixed). groups f) (sym same) in
    record {
      count = length-set claims group n ∙ kept.count ∙ count;
      bits = λ c below. elim (cases_eq (c / 64) group) [
        | inl at ↦
            ap (λ (i : ℕ). has_bit (slice_index (set claims group n) i) (c % 64)) at
            ∙ ap (λ (w : ℕ). has_bit w (c % 64)) (get_or-set_same claims group n 0 (omega (arith, kept.count, within))) ∙ here c at
        | inr other ↦
            ap (λ (w : ℕ). has_bit w (c % 64)) (get_or-set_other claims group (c / 64) n 0 other) ∙ kept.bits c (omega (arith, below, count)) ∙ sym (elsewhere c other)
      ];
      idle = storing ∙ kept.idle;
    }

-- the bits of a group's word are the claims of its chunks
pub claimed_bits : (view : SeatView) (claims : List ℕ) (group c : ℕ) → AreClaims view claims → group < groups view.fixed → c / 64 ≡ group
    → has_bit (slice_index claims group) (c % 64) ≡ seat_claims view c
claimed_bits view claims group c kept within at =
    ap (λ (i : ℕ). has_bit (slice_index claims i) (c % 64)) (sym at) ∙ kept.bits c (omega (arith, within, at))

pub claims_took : (old new : SeatView) (claims : List ℕ) (group want granted word : ℕ) → AreClaims old claims → group < groups old.fixed
    → word ≡ slice_index claims group → Did (Take group want granted) old new → AreClaims new (set claims group (bit_or word granted))
claims_took old new claims group want granted word kept within is did =
    claims_put old new claims group (bit_or word granted) kept did.goes_on.fixed_is did.storing_is within
    (λ c at.
    let mine : has_bit word (c % 64) ≡ seat_claims old c = ap (λ (w : ℕ). has_bit w (c % 64)) is ∙ claimed_bits old claims group c kept within at in
    has_bit-or word granted (c % 64) ∙ ap (λ (b : Bool). b || has_bit granted (c % 64)) mine ∙ or_comm (seat_claims old c) (has_bit granted (c % 64))
    ∙ sym (ap (λ (b : Bool). (b && has_bit granted (c % 64)) || seat_claims old c) (eq-eqb (c / 64) group at)) ∙ sym (did.claims_are c))
    (λ c other. did.claims_are c ∙ ap (λ (b : Bool). (b && has_bit granted (c % 64)) || seat_claims old c) (ne_eqb (c / 64) group other))

-- the words stay where the view claims the same
pub claims_same : (old new : SeatView) (words : List ℕ) → AreClaims old words → new.fixed ≡ old.fixed → new.storing ≡ old.storing
    → ((c : ℕ) → seat_claims new c ≡ seat_claims old c) → AreClaims new words
claims_same old new words kept same storing claimed =
    let count : groups old.fixed ≡ groups new.fixed = ap (λ (f : Fixed). groups f) (sym same) in
    record {
      count = kept.count ∙ count;
      bits = λ c below. kept.bits c (omega (arith, below, count)) ∙ sym (claimed c);
      idle = storing ∙ kept.idle;
    }

-- A seat that met another has seen more, and claims what it claimed.
pub met_keeps : (of : Fixed) (view new : SeatView) (history : List Event) → new ≡ record view { seen = history } → Continues view history → IsLegal of history → KeepsClaims view new
met_keeps of view new history is on legal =
    subst (λ (v : SeatView). KeepsClaims view v) (sym is) (λ c. claims_continued of view history on legal c)

pub met_claims : (of : Fixed) (view new : SeatView) (history : List Event) (words : List ℕ) → AreClaims view words → new ≡ record view { seen = history }
    → Continues view history → IsLegal of history → AreClaims new words
met_claims of view new history words kept is on legal =
    claims_same view new words kept (ap (λ (v : SeatView). v.fixed) is) (ap (λ (v : SeatView). v.storing) is) (met_keeps of view new history is on legal)

-- Both have seen one history, and have no name in common.
pub met_apart : (first second new_first new_second : SeatView) → AreMet first second new_first new_second → NoneIsClaimedByBoth new_first new_second
met_apart first second new_first new_second met =
    subst (λ (v : SeatView). NoneIsClaimedByBoth v new_second) (sym met.first_is)
    (subst (λ (v : SeatView). NoneIsClaimedByBoth (record first { seen = met.history }) v) (sym met.second_is)
    (λ c mine. false_from_ne_true _ (λ theirs.
    both_ways _ (claims_apart (state_after met.history) (names_of first) (names_of second) c met.apart theirs) mine)))

pub were_apart : (first second new_first new_second : SeatView) → AreMet first second new_first new_second → NoneIsClaimedByBoth first second
were_apart first second new_first new_second met c mine =
    sym (met_keeps first.fixed second new_second met.history met.second_is met.after_second met.legal c)
    ∙ met_apart first second new_first new_second met c (met_keeps first.fixed first new_first met.history met.first_is met.after_first met.legal c ∙ mine)

pub part_first : (old first second : SeatView) (words : List ℕ) → AreClaims old words → ArePartsOf old first second → AreClaims first words
part_first old first second words kept parts =
    subst (λ (v : SeatView). AreClaims v words) (sym parts.first_is)
    (claims_same old (split_first old) words kept refl refl (λ c. ap (λ (names : List Name). claims names (state_after old.seen) c) (split_keeps old)))

pub part_second : (old first second : SeatView) (count : ℕ) (zeros : List ℕ) → count ≡ groups old.fixed → ArePartsOf old first second
    → zeros ≡ replicate count 0 → AreClaims second zeros
part_second old first second count zeros size parts is =
    subst (λ (xs : List ℕ). AreClaims second xs) (sym is)
    (none_claimed second count (size ∙ ap (λ (v : SeatView). groups v.fixed) (sym parts.second_is)) parts.no_claims
    (ap (λ (v : SeatView). v.storing) parts.second_is))

-- the word of a group is the mask of the chunks that are claimed
pub claimed_mask : (view : SeatView) (claims : List ℕ) (group word : ℕ) → AreClaims view claims → group < groups view.fixed → word ≡ slice_index claims group
    → word < 2 ^ 64 → IsMaskOf group word (λ c. seat_claims view c)
claimed_mask view claims group word kept within is small = record {
  small = small;
  bits = λ c at. ap (λ (w : ℕ). has_bit w (c % 64)) is ∙ claimed_bits view claims group c kept within at;
}

-- and with another mask of those of its chunks
pub claimed_among : (view : SeatView) (claims : List ℕ) (group mask word : ℕ) → AreClaims view claims → group < groups view.fixed
    → word ≡ slice_index claims group → word < 2 ^ 64 → AreClaimed view group mask (bit_and word mask)
claimed_among view claims group mask word kept within is small = record {
  small = and_small word mask small;
  bits = λ c at.
      has_bit-and word mask (c % 64)
      ∙ ap (λ (b : Bool). b && has_bit mask (c % 64)) ((claimed_mask view claims group word kept within is small).bits c at)
      ∙ and_comm (seat_claims view c) (has_bit mask (c % 64));
}

-- claims of a group's chunks end, and the others stay
pub claims_ended : (old new : SeatView) (claims : List ℕ) (group ended word : ℕ) → AreClaims old claims → new.fixed ≡ old.fixed → new.storing ≡ old.storing → group < groups old.fixed
    → word ≡ slice_index claims group → ended < 2 ^ 64
    → ((c : ℕ) → seat_claims new c ≡ (not (in_mask group ended c) && seat_claims old c))
    → AreClaims new (set claims group (bit_and word (bit_not w64 ended)))
claims_ended old new claims group ended word kept same storing within is small left =
    claims_put old new claims group (bit_and word (bit_not w64 ended)) kept same storing within
    (λ c at.
    let mine : has_bit word (c % 64) ≡ seat_claims old c = ap (λ (w : ℕ). has_bit w (c % 64)) is ∙ claimed_bits old claims group c kept within at in
    has_bit-and word (bit_not w64 ended) (c % 64) ∙ ap (λ (b : Bool). b && has_bit (bit_not w64 ended) (c % 64)) mine
    ∙ ap (λ (b : Bool). seat_claims old c && b) (has_bit-not ended (c % 64) small (omega arith))
    ∙ and_comm (seat_claims old c) (not (has_bit ended (c % 64)))
    ∙ sym (ap (λ (b : Bool). not (b && has_bit ended (c % 64)) && seat_claims old c) (eq-eqb (c / 64) group at)) ∙ sym (left c))
    (λ c other. left c ∙ ap (λ (b : Bool). not (b && has_bit ended (c % 64)) && seat_claims old c) (ne_eqb (c / 64) group other))

no_chunk : (group c : ℕ) → in_mask group 0 c ≡ false
no_chunk group c = and_right _ _ (has_bit-zero (c % 64))

-- no chunk is committed, so none is bound
pub none_bind : (fixed : Fixed) (piece : Piece) (group : ℕ) → ChunksBind fixed piece group 0
none_bind fixed piece group blob is c bytes hit has = absurd (both_ways (in_mask group 0 c) (no_chunk group c) hit)

-- each mask has the bits of both with its index
pub record HaveBoth (ours theirs both : List ℕ) : Type 0 where
  pub count : length both ≡ length ours
  pub bits : (k : ℕ) → k < length ours → slice_index both k ≡ bit_or (slice_index ours k) (slice_index theirs k)

-- a joined seat has the claims of both
pub claims_joined : (first second joined : SeatView) (ours theirs both : List ℕ) → AreClaims first ours → AreClaims second theirs → IsMerged first second joined
    → HaveBoth ours theirs both → AreClaims joined both
claims_joined first second joined ours theirs both one two merged put =
    let of_first : groups joined.fixed ≡ groups first.fixed = ap (λ (f : Fixed). groups f) merged.joined.fixed_first in
    let of_second : groups joined.fixed ≡ groups second.fixed = ap (λ (f : Fixed). groups f) merged.joined.fixed_second in
    record {
      count = put.count ∙ one.count ∙ sym of_first;
      bits = λ c below.
          ap (λ (w : ℕ). has_bit w (c % 64)) (put.bits (c / 64) (omega (arith, below, one.count, of_first)))
          ∙ has_bit-or (slice_index ours (c / 64)) (slice_index theirs (c / 64)) (c % 64)
          ∙ ap (λ (b : Bool). b || has_bit (slice_index theirs (c / 64)) (c % 64)) (one.bits c (omega (arith, below, of_first)))
          ∙ ap (λ (b : Bool). seat_claims first c || b) (two.bits c (omega (arith, below, of_second)))
          ∙ sym ((join_keeps first second joined merged.joined).3 merged.legal c);
      idle = merged.joined.storing_are ∙ ap (λ (bs : List Boundaries). bs ++ second.storing) one.idle ∙ two.idle;
    }

-- of the first k masks each has the bits of both
pub record ArePut (old others : List ℕ) (k : ℕ) (new : List ℕ) : Type 0 where
  pub count : length new ≡ length old
  pub below : (i : ℕ) → i < k → slice_index new i ≡ bit_or (slice_index old i) (slice_index others i)
  pub above : (i : ℕ) → k ≤ i → slice_index new i ≡ slice_index old i

pub put_more : (old others : List ℕ) (k : ℕ) (masks : List ℕ) (mask : ℕ) → ArePut old others k masks → k < length old
    → mask ≡ bit_or (slice_index masks k) (slice_index others k) → ArePut old others (k + 1) (set masks k mask)
put_more old others k masks mask so_far within is = record {
  count = length-set masks k mask ∙ so_far.count;
  below = λ i low. elim (cases_eq i k) [
    | inl at ↦
        ap (λ (j : ℕ). slice_index (set masks k mask) j) at ∙ get_or-set_same masks k mask 0 (omega (arith, within, so_far.count)) ∙ is
        ∙ ap (λ (w : ℕ). bit_or w (slice_index others k)) (so_far.above k (omega arith))
        ∙ ap (λ (j : ℕ). bit_or (slice_index old j) (slice_index others j)) (sym at)
    | inr other ↦ get_or-set_other masks k i mask 0 other ∙ so_far.below i (omega (arith, low, other))
  ];
  above = λ i high. get_or-set_other masks k i mask 0 (λ e. omega (arith, e, high)) ∙ so_far.above i (omega (arith, high));
}
