-- One or on a claim word: chunks are taken, and boundaries claimed.
use Rattle.std.proofs.lemmas.Bool.Decides.{nat_tests}
use Rattle.std.proofs.Common.{◌≡◌, ℕ, ◌/◌, ◌%◌, ◌^◌, ◌<◌, nat_lt, Bool, true, not, ◌&&◌, ◌||◌, if◌then◌else◌, List, [], ◌∷◌, length, Option, is_some, slice_index, set, refl, ap, ◌∙◌, arith, inl, inr, ◌+◌, ◌*◌, false, None, Some, sym, subst, eqb-true, ◌==◌}
use Rattle.std.specs.Int.{w64, bit_not}
use Rattle.std.specs.Int.Bits.{bit_and, bit_or}
use Rattle.std.proofs.Math.Bool.{and_assoc, and_comm, or-false}
use Rattle.std.proofs.lemmas.Bool.{cases_Bool, and_parts, false≢true, or_right, or_parts, not-true}
use mathlib.Core.Option.{some}
use lib.ListN.{get_elem?}
use Rattle.atomic_table.specs.Table.{State as Table}
use Rattle.holders.specs.declared.fixed.Fixed.{Fixed}
use Rattle.store_core.specs.declared.history.Call.TheVariants.{Take}
use Rattle.store_core.specs.declared.view.Named.{Named}
use Rattle.store_core.specs.declared.view.SeatView.{SeatView}
use Rattle.store_core.specs.Events.{IsRightReply, after_call}
use Rattle.store_core.specs.Histories.{state_after}
use Rattle.holders.specs.Room.{groups}
use Rattle.store_core.specs.Masks.{has_bit, in_mask, IsMaskOf}
use Rattle.store_core.specs.Names.{Name, least_name}
use Rattle.store_core.specs.States.{State, claims, is_among, is_held}
use Rattle.store_core.specs.Views.{names_of, is_boundary, is_storing}
use Rattle.store_core.proofs.Joining.{plain}
use Rattle.store_steps.specs.Layout.{claim_place, parent_claim_place, parent_held_place, parent_word_place}
use Rattle.store_steps.specs.Plays.{TakesChunks, ClaimsParents}
use Rattle.store_steps.specs.Rule.{RuleHolds, StandFor, FitsParents, StandForParents, StoresAt}
use Rattle.store_core.proofs.Bits.{and_small, has_bit-and}
use Rattle.store_steps.proofs.Calls.{least_among, if_taken}
use Rattle.store_steps.proofs.WrittenWords.{bits_granted, claims_stand, granted_bit, left, bits_left, in_here, mask_granted}
use Rattle.store_steps.proofs.StepViews.{Steps, did_step, fitting, some_names}
use Rattle.store_core.specs.declared.history.Event.{Event}
use Rattle.store_core.specs.Knowledge.{AreAllNames}
use Rattle.store_core.specs.declared.view.Boundaries.{Boundaries}
use Rattle.store_steps.proofs.Keeping.{its, parents_then}
use Rattle.store_steps.proofs.ParentsAside.{aside_step}
use Rattle.store_steps.proofs.Lists.{one_part}
use Rattle.store_steps.proofs.Storers.{had, stores_new, stores_on}
use Rattle.store_steps.proofs.Wholes.{alone, only_view, whole_history}
use Rattle.store_steps.proofs.Giving.{cells_beside}

-- one with names has a least
is_some-least : (names : List Named) → 0 < length names → is_some (least_name (plain names)) ≡ true
is_some-least [] none = absurd (omega arith)
is_some-least (named ∷ names) more = refl

module _ (fixed : Fixed) (s : Table Unit (List SeatView)) (k : RuleHolds fixed s) (id : ℕ) (view : SeatView) (seat : get_elem? s.views id ≡ some (view ∷ []))
    (group want asked : ℕ) (there : group < groups fixed) (asks : IsMaskOf group asked (λ c. has_bit want (c % 64) && nat_lt c fixed.capacity))
    (small : slice_index s.words (claim_place fixed group) < 2 ^ 64) where
  abbrev found : ℕ
  found = slice_index s.words (claim_place fixed group)

  abbrev granted : ℕ
  granted = bit_and asked (bit_not w64 found)

  abbrev state : State
  state = state_after k.history

  right : IsRightReply fixed state (names_of view) (Take group want granted)
  right = mask_granted fixed (claim_place fixed) (λ g h e. omega (arith, e)) s.words (is_held state) state.claim k.words.claimed group there asked want fixed.capacity small asks

  abbrev who : List Name
  who = names_of view

  abbrev claim_then : ℕ → Option Name
  claim_then c = if in_mask group granted c then least_name who else state.claim c

  words : StandFor fixed (set s.words (claim_place fixed group) (bit_or found asked)) (after_call who (Take group want granted) state)
  words = claims_stand fixed s.words state k.words claim_then group (bit_or found asked) there
      (bits_granted fixed (claim_place fixed) (λ g h e. omega (arith, e)) s.words (is_held state) state.claim k.words.claimed group there asked (least_name who)
      (is_some-least view.names (some_names fixed s k id view seat)) small (omega (arith, there, k.words.count)))

  claims_stay : (c : ℕ) → claims who state c ≡ true → is_among who (claim_then c) ≡ true
  claims_stay c ours = if_taken (is_among who) (in_mask group granted c) (least_name who) (state.claim c) (least_among view.names (some_names fixed s k id view seat)) ∙ or_right _ _ ours

  pub take_steps : Steps fixed s id (claim_place fixed group) (bit_or found asked) (λ new. TakesChunks group want asked found view new)
  take_steps = did_step fixed s k id view seat (Take group want granted) (claim_place fixed group) (bit_or found asked) (omega (arith, there)) refl right words
      (λ number value is.
      let w = (fitting fixed s k id view seat).written number value is in
      (claims_stay (number / 129) w.0, cells_beside fixed s k id view seat (claim_place fixed group) (bit_or found asked) number (omega (arith, there)) ∙ w.1))
      (λ number c ours. cells_beside fixed s k id view seat (claim_place fixed group) (bit_or found asked) number (omega (arith, there)))

none_is : {A : Type 0} (o : Option A) → is_some o ≡ false → o ≡ None
none_is o h = grind (arith, nat_tests)

-- what is stored_mask to a seat with all names, of what it wants
pub granted_mask : (group below want free capacity : ℕ) (parents : ℕ → Option (List ℕ)) → IsMaskOf group below (λ m. nat_lt m capacity)
    → ((m : ℕ) → m / 64 ≡ group → has_bit (bit_and (bit_and below want) free) (m % 64) ≡ (has_bit (bit_and below want) (m % 64) && not (is_some (parents m))))
    → IsMaskOf group (bit_and (bit_and below want) free) (λ m. has_bit want (m % 64) && (nat_lt m capacity && not (is_some (parents m))))
granted_mask group below want free capacity parents low is = record {
  small = and_small (bit_and below want) free (and_small below want low.small);
  bits = λ m at.
      is m at
      ∙ ap (λ (b : Bool). b && not (is_some (parents m))) (has_bit-and below want (m % 64) ∙ ap (λ (b : Bool). b && has_bit want (m % 64)) (low.bits m at))
      ∙ rw (and_comm (nat_lt m capacity) (has_bit want (m % 64))) (and_assoc (has_bit want (m % 64)) (nat_lt m capacity) (not (is_some (parents m))));
}

module _ (fixed : Fixed) (s : Table Unit (List SeatView)) (k : RuleHolds fixed s) (id : ℕ) (view : SeatView) (seat : get_elem? s.views id ≡ some (view ∷ []))
    (group asked : ℕ) (there : group < groups fixed) (asks : (m : ℕ) → m / 64 ≡ group → has_bit asked (m % 64) ≡ true → m < fixed.capacity)
    (none : view.storing ≡ []) (small : slice_index s.words (parent_claim_place fixed group) < 2 ^ 64) where
  abbrev place : ℕ
  place = parent_claim_place fixed group

  abbrev found_word : ℕ
  found_word = slice_index s.words place

  abbrev stored_mask : ℕ
  stored_mask = bit_and asked (bit_not w64 found_word)

  abbrev parents : ℕ → Option (List ℕ)
  parents = (state_after k.history).parents

  abbrev storer : ℕ → Option (ℕ × ℕ)
  storer = k.parents.storer

  abbrev later : List ℕ
  later = set s.words place (bit_or found_word asked)

  abbrev storing : List Boundaries
  storing = record { group = group; mask = stored_mask } ∷ []

  abbrev new : SeatView
  new = record view { storing = storing; parent_words = view.parent_words }

  abbrev storer_then : ℕ → Option (ℕ × ℕ)
  storer_then m = if in_mask group stored_mask m then Some (id, 0) else storer m

  -- boundaries that are stored_mask were free
  free_bit : (m : ℕ) → m / 64 ≡ group → has_bit stored_mask (m % 64) ≡ (has_bit asked (m % 64) && not (is_some (parents m) || is_some (storer m)))
  free_bit m here = granted_bit fixed (parent_claim_place fixed) (λ g h e. omega (arith, e)) s.words (λ n. is_some (parents n)) storer k.parents.stand.claimed group there asked m small here

  of_group : (m : ℕ) → in_mask group stored_mask m ≡ true → m / 64 ≡ group
  of_group m hit = eqb-true (m / 64) group (and_parts (m / 64 == group) (has_bit stored_mask (m % 64)) hit).0

  hit_is : (m : ℕ) → in_mask group stored_mask m ≡ true → (has_bit asked (m % 64) && not (is_some (parents m) || is_some (storer m))) ≡ true
  hit_is m hit = sym (in_here group stored_mask m (of_group m hit) ∙ free_bit m (of_group m hit)) ∙ hit

  free : (m : ℕ) → in_mask group stored_mask m ≡ true → (is_some (parents m) ≡ false) × (storer m ≡ None)
  free m hit =
      let parts = or_parts (is_some (parents m)) (is_some (storer m)) (not-true _ (and_parts _ _ (hit_is m hit)).1) in (parts.0, none_is (storer m) parts.1)

  low : (m : ℕ) → in_mask group stored_mask m ≡ true → m < fixed.capacity
  low m hit = asks m (of_group m hit) (and_parts (has_bit asked (m % 64)) (not (is_some (parents m) || is_some (storer m))) (hit_is m hit)).0

  words_left : (number : ℕ) → slice_index later (parent_word_place fixed number) ≡ slice_index s.words (parent_word_place fixed number)
  words_left number = left s.words place (bit_or found_word asked) (parent_word_place fixed number) (λ e. omega (arith, e, there))

  stand : StandForParents fixed later parents storer_then
  stand = record {
    held = bits_left fixed (parent_held_place fixed) s.words (λ m. is_some (parents m)) place (bit_or found_word asked) (λ g below e. omega (arith, e, below)) k.parents.stand.held;
    claimed = bits_granted fixed (parent_claim_place fixed) (λ g h e. omega (arith, e)) s.words (λ m. is_some (parents m)) storer k.parents.stand.claimed group there asked
        (Some (id, 0)) refl small (omega (arith, there, k.words.count));
    cells = λ m w bytes held below. words_left (8 * m + w) ∙ k.parents.stand.cells m w bytes held below;
    apart = λ m is. elim (cases_Bool (in_mask group stored_mask m)) [
      | inl hit ↦ none_is (parents m) (free m hit).0
      | inr miss ↦ k.parents.stand.apart m (rw miss at is)
    ];
  }

  its_storing : (m : ℕ) → is_storing new m ≡ true → in_mask group stored_mask m ≡ true
  its_storing m is = grind (arith, nat_tests)

  its_fit : FitsParents fixed later storer_then id 0 new
  its_fit = record {
    low = λ m is. low m (its_storing m is);
    owned = λ m is. rw (its_storing m is) refl;
    written = λ number value is.
        let old = (k.parents.fit id 0 view (its fixed s k id view new seat refl)).written number value is in
        let never : false ≡ true = sym (ap (λ (bs : List Boundaries). is_boundary bs (number / 8)) none) ∙ old.0 in cc;
  }

  owned_then : (m i j : ℕ) → storer m ≡ Some (i, j) → storer_then m ≡ Some (i, j)
  owned_then m i j is = let was = free m in grind (arith, nat_tests)

  by_then : (m i j : ℕ) → storer_then m ≡ Some (i, j) → StoresAt (set s.views id (new ∷ [])) i j m
  by_then m i j is = elim (cases_Bool (in_mask group stored_mask m)) [
    | inl hit ↦ stores_new s.views id view new seat m i j (rw hit at is) (rw hit refl)
    | inr miss ↦ stores_on s.views id view new seat m (λ h.
        let never : false ≡ true = sym (ap (λ (bs : List Boundaries). is_boundary bs m) none) ∙ h in absurd (false≢true never)) i j (k.parents.by m i j (rw miss at is))
  ]

  -- where the seat has all names, nobody is storing a parent
  none_storing : AreAllNames view.names → (m : ℕ) (o : Option (ℕ × ℕ)) → storer m ≡ o → o ≡ None
  none_storing all m None is = refl
  none_storing all m (Some place) is =
      let s' = k.parents.by m place.0 place.1 is in
      let same = only_view fixed s k id 0 view (its fixed s k id view new seat refl) all place.0 place.1 s'.view s'.has in
      let one = one_part view s'.view place.1 (had s.views id (view ∷ []) place.0 place.1 s'.view seat (ap (λ (p : ℕ × ℕ). p.0) same) s'.has) in
      let storing : is_storing view m ≡ true = subst (λ (v : SeatView). is_storing v m ≡ true) one.1 s'.storing in
      let never : false ≡ true = sym (ap (λ (bs : List Boundaries). is_boundary bs m) none) ∙ storing in cc

  free_alone : AreAllNames view.names → (m : ℕ) → m / 64 ≡ group
      → has_bit stored_mask (m % 64) ≡ (has_bit asked (m % 64) && not (is_some ((state_after view.seen).parents m)))
  free_alone all m here =
      free_bit m here
      ∙ ap (λ (b : Bool). has_bit asked (m % 64) && not b)
      (ap (λ (o : Option (ℕ × ℕ)). is_some (parents m) || is_some o) (none_storing all m (storer m) refl) ∙ or-false (is_some (parents m))
      ∙ ap (λ (h : List Event). is_some ((state_after h).parents m)) (whole_history fixed s k id 0 view (its fixed s k id view new seat refl) all))

  pub claim_parents_steps : Steps fixed s id place (bit_or found_word asked) (λ new. ClaimsParents group asked found_word view new)
  claim_parents_steps = record {
    new = new;
    kept = aside_step fixed s k id view seat place (bit_or found_word asked) (omega arith) storing view.parent_words
        (parents_then fixed s k id view new seat refl later parents storer_then stand its_fit (λ m i j other is. owned_then m i j is) (λ number i j other is. words_left number) by_then);
    told = record { stores = refl; own = alone fixed s k id 0 view (its fixed s k id view new seat refl); free = free_alone };
  }
