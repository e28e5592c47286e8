-- One or on a held word, once all words are stored: of chunks, and of parents.
use Rattle.std.proofs.lemmas.Bool.Decides.{nat_tests}
use Rattle.std.proofs.Common.{◌≡◌, ℕ, ◌+◌, ◌*◌, ◌<◌, Bool, true, ◌&&◌, ◌||◌, if◌then◌else◌, List, [], ◌∷◌, Option, None, Some, slice_index, set, refl, sym, ap, ◌∙◌, arith, inl, inr, ◌≢◌, false, ◌++◌, is_some}
use Rattle.std.specs.Int.Bits.{bit_or}
use Rattle.std.proofs.lemmas.Bool.{and_parts, cases_Bool, false≢true}
use Rattle.std.proofs.lemmas.List.{length-set}
use mathlib.Core.Option.{some}
use lib.ListN.{get_elem?}
use Rattle.atomic_table.specs.Table.{State as Table}
use Rattle.holders.specs.declared.fixed.Fixed.{Fixed}
use Rattle.store_core.specs.declared.history.Call.TheVariants.{Commit, Parents}
use Rattle.holders.specs.declared.piece.Piece.{Piece}
use Rattle.store_core.specs.declared.view.SeatView.{SeatView}
use Rattle.store_core.specs.Cells.{cell_word}
use Rattle.store_core.specs.Events.{after_call, IsRightReply}
use Rattle.store_core.specs.Histories.{state_after}
use Rattle.holders.specs.Room.{groups}
use Rattle.store_core.specs.Masks.{IsMaskOf, in_mask}
use Rattle.store_core.specs.Names.{Name}
use Rattle.holders.specs.Pieces.{IsAcceptedPiece, chunk_bytes, holds_chunk, length_of, parent_bytes}
use Rattle.store_core.specs.States.{State, claims, is_claimed, is_held}
use Rattle.store_core.specs.Views.{names_of, is_boundary, is_storing}
use Rattle.store_core.proofs.Tells.{claims-claimed, masked}
use Rattle.store_steps.specs.Asks.{AreHeldClaims, AreWordsStored, AreParentsWritten}
use Rattle.store_steps.specs.Kinds.{chunk_kind}
use Rattle.store_steps.specs.Layout.{cell_at, claim_place, length_place, parent_at, parent_claim_place, parent_held_place, parent_word, parent_word_place}
use Rattle.store_steps.specs.Plays.{Publishes, PublishesParents}
use Rattle.store_steps.specs.Rule.{RuleHolds, StandFor, FitsParents, StandForParents, StoresAt}
use Rattle.store_steps.proofs.Giving.{cells_beside, ended_written}
use Rattle.store_steps.proofs.WrittenWords.{bits_left, bits_shown, left, still_taken}
use Rattle.store_steps.proofs.StepViews.{Steps, did_step, fitting, claims_now, still}
use Rattle.store_core.specs.declared.history.Storing.TheVariants.{Stored}
use Rattle.store_core.specs.declared.view.Boundaries.{Boundaries}
use Rattle.store_core.proofs.Lasting.{record_lasts}
use Rattle.store_core.specs.Knowledge.{event_of}
use Rattle.store_steps.proofs.Keeping.{its, parents_then}
use Rattle.store_steps.proofs.ParentsAside.{parents_step}
use Rattle.store_steps.proofs.ParentsStanding.{fits_none}
use Rattle.store_steps.proofs.Storers.{stores_on}

module _ (fixed : Fixed) (s : Table Unit (List SeatView)) (k : RuleHolds fixed s) (id : ℕ) (view : SeatView) (seat : get_elem? s.views id ≡ some (view ∷ []))
    (group mask : ℕ) (piece : Piece) (there : group < groups fixed) (accepted : IsAcceptedPiece fixed piece) (ours : AreHeldClaims view group piece mask)
    (written : AreWordsStored chunk_kind view group mask piece) where
  abbrev found : ℕ
  found = slice_index s.words group

  abbrev state : State
  state = state_after k.history

  abbrev who : List Name
  who = names_of view

  marked : IsMaskOf group mask (λ c. claims who state c && holds_chunk piece c)
  marked = record { small = ours.small; bits = λ c here. ours.bits c here ∙ ap (λ (b : Bool). b && holds_chunk piece c) (sym (claims_now fixed s k id view seat c)) }

  -- the seat claims the chunks of the mask, and the piece holds them
  both : (c : ℕ) → in_mask group mask c ≡ true → (claims who state c ≡ true) × (holds_chunk piece c ≡ true)
  both c hit = let parts = and_parts (claims who state c) (holds_chunk piece c) (masked group mask (λ c. claims who state c && holds_chunk piece c) c marked hit) in (parts.0, parts.1)

  abbrev held_then : ℕ → Option (List ℕ)
  held_then c = if in_mask group mask c then chunk_bytes piece c else state.held c

  abbrev claim_then : ℕ → Option Name
  claim_then c = if in_mask group mask c then None else state.claim c

  cells : (c w : ℕ) (bytes : List ℕ) → held_then c ≡ Some bytes → w < 129 → cell_at fixed s.words (129 * c + w) ≡ cell_word bytes w
  cells c w bytes held below = elim (cases_Bool (in_mask group mask c)) [
    | inl hit ↦
        ((fitting fixed s k id view seat).written (129 * c + w) (cell_word bytes w) (written c w bytes hit (rw hit at held) below)).1
    | inr miss ↦ k.words.cells c w bytes (rw miss at held) below
  ]

  words : StandFor fixed (set s.words group (bit_or found mask)) (after_call who (Commit group piece mask) state)
  words = record {
    count = length-set s.words group (bit_or found mask) ∙ k.words.count;
    held = bits_shown fixed (λ g. g) (λ g h e. e) s.words state.held (chunk_bytes piece) k.words.held group mask there (omega (arith, there, k.words.count)) (λ c hit. (both c hit).1);
    claimed = λ c below.
        bits_left fixed (claim_place fixed) s.words (λ d. is_held state d || is_claimed state d) group (bit_or found mask) (λ g low e. omega (arith, e, there)) k.words.claimed c below
        ∙ still_taken (in_mask group mask c) (chunk_bytes piece c) (state.held c) (state.claim c) (λ hit. (both c hit).1) (λ hit. claims-claimed who state c (both c hit).0);
    cells = λ c w bytes held below. cells_beside fixed s k id view seat group (bit_or found mask) (129 * c + w) (omega (arith, there)) ∙ cells c w bytes held below;
    recorded = left s.words group (bit_or found mask) (length_place fixed) (λ e. omega (arith, e, there)) ∙ k.words.recorded;
  }

  pub publish_steps : Steps fixed s id group (bit_or found mask) (λ new. Publishes group piece mask view new)
  publish_steps = did_step fixed s k id view seat (Commit group piece mask) group (bit_or found mask) (omega (arith, there)) refl (accepted, marked) words
      (ended_written fixed s k id view seat (after_call who (Commit group piece mask) state) group mask group (bit_or found mask) (omega (arith, there))
      (λ c miss. ap (λ (b : Bool). if b then None else state.claim c) miss))
      (λ number c never. cells_beside fixed s k id view seat group (bit_or found mask) number (omega (arith, there)))

module _ (fixed : Fixed) (s : Table Unit (List SeatView)) (k : RuleHolds fixed s) (id : ℕ) (view : SeatView) (seat : get_elem? s.views id ≡ some (view ∷ []))
    (group mask : ℕ) (piece : Piece) (there : group < groups fixed) (accepted : IsAcceptedPiece fixed piece)
    (known : (state_after view.seen).recorded ≡ Some (length_of piece)) (written : AreParentsWritten view group mask piece) where
  abbrev place : ℕ
  place = parent_held_place fixed group

  abbrev found_word : ℕ
  found_word = slice_index s.words place

  abbrev later : List ℕ
  later = set s.words place (bit_or found_word mask)

  abbrev parents : ℕ → Option (List ℕ)
  parents = (state_after k.history).parents

  abbrev new : SeatView
  new = record view { seen = k.history ++ event_of view (Parents group piece (Stored mask)) ∷ []; storing = []; parent_words = [] }

  abbrev parents_by : ℕ → Option (List ℕ)
  parents_by m = if in_mask group mask m then parent_bytes piece m else parents m

  abbrev storer_then : ℕ → Option (ℕ × ℕ)
  storer_then m = if in_mask group mask m then None else k.parents.storer m

  its_old : FitsParents fixed s.words k.parents.storer id 0 view
  its_old = k.parents.fit id 0 view (its fixed s k id view new seat refl)

  ours : (m : ℕ) → in_mask group mask m ≡ true → is_storing view m ≡ true
  ours m hit = ap (λ (bs : List Boundaries). is_boundary bs m) written.only ∙ rw hit refl

  owner : (m : ℕ) → in_mask group mask m ≡ true → k.parents.storer m ≡ Some (id, 0)
  owner m hit = its_old.owned m (ours m hit)

  stored_bit : (m : ℕ) → in_mask group mask m ≡ true → is_some (k.parents.storer m) ≡ true
  stored_bit m hit = ap (λ (o : Option (ℕ × ℕ)). is_some o) (owner m hit)

  -- the recorded length is the one that the seat saw
  recorded : (state_after k.history).recorded ≡ Some (length_of piece)
  recorded = still fixed s k id view seat (λ t. t.recorded ≡ Some (length_of piece)) (λ more legal is. record_lasts fixed view.seen more (length_of piece) legal is) known

  right : IsRightReply fixed (state_after k.history) (names_of view) (Parents group piece (Stored mask))
  right = (accepted, (recorded, λ m hit. (written.held m hit, k.parents.stand.apart m (stored_bit m hit))))

  cells_left : (number : ℕ) → parent_at fixed later number ≡ parent_at fixed s.words number
  cells_left number = left s.words place (bit_or found_word mask) (parent_word_place fixed number) (λ e. omega (arith, e, there))

  stand : StandForParents fixed later parents_by storer_then
  stand = record {
    held = bits_shown fixed (parent_held_place fixed) (λ g h e. omega (arith, e)) s.words parents (parent_bytes piece) k.parents.stand.held group mask there
        (omega (arith, there, k.words.count)) written.held;
    claimed = λ m below.
        bits_left fixed (parent_claim_place fixed) s.words (λ n. is_some (parents n) || is_some (k.parents.storer n)) place (bit_or found_word mask)
        (λ g low e. omega (arith, e, there)) k.parents.stand.claimed m below
        ∙ still_taken (in_mask group mask m) (parent_bytes piece m) (parents m) (k.parents.storer m) (written.held m) (stored_bit m);
    cells = λ m w bytes held below. cells_left (8 * m + w) ∙ elim (cases_Bool (in_mask group mask m)) [
      | inl hit ↦ (its_old.written (8 * m + w) (parent_word bytes w) (written.words m w bytes hit (rw hit at held) below)).1
      | inr miss ↦ k.parents.stand.cells m w bytes (rw miss at held) below
    ];
    apart = λ m is. elim (cases_Bool (in_mask group mask m)) [
      | inl hit ↦ let never : false ≡ true = rw hit at is in cc
      | inr miss ↦ rw miss (k.parents.stand.apart m (rw miss at is))
    ];
  }

  owned_then : (m i j : ℕ) → i ≢ id → k.parents.storer m ≡ Some (i, j) → storer_then m ≡ Some (i, j)
  owned_then m i j other is = let was = owner m in grind (arith, nat_tests)

  by_then : (m i j : ℕ) → storer_then m ≡ Some (i, j) → StoresAt (set s.views id (new ∷ [])) i j m
  by_then m i j is = elim (cases_Bool (in_mask group mask m)) [
    | inl hit ↦ let never : None ≡ Some (i, j) = rw hit at is in cc
    | inr miss ↦ stores_on s.views id view new seat m (λ h.
        let never : false ≡ true = sym (ap (λ (bs : List Boundaries). is_boundary bs m) written.only ∙ rw miss refl) ∙ h in absurd (false≢true never))
        i j (k.parents.by m i j (rw miss at is))
  ]

  pub publish_parents_steps : Steps fixed s id place (bit_or found_word mask) (λ new. PublishesParents group piece mask view new)
  publish_parents_steps =
      let t = parents_step fixed s k id view seat place (bit_or found_word mask) (omega arith) group piece (Stored mask) right
      (parents_then fixed s k id view new seat refl later parents_by storer_then stand (fits_none fixed later storer_then id 0 new refl refl) owned_then
      (λ number i j other is. cells_left number) by_then) in
      record { new = t.new; kept = t.kept; told = record { called = t.told.0; written_are = t.told.1 } }
