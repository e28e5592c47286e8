-- Parents that lone seats store: all that the piece holds and that they have not seen held.
use Rattle.std.proofs.Common.{◌≡◌, ◌≢◌, ◌↔◌, ℕ, ◌%◌, nat_lt, Bool, not, ◌&&◌, is_some, List, [], ◌∷◌, Option, Some, Result, IfOk, IfErr, Ok, Err, refl, sym, ap, subst, ◌∙◌}
use Rattle.bao_check.specs.declared.checked.Checked.{Checked}
use Rattle.store_core.specs.declared.fault.StoreFault.{StoreFault}
use Rattle.store_core.specs.declared.fault.StoreFault.TheVariants as faults
use Rattle.holders.specs.declared.fixed.Fixed.{Fixed}
use Rattle.store_core.specs.declared.history.Call.{Call}
use Rattle.store_core.specs.declared.history.Call.TheVariants.{Parents}
use Rattle.store_core.specs.declared.history.Event.{Event}
use Rattle.holders.specs.declared.piece.Piece.{Piece}
use Rattle.store_core.specs.declared.history.Storing.{Storing}
use Rattle.store_core.specs.declared.history.Storing.TheVariants.{OtherLength, Stored}
use Rattle.store_core.specs.declared.store.Store.{Store}
use Rattle.store_core.specs.declared.view.SeatView.{SeatView}
use Rattle.store_core.specs.Histories.{state_after}
use Rattle.store_core.specs.Knowledge.{AreAllNames, Called, LooksRound}
use Rattle.store_core.specs.Masks.{IsMaskOf, has_bit}
use Rattle.holders.specs.Pieces.{holds_parent, length_of, piece_of}
use Rattle.store_core.specs.Slots.{caller}
use Rattle.store_core.specs.States.{State}
use Rattle.store_core.specs.Stores.{DidStore, IsEvent, IsOf, IsSame, IsUnstored, fixed_of, state_of}
use Rattle.store_core.proofs.Tells.{mask_unique}
use Rattle.store_steps.specs.Tells.{IsStoringNow}
use Rattle.store_shared.specs.Grips.{Gripped}
use Rattle.store_shared.specs.Parents.{AreAllParents}
use Rattle.store_shared.specs.declared.fault.ParentsFault.{ParentsFault}
use Rattle.store_shared.specs.declared.fault.ParentsFault.TheVariants as unstored
use Rattle.store_shared.specs.Calls.{SeatIsUnstored}
use Rattle.determined_stores.specs.Alone.{AnswerAlike, AreAlike, IsLone, StandsAlike, store_fault}
use Rattle.determined_stores.proofs.Lone.{called_alone, looked_alone}
use Rattle.determined_stores.proofs.Pairs.{neither, other_alone, same_after, stayed}
use Rattle.determined_stores.proofs.Partners.{stands_after, stands_on}

abbrev storing : ℕ → Piece → Storing → Call
storing group piece answer = Parents group piece answer

-- the masks of all parents in two states with the same
one_mask : (group m n : ℕ) (piece : Piece) (s t : ℕ → Option (List ℕ)) → t ≡ s → IsMaskOf group m (λ b. holds_parent piece b && not (is_some (s b)))
    → IsMaskOf group n (λ b. holds_parent piece b && not (is_some (t b))) → m ≡ n
one_mask group m n piece s t same is also =
    mask_unique group m n (λ b. holds_parent piece b && not (is_some (s b))) is
    (subst (λ (f : ℕ → Option (List ℕ)). IsMaskOf group n (λ b. holds_parent piece b && not (is_some (f b)))) same also)

-- what the recorded length was where a lone seat's parents were stored, and where they were not
stored_length : (old new later : SeatView) (group m : ℕ) (piece : Piece) → AreAlike old old → Called (Parents group piece (Stored m)) old new → LooksRound new later
    → (state_after old.seen).recorded ≡ Some (length_of piece)
stored_length old new later group m piece alike did looked = (called_alone old new later (Parents group piece (Stored m)) alike.alone did looked).right.1.0

other_length : (old new later : SeatView) (group : ℕ) (piece : Piece) → AreAlike old old → Called (Parents group piece OtherLength) old new → LooksRound new later
    → (state_after old.seen).recorded ≢ Some (length_of piece)
other_length old new later group piece alike did looked = (called_alone old new later (Parents group piece OtherLength) alike.alone did looked).right.1

-- the mask that an answer has
abbrev of_storing : Storing → ℕ
of_storing OtherLength = 0
of_storing (Stored m) = m

-- parents that lone grips store
module _ (one new one' other next other' : SeatView) (group : ℕ) (piece : Piece) (alike : AreAlike one other) (looked : LooksRound new one') (round : LooksRound next other') where
  past_same : state_after other.seen ≡ state_after one.seen
  past_same = ap (λ (h : List Event). state_after h) alike.seen_are

  itself : (view : SeatView) → IsLone view → AreAlike view view
  itself view alone = record { alone = alone; fixed_are = refl; names_are = refl; seen_are = refl }

  storings_one : (r s : Storing) → Called (Parents group piece r) one new → (AreAllNames one.names → AreAllParents one group piece r)
      → Called (Parents group piece s) other next → (AreAllNames other.names → AreAllParents other group piece s) → (r ≡ s) × AreAlike one' other'
  storings_one OtherLength OtherLength did all too also =
      (refl, same_after one new one' other next other' (Parents group piece OtherLength) (Parents group piece OtherLength) alike did looked too round refl)
  storings_one OtherLength (Stored n) did all too also =
      absurd (other_length one new one' group piece (itself one alike.alone) did looked
      (ap (λ (s : State). s.recorded) (sym past_same) ∙ stored_length other next other' group n piece (itself other (other_alone one other alike)) too round))
  storings_one (Stored m) OtherLength did all too also =
      absurd (other_length other next other' group piece (itself other (other_alone one other alike)) too round
      (ap (λ (s : State). s.recorded) past_same ∙ stored_length one new one' group m piece (itself one alike.alone) did looked))
  storings_one (Stored m) (Stored n) did all too also =
      let is : m ≡ n = one_mask group m n piece (state_after one.seen).parents (state_after other.seen).parents (ap (λ (s : State). s.parents) past_same) (all alike.alone.all)
      (also (other_alone one other alike).all) in (
        ap (λ (k : ℕ). Stored k) is,
        same_after one new one' other next other' (Parents group piece (Stored m)) (Parents group piece (Stored n)) alike did looked too round
            (ap (λ (k : ℕ). Parents group piece (Stored k)) is),
      )

-- Two lone seats.
module _ (a b : Fixed) (one new : Gripped) (one' : SeatView) (other next : Gripped) (other' : SeatView) (group : ℕ) (piece : Checked) (alike : AreAlike one.view other.view)
    (same : a ≡ b) (looked : LooksRound new.view one') (round : LooksRound next.view other') where
  storings : (r s : Storing) → Called (Parents group (piece_of a.base piece) r) one.view new.view → (AreAllNames one.view.names → AreAllParents one.view group (piece_of a.base piece) r)
      → Called (Parents group (piece_of a.base piece) s) other.view next.view → (AreAllNames other.view.names → AreAllParents other.view group (piece_of a.base piece) s) → (r ≡ s) × AreAlike one' other'
  storings = storings_one one.view new.view one' other.view next.view other' group (piece_of a.base piece) alike looked round

  -- both stores have the same root, mode and first chunk
  parents_one : (r s : Result ℕ ParentsFault) → (r ≡ Err unstored.OtherRoot ↔ (¬ IsOf a piece)) → (s ≡ Err unstored.OtherRoot ↔ (¬ IsOf a piece))
      → IfOk r (λ m. Called (Parents group (piece_of a.base piece) (Stored m)) one.view new.view) → IfErr r (λ e. SeatIsUnstored a group piece e one new)
      → (AreAllNames one.view.names → IfOk r (λ m. AreAllParents one.view group (piece_of a.base piece) (Stored m)))
      → IfOk s (λ m. Called (Parents group (piece_of a.base piece) (Stored m)) other.view next.view) → IfErr s (λ e. SeatIsUnstored a group piece e other next)
      → (AreAllNames other.view.names → IfOk s (λ m. AreAllParents other.view group (piece_of a.base piece) (Stored m))) → (r ≡ s) × AreAlike one' other'
  parents_one (Ok m) (Ok n) p q did kept all too stays also =
      let t = storings (Stored m) (Stored n) did all too also in (ap (λ (r : Storing). Ok (of_storing r)) t.0, t.1)
  parents_one (Ok m) (Err unstored.OtherRoot) p q did kept all too stays also =
      let never : Ok m ≡ Err unstored.OtherRoot = p.1 (q.0 refl) in cc
  parents_one (Ok m) (Err unstored.OtherLength) p q did kept all too stays also =
      let never : Stored m ≡ OtherLength = (storings (Stored m) OtherLength did all stays (λ every. tt)).0 in cc
  parents_one (Err unstored.OtherRoot) (Ok n) p q none did all too stays also =
      let never : Ok n ≡ Err unstored.OtherRoot = q.1 (p.0 refl) in cc
  parents_one (Err unstored.OtherLength) (Ok n) p q none did all too stays also =
      let never : OtherLength ≡ Stored n = (storings OtherLength (Stored n) did (λ every. tt) too also).0 in cc
  parents_one (Err unstored.OtherRoot) (Err unstored.OtherRoot) p q none did all nobody too also =
      (refl, neither one.view one' other.view other' alike (stayed one new one' did looked) (stayed other next other' too round))
  parents_one (Err unstored.OtherLength) (Err unstored.OtherLength) p q none did all nobody too also =
      (refl, (storings OtherLength OtherLength did (λ every. tt) too (λ every. tt)).1)
  parents_one (Err unstored.OtherRoot) (Err unstored.OtherLength) p q none did all nobody too also =
      let never : Err unstored.OtherLength ≡ Err unstored.OtherRoot = q.1 (p.0 refl) in cc
  parents_one (Err unstored.OtherLength) (Err unstored.OtherRoot) p q none did all nobody too also =
      let never : Err unstored.OtherLength ≡ Err unstored.OtherRoot = p.1 (q.0 refl) in cc

  pub parents_alike : (r s : Result ℕ ParentsFault) → (r ≡ Err unstored.OtherRoot ↔ (¬ IsOf a piece)) → (s ≡ Err unstored.OtherRoot ↔ (¬ IsOf b piece))
      → IfOk r (λ m. Called (Parents group (piece_of a.base piece) (Stored m)) one.view new.view) → IfErr r (λ e. SeatIsUnstored a group piece e one new)
      → (AreAllNames one.view.names → IfOk r (λ m. AreAllParents one.view group (piece_of a.base piece) (Stored m)))
      → IfOk s (λ m. Called (Parents group (piece_of b.base piece) (Stored m)) other.view next.view) → IfErr s (λ e. SeatIsUnstored b group piece e other next)
      → (AreAllNames other.view.names → IfOk s (λ m. AreAllParents other.view group (piece_of b.base piece) (Stored m))) → (r ≡ s) × AreAlike one' other'
  parents_alike r s p q did kept all too stays also =
      let back : b ≡ a = sym same in
      parents_one r s p (subst (λ (f : Fixed). s ≡ Err unstored.OtherRoot ↔ (¬ IsOf f piece)) back q) did kept all
      (subst (λ (f : Fixed). IfOk s (λ m. Called (Parents group (piece_of f.base piece) (Stored m)) other.view next.view)) back too)
      (subst (λ (f : Fixed). IfErr s (λ e. SeatIsUnstored f group piece e other next)) back stays)
      (subst (λ (f : Fixed). AreAllNames other.view.names → IfOk s (λ m. AreAllParents other.view group (piece_of f.base piece) (Stored m))) back also)

-- A lone seat and a one-thread store.
module _ (fixed : Fixed) (store next : Store) (number : ℕ) (seat new : Gripped) (later : SeatView) (group : ℕ) (piece : Checked) (alike : StandsAlike store number seat.view)
    (same : fixed_of store ≡ fixed) (looked : LooksRound new.view later) where
  its : AreAlike seat.view seat.view
  its = record { alone = alike.alone; fixed_are = refl; names_are = refl; seen_are = refl }

  recorded_is : (state_of store).recorded ≡ (state_after seat.view.seen).recorded
  recorded_is = ap (λ (s : State). s.recorded) alike.state_is

  -- the store's event, of the piece as the shared store counts it
  its_event : (answer : Storing) → IsEvent store next (caller number) (Parents group (piece_of (fixed_of store).base piece) answer)
      → IsEvent store next (caller number) (Parents group (piece_of fixed.base piece) answer)
  its_event answer had = subst (λ (f : Fixed). IsEvent store next (caller number) (Parents group (piece_of f.base piece) answer)) same had

  was_stored : (m : ℕ) → Called (Parents group (piece_of fixed.base piece) (Stored m)) seat.view new.view → IsEvent store next (caller number) (Parents group (piece_of (fixed_of store).base piece) (Stored m))
      → StandsAlike next number later
  was_stored m did also =
      let had = its_event (Stored m) also in
      let call : Call = Parents group (piece_of fixed.base piece) (Stored m) in
      stands_after store next number seat.view later call alike (called_alone seat.view new.view later call alike.alone did looked).goes had.fixed had.after

  not_stored : IsSame store next → IsEvent store next (caller number) (Parents group (piece_of (fixed_of store).base piece) OtherLength) → Called (Parents group (piece_of fixed.base piece) OtherLength) seat.view new.view
      → StandsAlike next number later
  not_stored stays also did =
      let had = its_event OtherLength also in
      let call : Call = Parents group (piece_of fixed.base piece) OtherLength in
      stands_after store next number seat.view later call alike (called_alone seat.view new.view later call alike.alone did looked).goes had.fixed had.after

  refused_there : (f : StoreFault) → (◌≡◌ {A = Result ℕ StoreFault} (Err f) (Err faults.OtherRoot) ↔ (¬ IsOf (fixed_of store) piece))
      → (◌≡◌ {A = Result ℕ StoreFault} (Err f) (Err faults.OtherLength) ↔ (IsOf (fixed_of store) piece × ((state_of store).recorded ≢ Some (length_of (piece_of (fixed_of store).base piece)))))
      → (¬ ¬ IsOf (fixed_of store) piece) → ((state_of store).recorded ≢ Some (length_of (piece_of (fixed_of store).base piece))) → f ≢ faults.OtherLength → ⊥
  refused_there f root length of other differs = of (λ is.
      let same_fault : ◌≡◌ {A = Result ℕ StoreFault} (Err f) (Err faults.OtherLength) = length.1 (is, other) in
      let is_it : f ≡ faults.OtherLength = cc in differs is_it)

  pub parents_as_store : (r : Result ℕ ParentsFault) (s : Result ℕ StoreFault) → (r ≡ Err unstored.OtherRoot ↔ (¬ IsOf fixed piece))
      → (s ≡ Err faults.OtherRoot ↔ (¬ IsOf (fixed_of store) piece))
      → (s ≡ Err faults.OtherLength ↔ (IsOf (fixed_of store) piece × ((state_of store).recorded ≢ Some (length_of (piece_of (fixed_of store).base piece)))))
      → s ≢ Err faults.NoGroup
      → IfOk r (λ m. Called (Parents group (piece_of fixed.base piece) (Stored m)) seat.view new.view) → IfErr r (λ e. SeatIsUnstored fixed group piece e seat new)
      → (AreAllNames seat.view.names → IfOk r (λ m. AreAllParents seat.view group (piece_of fixed.base piece) (Stored m)))
      → IfOk s (λ m. DidStore store next group piece (Stored m))
      → IfOk s (λ m. IsMaskOf group m (λ b. holds_parent (piece_of (fixed_of store).base piece) b && not (is_some ((state_of store).parents b))))
      → IfErr s (λ f. IsUnstored store next group piece f)
      → AnswerAlike faults.Memory store_fault r s (StandsAlike next number later)
  parents_as_store (Ok m) (Ok n) p q length never did none all had whole kept =
      let is : m ≡ n = one_mask group m n (piece_of fixed.base piece) (state_after seat.view.seen).parents (state_of store).parents (ap (λ (s : State). s.parents) alike.state_is)
      (all alike.alone.all) whole in
      (is, was_stored m did (subst (λ (k : ℕ). IsEvent store next (caller number) (Parents group (piece_of (fixed_of store).base piece) (Stored k))) (sym is) (had (caller number))))
  parents_as_store (Ok m) (Err faults.Memory) p q length never did none all had whole kept = refl
  parents_as_store (Ok m) (Err faults.NoGroup) p q length never did none all had whole kept = absurd (never refl)
  parents_as_store (Ok m) (Err faults.OtherRoot) p q length never did none all had whole kept =
      let bad : Ok m ≡ Err unstored.OtherRoot = p.1 (subst (λ (f : Fixed). ¬ IsOf f piece) same (q.0 refl)) in cc
  parents_as_store (Ok m) (Err faults.OtherLength) p q length never did none all had whole kept =
      absurd ((length.0 refl).1 (recorded_is ∙ stored_length seat.view new.view later group m (piece_of fixed.base piece) its did looked))
  parents_as_store (Err unstored.OtherRoot) (Ok n) p q length never none did all had whole kept =
      let bad : Ok n ≡ Err faults.OtherRoot = q.1 (subst (λ (f : Fixed). ¬ IsOf f piece) (sym same) (p.0 refl)) in cc
  parents_as_store (Err unstored.OtherLength) (Ok n) p q length never none did all had whole kept =
      absurd (other_length seat.view new.view later group (piece_of fixed.base piece) its did looked (sym recorded_is ∙ (had (caller number)).right.1.0))
  parents_as_store (Err unstored.OtherRoot) (Err faults.OtherRoot) p q length never none did all had whole kept =
      (refl, stands_on store next number seat.view later alike (looked_alone seat.view later alike.alone (stayed seat new later did looked)) kept)
  parents_as_store (Err unstored.OtherRoot) (Err faults.Memory) p q length never none did all had whole kept =
      let bad : Err faults.Memory ≡ Err faults.OtherRoot = q.1 (subst (λ (f : Fixed). ¬ IsOf f piece) (sym same) (p.0 refl)) in cc
  parents_as_store (Err unstored.OtherRoot) (Err faults.NoGroup) p q length never none did all had whole kept = absurd (never refl)
  parents_as_store (Err unstored.OtherRoot) (Err faults.OtherLength) p q length never none did all had whole kept =
      let bad : Err faults.OtherLength ≡ Err faults.OtherRoot = q.1 (subst (λ (f : Fixed). ¬ IsOf f piece) (sym same) (p.0 refl)) in cc
  parents_as_store (Err unstored.OtherLength) (Err faults.OtherLength) p q length never none did all had whole kept =
      (refl, not_stored kept.0 (kept.1 (caller number)) did)
  parents_as_store (Err unstored.OtherLength) (Err faults.NoGroup) p q length never none did all had whole kept = absurd (never refl)
  parents_as_store (Err unstored.OtherLength) (Err faults.OtherRoot) p q length never none did all had whole kept =
      let bad : Err unstored.OtherLength ≡ Err unstored.OtherRoot = p.1 (subst (λ (f : Fixed). ¬ IsOf f piece) same (q.0 refl)) in cc
  parents_as_store (Err unstored.OtherLength) (Err faults.Memory) p q length never none did all had whole kept =
      absurd (refused_there faults.Memory q length
      (λ other. let bad : Err unstored.OtherLength ≡ Err unstored.OtherRoot = p.1 (subst (λ (f : Fixed). ¬ IsOf f piece) same other) in cc)
      (λ is. other_length seat.view new.view later group (piece_of fixed.base piece) its did looked (sym recorded_is ∙ is)) (λ e. cc))

-- boundaries that lone grips claim
pub claims_alike : (one new other next : SeatView) (group want m n a b : ℕ) → AreAlike one other → a ≡ b → IsStoringNow group m one new → IsStoringNow group n other next
    → (AreAllNames one.names → IsMaskOf group m (λ c. has_bit want (c % 64) && (nat_lt c a && not (is_some ((state_after one.seen).parents c)))))
    → (AreAllNames other.names → IsMaskOf group n (λ c. has_bit want (c % 64) && (nat_lt c b && not (is_some ((state_after other.seen).parents c)))))
    → (m ≡ n) × AreAlike new next × (new.storing ≡ next.storing)
claims_alike one new other next group want m n a b alike same did too all also =
    let test : ℕ → List Event → ℕ → Bool = λ k h c. has_bit want (c % 64) && (nat_lt c k && not (is_some ((state_after h).parents c))) in
    let theirs : IsMaskOf group n (test a one.seen) =
    subst (λ (k : ℕ). IsMaskOf group n (test k one.seen)) (sym same)
    (subst (λ (h : List Event). IsMaskOf group n (test b h)) alike.seen_are (also (other_alone one other alike).all)) in
    let is : m ≡ n = mask_unique group m n (test a one.seen) (all alike.alone.all) theirs in
    let after : AreAlike (record one { storing = record { group = group; mask = m } ∷ [] }) (record other { storing = record { group = group; mask = n } ∷ [] }) =
    record { alone = record { all = alike.alone.all; own = alike.alone.own }; fixed_are = alike.fixed_are; names_are = alike.names_are; seen_are = alike.seen_are } in (
      is,
      subst (λ (v : SeatView). AreAlike v next) (sym did)
          (subst (λ (v : SeatView). AreAlike (record one { storing = record { group = group; mask = m } ∷ [] }) v) (sym too) after),
      ap (λ (v : SeatView). v.storing) did ∙ ap (λ (k : ℕ). record { group = group; mask = k } ∷ []) is ∙ ap (λ (v : SeatView). v.storing) (sym too),
    )
