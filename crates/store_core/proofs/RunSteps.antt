-- What a run stands for after a step: Claim, GiveBack, Publish, Hash and Write.
use Rattle.std.proofs.lemmas.Bool.Decides.{nat_tests}
use Rattle.std.proofs.Common.{arith, ◌≡◌, ◌≢◌, ℕ, ◌/◌, ◌<◌, nat_lt, ◌==◌, Bool, true, ◌&&◌, ◌||◌, if◌then◌else◌, List, slice_get, Option, None, Some, option_map, refl, sym, ap, subst, ◌∙◌, inl, inr}
use Rattle.std.proofs.lemmas.Bool.{and_parts, cases_Bool}
use Rattle.b3tree.specs.declared.values.Hash.{Hash as Digest}
use Rattle.bao_check.specs.declared.checked.Checked.{Checked}
use Rattle.bao_check.specs.Checked.{HoldsLast}
use Rattle.holders.specs.declared.fixed.Fixed.{Fixed}
use Rattle.store_core.specs.declared.history.Call.TheVariants.{Take, Give, Commit}
use Rattle.store_core.specs.declared.history.Event.{Event}
use Rattle.holders.specs.declared.piece.Piece.{Piece}
use Rattle.store_core.specs.declared.micro.MicroStep.{MicroStep}
use Rattle.store_core.specs.declared.micro.MicroStep.TheVariants.{Claim, Hash, Write, Publish, GiveBack, Settle}
use Rattle.store_core.specs.declared.micro.Reply.{Reply}
use Rattle.store_core.specs.declared.micro.Reply.TheVariants.{Granted, Committed, Given}
use Rattle.store_core.specs.declared.schedule.Player.{Player}
use Rattle.store_core.specs.declared.schedule.ScheduleRun.{ScheduleRun}
use Rattle.store_core.specs.Events.{IsRightReply, after_call}
use Rattle.store_core.specs.Histories.{AreLegalFrom, run}
use Rattle.store_core.specs.Machine.{Machine, MachineSeat, current_holds, seat_has, start, store_of}
use Rattle.holders.specs.Room.{groups}
use Rattle.store_core.specs.Masks.{IsMaskOf, in_mask}
use Rattle.holders.specs.Pieces.{holds_chunk, piece_of}
use Rattle.store_core.specs.Schedules.{HasTail, IsLegalStep, IsReply, TakesBytes, after_step, commit_by, step_events}
use Rattle.store_core.specs.MachineInvariant.{IsSoundMachine}
use Rattle.store_core.specs.Slots.{caller}
use Rattle.store_core.specs.ScheduleRuns.{HasRun, IsCleared, IsPlayer, StandsForSeat, IsStepped, IsTakenPlayer, StandsFor, is_marked, player_in, reading_of}
use Rattle.store_core.specs.States.{State, claims, empty}
use Rattle.store_core.specs.Stores.{IsOf, fixed_of, state_of}
use Rattle.store_core.proofs.Bits.{has_bit-or}
use Rattle.store_core.proofs.Lasting.{legal-join, run-append}
use Rattle.store_core.proofs.Running.{one_step, runs_more}
use Rattle.store_core.proofs.MachineInvariants.{IsStep, claimed_hidden, claims_seat}
use Rattle.store_core.proofs.StepEvents.{write_step}
use Rattle.store_core.proofs.SlotStates.{mask_same}
use Rattle.store_core.proofs.Tells.{masked}

-- Players. What is taken stands for the seat.
taken_seat : (fixed : Fixed) (was : Option Player) (player : Player) (seat : MachineSeat) → StandsForSeat fixed was seat → IsTakenPlayer was player → IsPlayer fixed player seat
taken_seat fixed was player seat is taken = grind (arith, nat_tests)

-- the seat's player is this one, and the other seats' are the same
abbrev pub IsPut : ℕ → Player → List Player → List Player → Type 0
IsPut n player old new = (k : ℕ) → player_in new k ≡ (if k == n then Some player else player_in old k)

-- as it is where one was taken out, and one with its number put in
pub put_back : (old mid new : List Player) (n : ℕ) (player : Player) → player.number ≡ n → ((k : ℕ) → k ≢ n → player_in mid k ≡ player_in old k)
    → ((k : ℕ) → player_in new k ≡ (if player.number == k then Some player else player_in mid k)) → IsPut n player old new
put_back old mid new n player number others put k = grind (arith, nat_tests)

-- a player that is put back stands for its seat, which changed
pub put_seats : (fixed : Fixed) (old new : List Player) (m : Machine) (n : ℕ) (player : Player) (seat : MachineSeat) → ((k : ℕ) → StandsForSeat fixed (player_in old k) (m.seat k))
    → IsPut n player old new → IsPlayer fixed player seat → (k : ℕ) → StandsForSeat fixed (player_in new k) (if k == n then seat else m.seat k)
put_seats fixed old new m n player seat were put is k = rw (put k) (elim (cases_Bool (k == n)) [ inl hit ↦ rw hit is | inr miss ↦ rw miss (were k) ])

-- or didn't
pub kept_seats : (fixed : Fixed) (old new : List Player) (m : Machine) (n : ℕ) (player : Player) → ((k : ℕ) → StandsForSeat fixed (player_in old k) (m.seat k))
    → IsPut n player old new → IsPlayer fixed player (m.seat n) → (k : ℕ) → StandsForSeat fixed (player_in new k) (m.seat k)
kept_seats fixed old new m n player were put is k = grind (arith, nat_tests)

-- a Hash is legal of a piece of the list that is of the store
pub may_hash : (fixed : Fixed) (pieces : List Checked) (m : Machine) (n i : ℕ) (piece : Checked) → slice_get pieces i ≡ Some piece → IsOf fixed piece → IsLegalStep fixed pieces m (Hash n i)
may_hash fixed pieces m n i piece found of_store = record { piece = piece; is = found; root = ap (λ (h : Digest). h.0) of_store.root; mode = of_store.mode }

-- a step with what stands after it
pub record IsNext (fixed : Fixed) (pieces : List Checked) (t : State) (players : List Player) (written : List Bool) (m : Machine) (step : MicroStep) (reply : Option Reply) : Type 0 where
  pub legal : IsLegalStep fixed pieces m step
  pub right : IsReply fixed m step reply
  pub stands : StandsFor fixed t players written (after_step fixed pieces m step reply)

-- the run took a step
pub stepped : {fixed : Fixed} {pieces : List Checked} {steps : List MicroStep} {replies : List Reply} {history : List Event} {m : Machine} {step : MicroStep} {reply : Option Reply} {old new : ScheduleRun}
    → HasRun fixed pieces steps replies history m old → fixed_of new.store ≡ fixed_of old.store → TakesBytes pieces step
    → IsNext (fixed_of old.store) pieces (state_of new.store) new.players.items new.written.items m step reply → IsStepped fixed pieces steps replies history m step reply new
stepped {fixed} {pieces} {steps} {replies} {history} {m} {step} {reply} {old} {new} has same bytes next =
    let legal : IsLegalStep fixed pieces m step = subst (λ (f : Fixed). IsLegalStep f pieces m step) has.fixed_is next.legal in
    let right : IsReply fixed m step reply = subst (λ (f : Fixed). IsReply f m step reply) has.fixed_is next.right in
    let served : IsSoundMachine fixed m = subst (λ (f : Fixed). IsSoundMachine f m) has.fixed_is has.served in
    let done : IsStep fixed m (after_step fixed pieces m step reply) (step_events fixed m step reply) = one_step fixed pieces m step reply bytes served legal right in
    let now : fixed_of new.store ≡ fixed = same ∙ has.fixed_is in
    record {
      legal = legal;
      right = right;
      has = record {
        runs = runs_more fixed pieces start steps replies history m step reply has.runs legal right;
        legal = legal-join fixed empty history (step_events fixed m step reply) has.legal
            (subst (λ (s : State). AreLegalFrom fixed s (step_events fixed m step reply)) (sym has.events) done.legal);
        events = run-append empty history (step_events fixed m step reply) ∙ ap (λ (s : State). run s (step_events fixed m step reply)) has.events ∙ done.state;
        fixed_is = now;
        served = subst (λ (f : Fixed). IsSoundMachine f (after_step fixed pieces m step reply)) (sym now) done.served;
        stands = subst (λ (f : Fixed). StandsFor f (state_of new.store) new.players.items new.written.items (after_step fixed pieces m step reply)) (sym now)
            (subst (λ (f : Fixed). StandsFor f (state_of new.store) new.players.items new.written.items (after_step f pieces m step reply)) has.fixed_is next.stands);
      };
    }

-- a step of a seat, from what stands before it
module _ {fixed : Fixed} (pieces : List Checked) {s : State} {old : List Player} {written : List Bool} {m : Machine} (n : ℕ) (served : IsSoundMachine fixed m) (is : StandsFor fixed s old written m) where
  -- the state after its event
  state_next : {t : State} {next : Machine} {events : List Event} → IsStep fixed m next events → t ≡ run s events → t ≡ store_of next
  state_next {t} {next} {events} done e = e ∙ ap (λ (x : State). run x events) is.state ∙ done.state

  -- what the seat claims, in the state and in the words
  claims_at : (c : ℕ) → claims (caller n) s c ≡ seat_has m n c
  claims_at c = ap (λ (x : State). claims (caller n) x c) is.state ∙ claims_seat m n c

  -- Claim
  pub claim_next : {t : State} {group want mask : ℕ} → group < groups fixed → IsRightReply fixed s (caller n) (Take group want mask) → t ≡ after_call (caller n) (Take group want mask) s
      → IsNext fixed pieces t old written m (Claim n group want) (Some (Granted mask))
  claim_next {t} {group} {want} {mask} legal done after = grind (arith, nat_tests, mask_same, state_next, one_step)

  -- GiveBack
  pub give_next : {t : State} {cleared : List Bool} {group mask given : ℕ} → group < groups fixed → IsRightReply fixed s (caller n) (Give group mask given)
      → t ≡ after_call (caller n) (Give group mask given) s → IsCleared (in_mask group given) written cleared
      → IsNext fixed pieces t old cleared m (GiveBack n group mask) (Some (Given given))
  give_next {t} {cleared} {group} {mask} {given} legal done after clear = grind (arith, nat_tests, mask_same, claims_at, masked, state_next, one_step)

  -- the seat's player was taken
  module _ (player : Player) (taken : IsTakenPlayer (player_in old n) player) where
    pub own : IsPlayer fixed player (m.seat n)
    own = taken_seat fixed (player_in old n) player (m.seat n) (is.seats n) taken

    -- its current piece, in the words
    pub current : (piece : Checked) → player.piece ≡ Some piece → (m.seat n).piece ≡ Some (piece_of fixed.base piece)
    current piece there = own.piece ∙ ap (λ (x : Option Checked). option_map (piece_of fixed.base) x) there

    -- Settle. It is legal of a piece with the last chunk, and of no other.
    pub may_settle : {piece : Checked} → player.piece ≡ Some piece → HoldsLast piece → IsLegalStep fixed pieces m (Settle n)
    may_settle {piece} has last = subst (λ (o : Option Piece). HasTail o) (sym (current piece has)) last

    -- Publish. It is legal where all words are marked.
    pub may_publish : {group : ℕ} {piece : Checked} → player.piece ≡ Some piece → group < groups fixed
        → ((c w : ℕ) → c / 64 ≡ group → claims (caller n) s c ≡ true → holds_chunk (piece_of fixed.base piece) c ≡ true → w < 129 → is_marked written c w ≡ true)
        → IsLegalStep fixed pieces m (Publish n group)
    may_publish {group} {piece} has there filled = grind (arith, nat_tests, current, claimed_hidden, claims_at)

    -- a legal one is of a seat with a current piece, all of whose words are marked
    pub publish_filled : {group : ℕ} {piece : Checked} → player.piece ≡ Some piece → IsLegalStep fixed pieces m (Publish n group)
        → (c w : ℕ) → c / 64 ≡ group → claims (caller n) s c ≡ true → holds_chunk (piece_of fixed.base piece) c ≡ true → w < 129 → is_marked written c w ≡ true
    publish_filled {group} {piece} has legal c w of_group ours holds below =
        let mine : seat_has m n c ≡ true = sym (claims_at c) ∙ ours in
        let wrote : (m.seat n).written c w ≡ true = legal.2 c w of_group mine (ap (λ (o : Option Piece). current_holds o c) (current piece has) ∙ holds) below in
        (and_parts (seat_has m n c) (is_marked written c w) (sym (is.wrote n c w below (claimed_hidden fixed m n c served.sound mine)) ∙ wrote)).1

    -- Write. It is legal of a chunk that the player's piece holds and the seat claims.
    pub may_write : (c w : ℕ) → w < 129 → claims (caller n) s c ≡ true → current_holds (option_map (piece_of fixed.base) player.piece) c ≡ true → IsLegalStep fixed pieces m (Write n c w)
    may_write c w fits ours holds = (fits, sym (claims_at c) ∙ ours, ap (λ (o : Option Piece). current_holds o c) own.piece ∙ holds)

    -- and only of one
    pub write_legal : (c w : ℕ) → IsLegalStep fixed pieces m (Write n c w) → (claims (caller n) s c ≡ true) × (current_holds (option_map (piece_of fixed.base) player.piece) c ≡ true)
    write_legal c w legal = (claims_at c ∙ legal.1, sym (ap (λ (o : Option Piece). current_holds o c) own.piece) ∙ legal.2)

    -- The player was put back, perhaps with another piece or read.
    module _ (now : Player) (new : List Player) (put : IsPut n now old new) where
      pub publish_next : {t : State} {group mask : ℕ} {piece : Checked} → now ≡ player → player.piece ≡ Some piece → group < groups fixed
          → ((c w : ℕ) → c / 64 ≡ group → claims (caller n) s c ≡ true → holds_chunk (piece_of fixed.base piece) c ≡ true → w < 129 → is_marked written c w ≡ true)
          → IsRightReply fixed s (caller n) (Commit group (piece_of fixed.base piece) mask) → t ≡ after_call (caller n) (Commit group (piece_of fixed.base piece) mask) s
          → IsNext fixed pieces t new written m (Publish n group) (Some (Committed mask))
      publish_next {t} {group} {mask} {piece} stays has there filled done after =
          let test : ℕ → Bool = λ c. seat_has m n c && current_holds (m.seat n).piece c in
          let chosen : IsMaskOf group mask test =
          mask_same group mask (λ c. claims (caller n) s c && holds_chunk (piece_of fixed.base piece) c) test
          (λ c of_group. ap (λ (b : Bool). b && holds_chunk (piece_of fixed.base piece) c) (claims_at c)
          ∙ ap (λ (o : Option Piece). seat_has m n c && current_holds o c) (sym (current piece has))) done.1 in
          let right : IsReply fixed m (Publish n group) (Some (Committed mask)) = (mask, refl, chosen) in
          let legal : IsLegalStep fixed pieces m (Publish n group) = may_publish has there filled in
          record {
            legal = legal;
            right = right;
            stands = record {
              state = state_next (one_step fixed pieces m (Publish n group) (Some (Committed mask)) tt served legal right)
                  (after ∙ ap (λ (o : Option Piece). run s (commit_by n group o mask)) (sym (current piece has)));
              seats = kept_seats fixed old new m n now is.seats put (subst (λ (p : Player). IsPlayer fixed p (m.seat n)) (sym stays) own);
              wrote = λ k c w below dark. grind (arith, nat_tests, is.wrote k c w below, has_bit-or);
              clean = λ c w below none dark. grind (arith, nat_tests, is.clean c w below, has_bit-or);
            };
          }

      -- Hash
      pub hash_next : {cleared : List Bool} {i : ℕ} {piece : Checked} → slice_get pieces i ≡ Some piece → IsOf fixed piece
          → IsCleared (λ c. nat_lt c fixed.capacity && claims (caller n) s c) written cleared → now.piece ≡ Some piece → now.reading ≡ player.reading
          → IsNext fixed pieces s new cleared m (Hash n i) None
      hash_next {cleared} {i} {piece} found of_store clear has read =
          record {
            legal = may_hash fixed pieces m n i piece found of_store;
            right = refl;
            stands = record {
              state = is.state;
              seats = put_seats fixed old new m n now _ is.seats put (record {
                piece = ap (λ (o : Option Checked). option_map (piece_of fixed.base) o) (found ∙ sym has);
                reading = own.reading ∙ sym (ap (λ o. option_map reading_of o) read);
                of = λ p there. let same : Some piece ≡ Some p = sym has ∙ there in let e : piece ≡ p = cc in subst (λ (x : Checked). IsOf fixed x) e of_store;
              });
              wrote = λ k c w below dark. grind (arith, nat_tests, is.wrote k c w below dark, clear c w below, claims_at c, served.sound.claimed_below c);
              clean = λ c w below none dark. grind (arith, nat_tests, is.clean c w below none dark, clear c w below);
            };
          }

      pub write_next : {marked : List Bool} {c w : ℕ} → now ≡ player → w < 129 → claims (caller n) s c ≡ true → current_holds (option_map (piece_of fixed.base) player.piece) c ≡ true
          → ((d v : ℕ) → v < 129 → is_marked marked d v ≡ ((d == c) && (v == w) || is_marked written d v)) → IsNext fixed pieces s new marked m (Write n c w) None
      write_next {marked} {c} {w} stays fits ours holds mark =
          let mine : seat_has m n c ≡ true = sym (claims_at c) ∙ ours in
          let dark_at : (d : ℕ) → d ≡ c → seat_has m n d ≡ true = λ d e. subst (λ (x : ℕ). seat_has m n x ≡ true) (sym e) mine in
          let is_now : IsPlayer fixed now (m.seat n) = subst (λ (p : Player). IsPlayer fixed p (m.seat n)) (sym stays) own in
          record {
            legal = may_write c w fits ours holds;
            right = refl;
            stands = record {
              state = is.state ∙ (write_step fixed pieces m n c w served mine).state;
              seats = put_seats fixed old new m n now _ is.seats put (record { piece = is_now.piece; reading = is_now.reading; of = is_now.of });
              wrote = λ k d v below dark. grind (arith, nat_tests, is.wrote k d v below dark, mark d v below);
              clean = λ d v below none dark. grind (arith, nat_tests, is.clean d v below none dark, mark d v below);
            };
          }
