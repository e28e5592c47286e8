-- A one-thread store mirrors a history's state: its seats' numbers stand for names. So both give the same replies.
use Rattle.std.proofs.lemmas.Bool.Decides.{nat_tests}
use Rattle.std.proofs.Common.{◌≡◌, ℕ, ◌+◌, ◌-◌, ◌/◌, ◌%◌, ◌^◌, eqb-true, arith, zero, suc, nat_lt, ◌==◌, Bool, true, false, not, ◌&&◌, ◌||◌, if◌then◌else◌, List, [], ◌∷◌, map, Option, None, Some, is_some, option_map, refl, sym, ap, subst, ◌∙◌, inl, inr}
use Rattle.std.proofs.lemmas.Bool.{and_from, and_parts, both_ways, cases_Bool, false_from_ne_true, false≢true, lt-ltb}
use Rattle.holders.specs.declared.fixed.Fixed.{Fixed}
use Rattle.store_core.specs.declared.history.Call.{Call}
use Rattle.store_core.specs.declared.history.Call.TheVariants.{Commit, Give, Length, Parents, Read, Serve, Settle, Take}
use Rattle.store_core.specs.declared.history.Event.{Event}
use Rattle.holders.specs.declared.piece.Piece.{Piece}
use Rattle.store_core.specs.declared.history.Serving.{Serving}
use Rattle.store_core.specs.declared.history.Storing.{Storing}
use Rattle.store_core.specs.declared.store.Store.{Store}
use Rattle.bao_text.specs.declared.walk.Node.{Node}
use Rattle.bao_text.specs.declared.walk.Node.TheVariants.{Chunk, Parent}
use Rattle.bao_text.specs.NodeNames.{slice_names}
use Rattle.bao_text.specs.Texts.{length_text}
use Rattle.store_core.specs.Events.{IsRightReply, IsStoring, after, after_call, is_free}
use Rattle.store_core.specs.Laws.{IsSound, is_partial}
use Rattle.store_core.specs.Serves.{after_bytes, node_and, served, serving, serving_of}
use Rattle.store_core.specs.Histories.{AreLegalFrom}
use Rattle.store_core.specs.Masks.{has_bit, in_mask}
use Rattle.store_core.specs.Names.{Name, has_name, least_name}
use Rattle.holders.specs.Pieces.{holds_chunk}
use Rattle.store_core.specs.Slots.{caller}
use Rattle.store_core.specs.States.{State, byte_and, byte_at, claims, empty, is_among, is_claimed, is_held, read_bytes}
use Rattle.store_core.specs.Stores.{fixed_of, state_of}
use Rattle.store_core.proofs.Determined.{state_determines}
use Rattle.store_core.proofs.Lasting.{sound_call, sound_empty}
use Rattle.store_core.proofs.SlotStates.{mask_same, same_state}
use Rattle.store_core.proofs.Bits.{has_bit-ones}
use Rattle.store_shared.specs.Partner.{AnswersInTurn, AskTheSame, AskedOfStore, IsSeat, Numbering, RepliesAreTheStores, calls, calls_in, moved, moves}

-- the one-thread store's name for the seat of a name
abbrev alone : (Name → ℕ) → Name → Name
alone number name = number name ∷ []

-- the state with these names in the place of the others
abbrev pub mirrored : Numbering → State → State
mirrored number s = record s { claim = λ c. option_map (alone (number c)) (s.claim c) }

some_same : (number : Name → ℕ) (o : Option Name) → is_some (option_map (alone number) o) ≡ is_some o
some_same number o = grind (arith, nat_tests)

free_same : (number : Numbering) (fixed : Fixed) (s : State) (c : ℕ) → is_free fixed (mirrored number s) c ≡ is_free fixed s c
free_same number fixed s c = ap (λ (b : Bool). nat_lt c fixed.capacity && not (is_held s c || b)) (some_same (number c) (s.claim c))

plain_test : (b : Bool) → ((b && true) || false) ≡ b
plain_test b = grind (arith, nat_tests)

among_same : (number : Name → ℕ) (who : List Name) (seat : ℕ) (o : Option Name) → ((name : Name) → o ≡ Some name → has_name who name ≡ (number name == seat))
    → is_among (caller seat) (option_map (alone number) o) ≡ is_among who o
among_same number who seat None own = refl
among_same number who seat (Some name) own = plain_test (number name == seat) ∙ sym (own name refl)

claims_same : (number : Numbering) (s : State) (who : List Name) (seat : ℕ) → IsSeat number s who seat → (c : ℕ)
    → claims (caller seat) (mirrored number s) c ≡ claims who s c
claims_same number s who seat is c = among_same (number c) who seat (s.claim c) (λ name e. is.own c name e)

read_same : (number : Numbering) (s : State) (at len : ℕ) → read_bytes (mirrored number s) at len ≡ read_bytes s at len
read_same number s at zero = refl
read_same number s at (suc len) = ap (λ (bytes : List ℕ). byte_and (byte_at s at) bytes) (read_same number s (at + 1) len)

served_same : (number : Numbering) (s : State) (nodes : List Node) → served (mirrored number s) nodes ≡ served s nodes
served_same number s [] = refl
served_same number s (Chunk c ∷ nodes) = ap (λ (rest : Serving). node_and (Chunk c) (s.held c) rest) (served_same number s nodes)
served_same number s (Parent m ∷ nodes) = ap (λ (rest : Serving). node_and (Parent m) (s.parents m) rest) (served_same number s nodes)

serving_same_of : (number : Numbering) (s : State) (o : Option ℕ) (start len : ℕ) → serving_of o (mirrored number s) start len ≡ serving_of o s start len
serving_same_of number s None start len = refl
serving_same_of number s (Some l) start len = ap (λ (rest : Serving). after_bytes (length_text l) rest) (served_same number s (slice_names l start len))

serving_same : (number : Numbering) (s : State) (start len : ℕ) → serving (mirrored number s) start len ≡ serving s start len
serving_same number s start len = serving_same_of number s s.recorded start len

storing_mirrored : (number : Numbering) (s : State) (group : ℕ) (piece : Piece) (answer : Storing) → IsStoring s group piece answer → IsStoring (mirrored number s) group piece answer
storing_mirrored number s group piece answer h = grind (arith, nat_tests)

-- a right reply is right in the mirrored state too
pub right_mirrored : (fixed : Fixed) (number : Numbering) (s : State) (who : List Name) (seat : ℕ) → IsSeat number s who seat → (call : Call)
    → IsRightReply fixed s who call → IsRightReply fixed (mirrored number s) (caller seat) call
right_mirrored fixed number s who seat is (Take g w r) right =
    mask_same g r (λ c. has_bit w (c % 64) && is_free fixed s c) (λ c. has_bit w (c % 64) && is_free fixed (mirrored number s) c)
    (λ c here. ap (λ (b : Bool). has_bit w (c % 64) && b) (sym (free_same number fixed s c))) right
right_mirrored fixed number s who seat is (Give g m r) right =
    mask_same g r (λ c. has_bit m (c % 64) && claims who s c) (λ c. has_bit m (c % 64) && claims (caller seat) (mirrored number s) c)
    (λ c here. ap (λ (b : Bool). has_bit m (c % 64) && b) (sym (claims_same number s who seat is c))) right
right_mirrored fixed number s who seat is (Commit g p r) right = (
  right.0,
  mask_same g r (λ c. claims who s c && holds_chunk p c) (λ c. claims (caller seat) (mirrored number s) c && holds_chunk p c)
      (λ c here. ap (λ (b : Bool). b && holds_chunk p c) (sym (claims_same number s who seat is c))) right.1,
)
right_mirrored fixed number s who seat is (Settle p a) right = right
right_mirrored fixed number s who seat is (Read at len bytes) right = right ∙ sym (read_same number s at len)
right_mirrored fixed number s who seat is (Length recorded) right = right
right_mirrored fixed number s who seat is (Parents g p a) right = (right.0, storing_mirrored number s g p a right.1)
right_mirrored fixed number s who seat is (Serve start len a) right = right ∙ sym (serving_same number s start len)

least_same : (number : Name → ℕ) (o : Option Name) (seat : ℕ) → option_map number o ≡ Some seat → Some (seat ∷ []) ≡ option_map (alone number) o
least_same number o seat e = grind (arith, nat_tests)

mapped : (number : Name → ℕ) (hit : Bool) (new old : Option Name) (put : Option Name) → put ≡ option_map (alone number) new
    → (if hit then put else option_map (alone number) old) ≡ option_map (alone number) (if hit then new else old)
mapped number hit new old put e = grind (arith, nat_tests)

-- and the state after the call mirrors the one after it
pub after_mirrored : (number : Numbering) (s : State) (who : List Name) (seat : ℕ) → IsSeat number s who seat → (call : Call)
    → after_call (caller seat) call (mirrored number s) ≡ mirrored number (after_call who call s)
after_mirrored number s who seat is (Take g w r) =
    same_state (after_call (caller seat) (Take g w r) (mirrored number s)) (mirrored number (after_call who (Take g w r) s)) refl (λ c. refl)
    (λ c. mapped (number c) (in_mask g r c) (least_name who) (s.claim c) (Some (seat ∷ [])) (least_same (number c) (least_name who) seat (is.least c))) refl
after_mirrored number s who seat is (Give g m r) =
    same_state (after_call (caller seat) (Give g m r) (mirrored number s)) (mirrored number (after_call who (Give g m r) s)) refl (λ c. refl)
    (λ c. mapped (number c) (in_mask g r c) None (s.claim c) None refl) refl
after_mirrored number s who seat is (Commit g p r) =
    same_state (after_call (caller seat) (Commit g p r) (mirrored number s)) (mirrored number (after_call who (Commit g p r) s)) refl (λ c. refl)
    (λ c. mapped (number c) (in_mask g r c) None (s.claim c) None refl) refl
after_mirrored number s who seat is (Settle p a) = refl
after_mirrored number s who seat is (Read at len bytes) = refl
after_mirrored number s who seat is (Length recorded) = refl
after_mirrored number s who seat is (Parents g p a) = refl
after_mirrored number s who seat is (Serve start len a) = refl

-- what a seat claims in the mirrored state
mine_is : (n seat : ℕ) → is_among (caller seat) (Some (n ∷ [])) ≡ (n == seat)
mine_is n seat = plain_test (n == seat)

-- a name's claim that is in what its seat gave
claimed_from : (number : Name → ℕ) (from : ℕ) (o : Option Name) → is_among (caller from) (option_map (alone number) o) ≡ true
    → (name : Name) × (o ≡ Some name) × ((number name == from) ≡ true)
claimed_from number from None h = absurd (false≢true h)
claimed_from number from (Some name) h = (name, refl, sym (mine_is (number name) from) ∙ h)

all_bits : (c : ℕ) → has_bit (2 ^ 64 - 1) (c % 64) ≡ true
all_bits c = has_bit-ones 64 (c % 64) ∙ lt-ltb (c % 64) 64 (omega arith)

-- Claims of a group that the one seat gave and the other took.
module _ (fixed : Fixed) (number : Numbering) (s : State) (group from to given taken : ℕ) (sound : IsSound fixed s)
    (gave : IsRightReply fixed (mirrored number s) (caller from) (Give group (2 ^ 64 - 1) given))
    (took : IsRightReply fixed (after_call (caller from) (Give group (2 ^ 64 - 1) given) (mirrored number s)) (caller to) (Take group given taken)) where
  abbrev middle : State
  middle = after_call (caller from) (Give group (2 ^ 64 - 1) given) (mirrored number s)

  -- a chunk that was given had a claim of the seat's
  its_claim : (c : ℕ) → in_mask group given c ≡ true → (name : Name) × (s.claim c ≡ Some name) × ((number c name == from) ≡ true)
  its_claim c hit =
      let parts = and_parts (c / 64 == group) (has_bit given (c % 64)) hit in
      claimed_from (number c) from (s.claim c) (and_parts (has_bit (2 ^ 64 - 1) (c % 64)) (claims (caller from) (mirrored number s) c)
      (sym (gave.bits c (eqb-true (c / 64) group parts.0)) ∙ parts.1)).1

  -- so that it is free, and it is taken
  given_taken : (c : ℕ) → in_mask group given c ≡ true → in_mask group taken c ≡ true
  given_taken c hit =
      let parts = and_parts (c / 64 == group) (has_bit given (c % 64)) hit in
      let was = its_claim c hit in
      let claimed : is_claimed s c ≡ true = ap (λ (o : Option Name). is_some o) was.1 in
      let below : nat_lt c fixed.capacity ≡ true = lt-ltb c fixed.capacity (sound.claimed_below c claimed) in
      let not_held : is_held s c ≡ false = false_from_ne_true _ (λ held. both_ways _ (sound.apart c held) claimed) in
      let free : is_free fixed middle c ≡ true = rw (hit, below, not_held) refl in
      and_from _ _ parts.0 (took.bits c (eqb-true (c / 64) group parts.0) ∙ and_from _ _ parts.1 free)

  -- and no other is
  taken_given : (c : ℕ) → in_mask group given c ≡ false → in_mask group taken c ≡ false
  taken_given c miss = false_from_ne_true _ (λ hit.
      let parts = and_parts (c / 64 == group) (has_bit taken (c % 64)) hit in
      let had = and_parts (has_bit given (c % 64)) (is_free fixed middle c) (sym (took.bits c (eqb-true (c / 64) group parts.0)) ∙ parts.1) in
      both_ways _ miss (and_from _ _ parts.0 had.0))

  -- a claim that is not given is none of the seat's in the group
  stays : (c : ℕ) → in_mask group given c ≡ false → (o : Option Name) → s.claim c ≡ o
      → option_map (alone (number c)) o ≡ option_map (alone (moved number group from to c)) o
  stays c miss None is = refl
  stays c miss (Some name) is =
      let other : ((c / 64 == group) && (number c name == from)) ≡ false = false_from_ne_true _ (λ both.
      let parts = and_parts (c / 64 == group) (number c name == from) both in
      let ours : claims (caller from) (mirrored number s) c ≡ true =
      ap (λ (o : Option Name). is_among (caller from) (option_map (alone (number c)) o)) is ∙ mine_is (number c name) from ∙ parts.1 in
      both_ways _ miss (and_from _ _ parts.0 (gave.bits c (eqb-true (c / 64) group parts.0) ∙ and_from _ _ (all_bits c) ours))) in
      rw other refl

  -- one that is given becomes the other seat's
  turns : (c : ℕ) → in_mask group given c ≡ true → Some (to ∷ []) ≡ option_map (alone (moved number group from to c)) (s.claim c)
  turns c hit =
      let parts = and_parts (c / 64 == group) (has_bit given (c % 64)) hit in
      let was = its_claim c hit in
      let both : ((c / 64 == group) && (number c was.0 == from)) ≡ true = and_from _ _ parts.0 was.2 in
      let its : moved number group from to c was.0 ≡ to = rw both refl in
      ap (λ (n : ℕ). Some (n ∷ [])) (sym its) ∙ ap (λ (o : Option Name). option_map (alone (moved number group from to c)) o) (sym was.1)

  moved_claim : (c : ℕ) → (after_call (caller to) (Take group given taken) middle).claim c ≡ (mirrored (moved number group from to) s).claim c
  moved_claim c = elim (cases_Bool (in_mask group given c)) [
    | inl hit ↦ rw (given_taken c hit) (turns c hit)
    | inr miss ↦ rw (taken_given c miss, miss) (stays c miss (s.claim c) refl)
  ]

  -- the state then mirrors the same state by the numbering that moved
  move_mirrored : after_call (caller to) (Take group given taken) middle ≡ mirrored (moved number group from to) s
  move_mirrored = same_state (after_call (caller to) (Take group given taken) middle) (mirrored (moved number group from to) s) refl (λ c. refl) moved_claim refl

-- a store that mirrors the state gives the replies of what follows
same_replies : (fixed : Fixed) (number : Numbering) (s : State) (history : List Event) (store : Store) (asked : List AskedOfStore) → IsSound fixed s → AreLegalFrom fixed s history
    → fixed_of store ≡ fixed → state_of store ≡ mirrored number s → AskTheSame number s history asked → AnswersInTurn store asked
    → calls_in asked ≡ map (λ e. e.call) history
same_replies fixed number s history store [] sound legal fixed_is state_is asks answers = ap (λ (h : List Event). map (λ e. e.call) h) (sym asks)
same_replies fixed number s history store (moves group from to ∷ rest) sound legal fixed_is state_is asks answers =
    let given : ℕ = answers.0 in
    let taken : ℕ = answers.1 in
    let gave : IsRightReply fixed (mirrored number s) (caller from) (Give group (2 ^ 64 - 1) given) =
    subst (λ (t : State). IsRightReply fixed t (caller from) (Give group (2 ^ 64 - 1) given)) state_is answers.4.right in
    let middle_is : state_of answers.2 ≡ after_call (caller from) (Give group (2 ^ 64 - 1) given) (mirrored number s) =
    answers.4.after ∙ ap (λ (t : State). after_call (caller from) (Give group (2 ^ 64 - 1) given) t) state_is in
    let middle_fixed : fixed_of answers.2 ≡ fixed = answers.4.fixed ∙ fixed_is in
    let took : IsRightReply fixed (after_call (caller from) (Give group (2 ^ 64 - 1) given) (mirrored number s)) (caller to) (Take group given taken) =
    subst (λ (f : Fixed). IsRightReply f (after_call (caller from) (Give group (2 ^ 64 - 1) given) (mirrored number s)) (caller to) (Take group given taken)) middle_fixed
    (subst (λ (t : State). IsRightReply (fixed_of answers.2) t (caller to) (Take group given taken)) middle_is answers.5.right) in
    let next_is : state_of answers.3 ≡ mirrored (moved number group from to) s =
    answers.5.after ∙ ap (λ (t : State). after_call (caller to) (Take group given taken) t) middle_is
    ∙ move_mirrored fixed number s group from to given taken sound gave took in
    same_replies fixed (moved number group from to) s history answers.3 rest sound legal (answers.5.fixed ∙ middle_fixed) next_is asks answers.6
same_replies fixed number s history store (calls seat call ∷ rest) sound legal fixed_is state_is asks answers =
    let e : Event = asks.0 in
    let there : AreLegalFrom fixed s (e ∷ asks.1) = subst (λ (h : List Event). AreLegalFrom fixed s h) asks.2 legal in
    let right : IsRightReply fixed (mirrored number s) (caller seat) call =
    subst (λ (f : Fixed). IsRightReply f (mirrored number s) (caller seat) call) fixed_is
    (subst (λ (t : State). IsRightReply (fixed_of store) t (caller seat) call) state_is answers.1.right) in
    let same : call ≡ e.call =
    elim (cases_Bool (is_partial e.call)) [
      | inl part ↦ asks.5 part
      | inr whole ↦
          sym (state_determines fixed (mirrored number s) (caller seat) e.call call (right_mirrored fixed number s e.who seat asks.3 e.call there.0) right whole (sym asks.4))
    ] in
    let next_is : state_of answers.0 ≡ mirrored number (after s e) =
    answers.1.after ∙ ap (λ (t : State). after_call (caller seat) call t) state_is
    ∙ ap (λ (x : Call). after_call (caller seat) x (mirrored number s)) same ∙ after_mirrored number s e.who seat asks.3 e.call in
    ap (λ (x : Call). x ∷ calls_in rest) same
    ∙ ap (λ (xs : List Call). e.call ∷ xs)
    (same_replies fixed number (after s e) asks.1 answers.0 rest (sound_call fixed s e.who e.call sound there.0) there.1 (answers.1.fixed ∙ fixed_is) next_is asks.6 answers.2)
    ∙ ap (λ (h : List Event). map (λ e. e.call) h) (sym asks.2)

pub replies_are_the_stores : RepliesAreTheStores
replies_are_the_stores fixed history number store asked legal new asks answers =
    same_replies fixed (λ c. number) empty history store asked (sound_empty fixed) legal new.fixed_is new.state asks answers
