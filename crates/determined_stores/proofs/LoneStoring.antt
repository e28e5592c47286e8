-- A seat that is alone stores a group's nodes of a piece.
use Rattle.std.proofs.Common.{◌≡◌, ℕ, ◌+◌, ◌/◌, ◌%◌, ◌<◌, ◌^◌, ◌-◌, true, List, [], Option, None, Some, Result, Ok, Err, IfOk, is_some, inl, inr, refl, sym, ap, subst, ◌∙◌, arith, append-nil}
use Rattle.std.proofs.lemmas.Bool.{cases_lt, lt-ltb, or_right}
use Rattle.std.specs.Prelude.{Contains}
use Rattle.bao_text.specs.declared.walk.Node.{Node}
use Rattle.bao_text.specs.declared.walk.Node.TheVariants.{Chunk, Parent}
use Rattle.bao_text.specs.NodeNames.{slice_names}
use Rattle.bao_check.proofs.Lists.{All-member}
use Rattle.bao_check.specs.declared.checked.Checked.{Checked}
use Rattle.holders.specs.declared.fixed.Fixed.{Fixed}
use Rattle.store_core.specs.declared.history.Call.TheVariants.{Commit, Parents, Take}
use Rattle.store_core.specs.declared.history.Event.{Event}
use Rattle.holders.specs.declared.piece.Piece.{Piece}
use Rattle.store_core.specs.declared.history.Storing.TheVariants.{Stored}
use Rattle.store_core.specs.declared.view.SeatView.{SeatView}
use Rattle.store_core.specs.Histories.{IsLegal, state_after}
use Rattle.store_core.specs.Knowledge.{Called, LooksRound, opening_view}
use Rattle.holders.specs.Room.{groups}
use Rattle.store_core.specs.Masks.{in_mask}
use Rattle.holders.specs.Pieces.{holds_chunk, length_of, piece_of}
use Rattle.store_core.specs.Serves.{node_held}
use Rattle.store_core.specs.States.{State, is_held}
use Rattle.store_core.specs.Views.{mine}
use Rattle.store_core.proofs.Bits.{has_bit-ones}
use Rattle.store_core.proofs.HasRoom.{base_recorded}
use Rattle.store_core.proofs.Lasting.{record_lasts}
use Rattle.store_shared.proofs.Slices.{Keeps, keeps_seen, names_below}
use Rattle.store_shared.specs.Calls.{AreParentsHeld, HasSliceHeld, SeatIsUnstored}
use Rattle.store_shared.specs.declared.fault.ParentsFault.{ParentsFault}
use Rattle.store_shared.specs.declared.fault.ParentsFault.TheVariants as unstored
use Rattle.store_shared.specs.declared.assembly.Assembly.{Assembly}
use Rattle.store_shared.specs.Seats.{Gripped, IsSeatOf, fixed_of as fixed_of_store}
use Rattle.gather.specs.Filled.{IsWanted}
use Rattle.holders.specs.Holders.{IsIt, IsNone}
use Rattle.gather.specs.SeatLasting.{HoldsOn, IsAlone, alone_on, busy_alone, lasts}
use Rattle.gather.specs.Seats.{claims_of, fixed_of}
use Rattle.gather.proofs.SeatAlone.{held_there, looks_on, rest_there}
use Rattle.gather.proofs.SeatKnowing.{all_there, granted_there, unstored_refused}
use Rattle.gather.proofs.Sharing.{goes_on}
use Rattle.gather.proofs.HandedOver.{opening_all}
use Rattle.determined_stores.specs.Serves.{AreStored, HasNode, HasSliceOf, IsReady, number_of}

some_bytes : (o : Option (List ℕ)) → is_some o ≡ true → (bytes : List ℕ) × (o ≡ Some bytes)
some_bytes (Some bytes) is = (bytes, refl)
some_bytes None is = cc

-- what is held stays
held_on : (s t : State) → Keeps s t → (node : Node) → is_some (node_held s node) ≡ true → is_some (node_held t node) ≡ true
held_on s t keeps node is =
    let there = some_bytes (node_held s node) is in
    ap is_some (keeps.nodes node there.0 there.1)

-- what holds of whatever follows holds now
holds_now : (seat : Gripped) (c : ℕ) → IsLegal seat.view.fixed seat.view.seen → HoldsOn seat c → is_held (state_after seat.view.seen) c ≡ true
holds_now seat c legal is =
    subst (λ (h : List Event). is_held (state_after h) c ≡ true) (append-nil seat.view.seen)
    (is [] (subst (λ (h : List Event). IsLegal seat.view.fixed h) (sym (append-nil seat.view.seen)) legal))

all_wanted : (group c : ℕ) → c / 64 ≡ group → IsWanted group (2 ^ 64 - 1) c
all_wanted group c here = (here, has_bit-ones 64 (c % 64) ∙ lt-ltb (c % 64) 64 (omega arith))

-- It takes the group, looks round, and commits.
module _ (old taken looked committed : Gripped) (group granted mask : ℕ) (piece : Piece)
    (takes : Called (Take group (2 ^ 64 - 1) granted) old.view taken.view) (looks : LooksRound taken.view looked.view)
    (commits : Called (Commit group piece mask) looked.view committed.view) (ready : IsReady old.view piece) where
  committed_first : (c : ℕ) → c / 64 ≡ group → holds_chunk piece c ≡ true → claims_of looked c ≡ true → HoldsOn committed c
  committed_first c here has claimed = held_there looked committed group piece mask commits c (all_there looked committed group piece mask commits c here claimed has)

  still_claimed : (c : ℕ) → claims_of taken c ≡ true → claims_of looked c ≡ true
  still_claimed c claimed = looks.sees.claims_are c ∙ claimed

  pub chunk_held : (c : ℕ) → c / 64 ≡ group → c < (fixed_of old).capacity → holds_chunk piece c ≡ true → HoldsOn committed c
  chunk_held c here below has =
      elim (rest_there old taken looked group (2 ^ 64 - 1) granted takes looks c (all_wanted group c here) below) [
        | inl hit ↦ committed_first c here has (still_claimed c (granted_there old taken group (2 ^ 64 - 1) granted takes c hit).1)
        | inr (inl held) ↦
            lasts.chunk (IsIt piece) looked committed _ _ c (goes_on (IsIt piece) looked committed (Commit group piece mask) refl commits) held
        | inr (inr busy) ↦
            committed_first c here has
            (still_claimed c (takes.claims_are c ∙ or_right (in_mask group granted c) (claims_of old c) (busy_alone old looked c ready.alone busy)))
      ]

  keeps_taken : Keeps (state_after old.view.seen) (state_after taken.view.seen)
  keeps_taken = keeps_seen old.view taken.view _ _ takes.goes_on

  keeps_looked : Keeps (state_after taken.view.seen) (state_after looked.view.seen)
  keeps_looked = keeps_seen taken.view looked.view _ _ looks.sees.goes_on

  keeps_committed : Keeps (state_after looked.view.seen) (state_after committed.view.seen)
  keeps_committed = keeps_seen looked.view committed.view _ _ commits.goes_on

  pub node_committed : (node : Node) → is_some (node_held (state_after old.view.seen) node) ≡ true → is_some (node_held (state_after committed.view.seen) node) ≡ true
  node_committed node is = held_on _ _ keeps_committed node (held_on _ _ keeps_looked node (held_on _ _ keeps_taken node is))

  pub room_committed : committed.view.fixed ≡ old.view.fixed
  room_committed = commits.goes_on.fixed_is ∙ looks.sees.goes_on.fixed_is ∙ takes.goes_on.fixed_is

  pub ready_committed : IsReady committed.view piece
  ready_committed = record {
    alone = alone_on (IsIt piece) looked committed _ _ (goes_on (IsIt piece) looked committed (Commit group piece mask) refl commits)
        (alone_on IsNone taken looked 0 0 (looks_on IsNone taken looked looks)
        (alone_on IsNone old taken _ _ (goes_on IsNone old taken (Take group (2 ^ 64 - 1) granted) tt takes) ready.alone));
    recorded = keeps_committed.recorded _ (keeps_looked.recorded _ (keeps_taken.recorded _ ready.recorded));
  }

-- Then it stores the parents: none is refused,
pub never_unstored : (fixed : Fixed) (old new : Gripped) (group : ℕ) (piece : Checked) (fault : ParentsFault) → (fault ≡ unstored.OtherRoot → ⊥)
    → IsReady old.view (piece_of fixed.base piece) → SeatIsUnstored fixed group piece fault old new → ⊥
never_unstored fixed old new group piece unstored.OtherRoot same ready is = same refl
never_unstored fixed old new group piece unstored.OtherLength same ready is =
    unstored_refused fixed old new group piece is (length_of (piece_of fixed.base piece)) (λ more legal. record_lasts old.view.fixed old.view.seen more (length_of (piece_of fixed.base piece)) legal ready.recorded) refl

-- and all are held.
module _ (old taken looked committed stored : Gripped) (group granted mask more : ℕ) (piece : Piece)
    (takes : Called (Take group (2 ^ 64 - 1) granted) old.view taken.view) (looks : LooksRound taken.view looked.view)
    (commits : Called (Commit group piece mask) looked.view committed.view) (stores : Called (Parents group piece (Stored more)) committed.view stored.view)
    (ready : IsReady old.view piece) where
  keeps_stored : Keeps (state_after committed.view.seen) (state_after stored.view.seen)
  keeps_stored = keeps_seen committed.view stored.view _ _ stores.goes_on

  in_group : AreParentsHeld stored.view group piece → (node : Node) → HasNode piece node → number_of node < old.view.fixed.capacity → number_of node / 64 ≡ group
      → is_some (node_held (state_after stored.view.seen) node) ≡ true
  in_group parents (Chunk c) has below here =
      held_on _ _ keeps_stored (Chunk c)
      (holds_now committed c commits.goes_on.legal (chunk_held old taken looked committed group granted mask piece takes looks commits ready c here below has))
  in_group parents (Parent m) has below here = parents m here has

  pub group_stored : AreParentsHeld stored.view group piece → AreStored old.view piece group → AreStored stored.view piece (group + 1)
  group_stored parents before node has below within =
      let same : stored.view.fixed ≡ old.view.fixed =
      stores.goes_on.fixed_is ∙ room_committed old taken looked committed group granted mask piece takes looks commits ready in
      let room : number_of node < old.view.fixed.capacity = subst (λ (f : Fixed). number_of node < f.capacity) same below in
      elim (cases_lt (number_of node / 64) group) [
        | inl earlier ↦ held_on _ _ keeps_stored node (node_committed old taken looked committed group granted mask piece takes looks commits ready node (before node has room earlier))
        | inr last ↦ in_group parents node has room (omega (arith, within, last))
      ]

  pub still_ready : IsReady stored.view piece
  still_ready =
      let was : IsReady committed.view piece = ready_committed old taken looked committed group granted mask piece takes looks commits ready in
      record {
        alone = alone_on (IsIt piece) committed stored _ _ (goes_on (IsIt piece) committed stored (Parents group piece (Stored more)) refl stores) was.alone;
        recorded = keeps_stored.recorded _ was.recorded;
      }

-- before the first group
pub none_stored : (view : SeatView) (piece : Piece) → AreStored view piece 0
none_stored view piece node has below within = absurd (omega (arith, within))

-- a node of a slice has a number below the capacity
node_below : (view : SeatView) (l start len : ℕ) → IsLegal view.fixed view.seen → 0 < view.fixed.capacity → (state_after view.seen).recorded ≡ Some l → (node : Node)
    → Contains (slice_names l start len) node → number_of node < view.fixed.capacity
node_below view l start len legal some recorded (Chunk c) there = All-member _ (slice_names l start len) (names_below view.fixed view.seen l start len legal recorded some) (Chunk c) there
node_below view l start len legal some recorded (Parent m) there = All-member _ (slice_names l start len) (names_below view.fixed view.seen l start len legal recorded some) (Parent m) there

-- The slices of which the piece has all nodes are held then.
pub slice_held : (view : SeatView) (piece : Piece) (start len : ℕ) → IsLegal view.fixed view.seen → 0 < view.fixed.capacity → IsReady view piece
    → AreStored view piece (groups view.fixed) → HasSliceOf piece start len → HasSliceHeld view start len
slice_held view piece start len legal some ready stored has = record {
  length = length_of piece;
  recorded = ready.recorded;
  held = λ node there.
      let below : number_of node < view.fixed.capacity = node_below view (length_of piece) start len legal some ready.recorded node there in
      stored node (has node there) below (omega (arith, below));
}

-- what a store's own numbers say of what its seat has seen
module _ (store : Assembly) (seat : Gripped) (piece : Piece) (of : IsSeatOf store seat) (ready : IsReady seat.view piece) where
  pub begins : (fixed_of_store store).base ≡ 0
  begins = ap (λ (f : Fixed). f.base) (sym of.knows.fixed_is) ∙ base_recorded seat.view.fixed seat.view.seen (length_of piece) of.knows.legal ready.recorded

  pub all_held : 0 < (fixed_of_store store).capacity → AreStored seat.view piece (groups (fixed_of_store store)) → (start len : ℕ) → HasSliceOf piece start len → HasSliceHeld seat.view start len
  all_held some stored start len has =
      slice_held seat.view piece start len of.knows.legal (subst (λ (f : Fixed). 0 < f.capacity) (sym of.knows.fixed_is) some) ready
      (subst (λ (f : Fixed). AreStored seat.view piece (groups f)) (sym of.knows.fixed_is) stored) has

-- A store's first seat has seen nothing.
pub first_alone : (fixed : Fixed) (view : SeatView) → view ≡ opening_view fixed → IsAlone view
first_alone fixed view is = record {
  all = opening_all fixed view is;
  own = λ e name there has.
      let nothing : mine view ≡ [] = ap (λ (v : SeatView). mine v) is in
      let no : Contains [] e = subst (λ (es : List Event). Contains es e) nothing there in
      absurd (omega (arith, no.1));
}

pub first_made_alone : {E : Type 0} (result : Result (Assembly × Gripped) E) → IfOk result (λ made. made.1.view ≡ opening_view (fixed_of_store made.0)) → IfOk result (λ made. IsAlone made.1.view)
first_made_alone (Err fault) is = tt
first_made_alone (Ok made) is = first_alone (fixed_of_store made.0) made.1.view is
