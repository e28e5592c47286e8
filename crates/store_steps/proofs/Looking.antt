-- Loads: of a held word, of the length word, and of a word of a chunk's cell or of a parent.
use Rattle.std.proofs.lemmas.Bool.Decides.{nat_tests}
use Rattle.std.proofs.Common.{◌++◌, ◌≡◌, ℕ, ◌+◌, ◌*◌, ◌-◌, ◌%◌, ◌<◌, false, List, [], ◌∷◌, Option, Some, slice_index, refl, sym, ap, ◌∙◌, arith, Bool, true, if◌then◌else◌, ◌≢◌, nat_lt, ◌||◌, is_none, is_some}
use mathlib.Core.Option.{some}
use lib.ListN.{get_elem?}
use Rattle.atomic_table.specs.Table.{State as Table}
use Rattle.holders.specs.declared.fixed.Fixed.{Fixed}
use Rattle.store_core.specs.declared.history.Call.{Call}
use Rattle.store_core.specs.declared.history.Call.TheVariants.{Length, Read, Parents, Serve}
use Rattle.store_core.specs.declared.history.Event.{Event}
use Rattle.store_core.specs.declared.view.SeatView.{SeatView}
use Rattle.store_core.specs.Histories.{IsLegal, run, state_after}
use Rattle.holders.specs.Room.{groups}
use Rattle.store_core.specs.Masks.{has_bit, in_mask}
use Rattle.store_core.specs.Names.{Name}
use Rattle.store_core.specs.States.{State, is_held, read_bytes}
use Rattle.store_core.specs.Views.{names_of}
use Rattle.store_core.proofs.Lasting.{held_lasts}
use Rattle.store_steps.specs.Kinds.{Kind, chunk_kind, held_in, parent_kind, width, word_of, word_place}
use Rattle.store_steps.specs.Layout.{held_word, length_code, length_place}
use Rattle.store_steps.specs.Plays.{LoadsLength, CopiesWord, Loads, length_in, LoadsNode, LoadsToServe, LoadsToStore}
use Rattle.store_steps.specs.Reads.{is_last, read_events}
use Rattle.store_steps.specs.Rule.{RuleHolds}
use Rattle.store_core.specs.Knowledge.{event_of}
use Rattle.store_steps.proofs.StepViews.{AreIdle, Steps, look_step, still, still_step}
use Rattle.std.proofs.lemmas.Bool.{both_ways}
use Rattle.bao_text.specs.declared.walk.Node.{Node}
use Rattle.bao_text.specs.declared.walk.Node.TheVariants.{Chunk, Parent}
use Rattle.holders.specs.declared.piece.Piece.{Piece}
use Rattle.store_core.specs.declared.history.Storing.TheVariants.{OtherLength, Stored}
use Rattle.store_core.specs.Events.{IsRightReply, after_call, parents_after}
use Rattle.holders.specs.Pieces.{IsAcceptedPiece, length_of, parent_bytes}
use Rattle.store_core.specs.Serves.{node_held, serving}
use Rattle.store_core.proofs.ParentOrigins.{parent_lasts}
use Rattle.store_steps.specs.Slices.{is_recorded, node_events, node_number, node_place, unserved_events, unstored_events}
use Rattle.store_steps.proofs.WrittenWords.{in_none}

module _ (fixed : Fixed) (t : State) (view : SeatView) where
  abbrev Idle : List Event → Type 0
  Idle own = AreIdle fixed t (names_of view) own

  idle_none : Idle []
  idle_none = record { legal = tt; quiet = refl; by = tt }

  idle_call : (call : Call) → IsRightReply fixed t (names_of view) call → after_call (names_of view) call t ≡ t → Idle (event_of view call ∷ [])
  idle_call call right quiet = record { legal = (right, tt); quiet = quiet; by = (refl, tt) }

  -- a choice between a list and another by a bit
  either_idle : (b : Bool) (mine others : List Event) → (b ≡ true → Idle mine) → (b ≡ false → Idle others) → Idle (if b then mine else others)
  either_idle true mine others one other = one refl
  either_idle false mine others one other = other refl

  maybe_idle : (b : Bool) (call : Call) → IsRightReply fixed t (names_of view) call → after_call (names_of view) call t ≡ t → Idle (if b then event_of view call ∷ [] else [])
  maybe_idle b call right quiet = either_idle b (event_of view call ∷ []) [] (λ is. idle_call call right quiet) (λ is. idle_none)

-- a load's event leaves the state
pub reads_quiet : (view : SeatView) (group at len : ℕ) (s : State) → run s (read_events view group at len s) ≡ s
reads_quiet view group at len s = (maybe_idle view.fixed s view (is_last view.fixed group at len s) (Read at len (read_bytes s at len)) refl refl).quiet

-- the length that a length's word stands for
pub length_back : (o : Option ℕ) → length_in (length_code o) ≡ o
length_back o = grind (arith, nat_tests)

is_recorded-true : (o : Option ℕ) (l : ℕ) → is_recorded o l ≡ true → o ≡ Some l
is_recorded-true o l h = grind (arith, nat_tests)

is_recorded-false : (o : Option ℕ) (l : ℕ) → is_recorded o l ≡ false → o ≢ Some l
is_recorded-false o l h e = grind (arith, nat_tests)

-- a mask of no bits is of no boundary, so that nothing is stored
pub none_after : (group : ℕ) (piece : Piece) (s : State) (names : List Name) → after_call names (Parents group piece (Stored 0)) s ≡ s
none_after group piece s names =
    let each : (m : ℕ) → parents_after (Stored 0) group piece s.parents m ≡ s.parents m = λ m.
    ap (λ (b : Bool). if b then parent_bytes piece m else s.parents m) (in_none group m) in
    λ i. record s { parents = λ m. each m i }

-- an item that is held stays held, with the same bytes
item_lasts : (kind : Kind) (fixed : Fixed) (history more : List Event) (item : ℕ) (bytes : List ℕ) → IsLegal fixed (history ++ more)
    → held_in kind (state_after history) item ≡ Some bytes → held_in kind (state_after (history ++ more)) item ≡ Some bytes
item_lasts chunk_kind fixed history more item bytes legal is = held_lasts fixed history more item bytes legal is
item_lasts parent_kind fixed history more item bytes legal is = parent_lasts fixed history more item bytes legal is

module _ (fixed : Fixed) (s : Table Unit (List SeatView)) (k : RuleHolds fixed s) (id : ℕ) (view : SeatView) (seat : get_elem? s.views id ≡ some (view ∷ [])) where
  abbrev state : State
  state = state_after k.history

  pub load_steps : (group at len : ℕ) → group < groups fixed
      → Steps fixed s id group (slice_index s.words group) (λ new. Loads group at len (slice_index s.words group) view new)
  load_steps group at len there = look_step fixed s k id view seat (read_events view group at len) group _
      (maybe_idle fixed state view (is_last view.fixed group at len state) (Read at len (read_bytes state at len)) refl refl)
      (λ new looked same. record {
        looked = looked;
        finds = λ c here.
            ap (λ (g : ℕ). has_bit (held_word s.words g) (c % 64)) (sym here) ∙ k.words.held c (omega (arith, here, there)) ∙ ap (λ (t : State). is_held t c) (sym same);
      })

  -- the length word stands for the recorded length
  length_found : length_in (slice_index s.words (length_place fixed)) ≡ state.recorded
  length_found = ap (λ (n : ℕ). length_in n) k.words.recorded ∙ length_back state.recorded

  pub length_steps : Steps fixed s id (length_place fixed) (slice_index s.words (length_place fixed)) (λ new. LoadsLength (slice_index s.words (length_place fixed)) view new)
  length_steps =
      let call : Call = Length (length_in (slice_index s.words (length_place fixed))) in
      look_step fixed s k id view seat (λ t. event_of view call ∷ []) (length_place fixed) _ (idle_call fixed state view call length_found refl) (λ new looked same. record {
        between = looked.between;
        goes_on = looked.goes_on;
        claims_are = looked.claims_are;
        written_are = looked.written_are;
        storing_is = looked.storing_is;
      })

  -- what a word of a held item is
  word_held : (kind : Kind) (item w : ℕ) (bytes : List ℕ) → held_in kind state item ≡ Some bytes → w < width kind
      → slice_index s.words (word_place kind fixed (width kind * item + w)) ≡ word_of kind bytes w
  word_held chunk_kind item w bytes held below = k.words.cells item w bytes held below
  word_held parent_kind item w bytes held below = k.parents.stand.cells item w bytes held below

  pub copy_steps : (kind : Kind) (item w : ℕ) → w < width kind
      → Steps fixed s id (word_place kind fixed (width kind * item + w)) (slice_index s.words (word_place kind fixed (width kind * item + w)))
      (λ new. CopiesWord kind item w (slice_index s.words (word_place kind fixed (width kind * item + w))) view new)
  copy_steps kind item w below = record {
    new = view;
    kept = still_step fixed s k id view seat (word_place kind fixed (width kind * item + w));
    told = record {
      same = refl;
      finds = λ bytes held. word_held kind item w bytes
          (still fixed s k id view seat (λ t. held_in kind t item ≡ Some bytes) (λ more legal is. item_lasts kind fixed view.seen more item bytes legal is) held) below;
    };
  }

  -- the bit of a node that could be held
  pub held_node : (node : Node) → node_number node < fixed.capacity
      → has_bit (slice_index s.words (node_place fixed node)) (node_number node % 64) ≡ is_some (node_held state node)
  held_node (Chunk c) below = k.words.held c (omega (arith, below))
  held_node (Parent m) below = k.parents.stand.held m (omega (arith, below))

  pub load_node_steps : (node : Node) (last : Bool) (start len : ℕ) → node_number node < fixed.capacity
      → Steps fixed s id (node_place fixed node) (slice_index s.words (node_place fixed node))
      (λ new. LoadsNode node last start len (slice_index s.words (node_place fixed node)) view new)
  load_node_steps node last start len below = look_step fixed s k id view seat (node_events view node last start len) (node_place fixed node) _
      (maybe_idle fixed state view (last || is_none (node_held state node)) (Serve start len (serving state start len)) refl refl)
      (λ new looked same. record { looked = looked; finds = held_node node below ∙ ap (λ (t : State). is_some (node_held t node)) (sym same) })

  pub length_to_serve_steps : (start len : ℕ) → Steps fixed s id (length_place fixed) (slice_index s.words (length_place fixed))
      (λ new. LoadsToServe start len (slice_index s.words (length_place fixed)) view new)
  length_to_serve_steps start len = look_step fixed s k id view seat (unserved_events view start len) (length_place fixed) _
      (maybe_idle fixed state view (is_none state.recorded) (Serve start len (serving state start len)) refl refl)
      (λ new looked same. record { looked = looked; finds = length_found ∙ ap (λ (t : State). t.recorded) (sym same) })

  pub length_to_store_steps : (group : ℕ) (piece : Piece) → IsAcceptedPiece fixed piece → Steps fixed s id (length_place fixed) (slice_index s.words (length_place fixed))
      (λ new. LoadsToStore group piece (slice_index s.words (length_place fixed)) view new)
  length_to_store_steps group piece accepted =
      let none : Call = Parents group piece (Stored 0) in
      let other : Call = Parents group piece OtherLength in
      let there : Bool = nat_lt group (groups view.fixed) in
      let inner : List Event = if there then [] else event_of view none ∷ [] in
      look_step fixed s k id view seat (unstored_events view group piece) (length_place fixed) _
      (either_idle fixed state view (is_recorded state.recorded (length_of piece)) inner (event_of view other ∷ [])
      (λ is. either_idle fixed state view there [] (event_of view none ∷ []) (λ within. idle_none fixed state view)
      (λ absent. idle_call fixed state view none
      (accepted, (is_recorded-true state.recorded (length_of piece) is, λ m hit. absurd (both_ways (in_mask group 0 m) (in_none group m) hit)))
      (none_after group piece state (names_of view))))
      (λ isnt. idle_call fixed state view other (accepted, is_recorded-false state.recorded (length_of piece) isnt) refl))
      (λ new looked same. record { looked = looked; finds = length_found ∙ ap (λ (t : State). t.recorded) (sym same) })
