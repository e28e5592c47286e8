-- What a slice of several loads has come to, and how its last load ends it.
use Rattle.std.proofs.lemmas.Bool.Decides.{nat_tests}
use Rattle.std.proofs.Common.{◌≡◌, ℕ, ◌+◌, ◌*◌, ◌<◌, ◌≤◌, max, Bool, true, false, ◌||◌, if◌then◌else◌, List, [], ◌∷◌, ◌++◌, length, map, Option, None, Some, is_none, is_some, not, refl, sym, ap, subst, ◌∙◌, arith, inl, inr, append-nil, append_assoc}
use Rattle.std.specs.List.{AllByRecursion}
use Rattle.std.specs.Option.{MatchOption}
use Rattle.std.proofs.lemmas.Bool.{cases_Bool, cases_lt, lt-ltb, or_right}
use Rattle.b3tree.specs.Valid.{IsKeyed}
use Rattle.bao_text.specs.declared.choice.Choice.{Choice}
use Rattle.bao_text.specs.declared.walk.Node.{Node}
use Rattle.bao_text.specs.declared.walk.Node.TheVariants.{Chunk, Parent}
use Rattle.bao_text.specs.Choice.{chunk_count, of_slice, wants}
use Rattle.bao_text.specs.NodeNames.{boundary, name, node_names, slice_names}
use Rattle.bao_text.specs.Nodes.{TreeNode, nodes}
use Rattle.bao_text.specs.Texts.{length_text}
use Rattle.bao_text.proofs.NodeNaming.{names-anywhere, names-chunk, names-parent}
use Rattle.bao_check.proofs.Lists.{All-from_members, All-member}
use Rattle.bao_check.proofs.Locating.{IsInside, IsWithin, boundaries_inside, numbers_within}
use Rattle.holders.specs.declared.fixed.Fixed.{Fixed}
use Rattle.store_core.specs.declared.history.Call.{Call}
use Rattle.store_core.specs.declared.history.Call.TheVariants.{Serve}
use Rattle.store_core.specs.declared.history.Event.{Event}
use Rattle.store_core.specs.declared.history.Serving.{Serving}
use Rattle.store_core.specs.declared.history.Serving.TheVariants.{Lacking, NoLength, Text}
use Rattle.store_core.specs.declared.view.SeatView.{SeatView}
use Rattle.store_core.specs.Events.{IsRightReply, after_call}
use Rattle.store_core.specs.Histories.{AreLegalFrom, IsLegal, run, state_after}
use Rattle.store_core.specs.Laws.{IsSound}
use Rattle.store_core.specs.Serves.{after_bytes, node_and, node_held, served, serving, serving_of}
use Rattle.store_core.specs.States.{State, empty, byte_at}
use Rattle.store_core.specs.Stores.{GainsNode}
use Rattle.store_core.specs.Views.{names_of as calls_as}
use Rattle.store_core.proofs.Lasting.{held_from, legal-append, legal_is_sound, recorded_from, run-append}
use Rattle.store_core.proofs.HasRoom.{recorded_fits}
use Rattle.store_core.proofs.ParentOrigins.{parents_from}
use Rattle.store_core.proofs.Accepting.{served_accepted}
use Rattle.store_core.proofs.ServingLaws.{served_nodes_bind}
use Rattle.store_steps.specs.Slices.{node_events, node_number, unserved_events}
use Rattle.store_core.specs.Knowledge.{Called, GoesOn, Looked, Sees, event_of}
use Rattle.store_core.proofs.Going.{LeavesClaims, called_then, looked_state, sees_none, sees_then}
use Rattle.store_shared.specs.Serving.{SeatSliceBinds, SeatSliceIsAccepted}
use Rattle.store_core.proofs.MachineInvariants.{byte_lasts}

-- what the one state holds of nodes and of bytes the other holds too, and it has the same length recorded
pub record Keeps (s t : State) : Type 0 where
  pub nodes : (node : Node) (bytes : List ℕ) → node_held s node ≡ Some bytes → node_held t node ≡ Some bytes
  pub bytes : (q x : ℕ) → byte_at s q ≡ Some x → byte_at t q ≡ Some x
  pub recorded : (l : ℕ) → s.recorded ≡ Some l → t.recorded ≡ Some l

keeps_same : (s : State) → Keeps s s
keeps_same s = record { nodes = λ node bytes h. h; bytes = λ q x h. h; recorded = λ l h. h }

keeps_then : (s t u : State) → Keeps s t → Keeps t u → Keeps s u
keeps_then s t u one two = record {
  nodes = λ node bytes h. two.nodes node bytes (one.nodes node bytes h);
  bytes = λ q x h. two.bytes q x (one.bytes q x h);
  recorded = λ l h. two.recorded l (one.recorded l h);
}

-- What is held stays, and so does a recorded length.
node_stays : (fixed : Fixed) (s : State) (events : List Event) → IsSound fixed s → AreLegalFrom fixed s events → (node : Node) (bytes : List ℕ)
    → node_held s node ≡ Some bytes → node_held (run s events) node ≡ Some bytes
node_stays fixed s events sound more (Chunk c) bytes h = held_from fixed s events sound more c bytes h
node_stays fixed s events sound more (Parent m) bytes h = parents_from fixed s events more m bytes h

pub keeps_seen : (view new : SeatView) (between own : List Event) → GoesOn view new between own → Keeps (state_after view.seen) (state_after new.seen)
keeps_seen view new between own on =
    let s : State = state_after view.seen in
    let more : List Event = between ++ own in
    let seen : new.seen ≡ view.seen ++ more = on.seen_is ∙ append_assoc view.seen between own in
    let legal = legal-append new.fixed empty view.seen more (subst (λ (h : List Event). IsLegal new.fixed h) seen on.legal) in
    let later : state_after new.seen ≡ run s more = ap (λ (h : List Event). state_after h) seen ∙ run-append empty view.seen more in
    let sound = legal_is_sound new.fixed view.seen legal.0 in
    subst (λ (t : State). Keeps s t) (sym later) (record {
      nodes = λ node bytes h. node_stays new.fixed s more sound legal.1 node bytes h;
      bytes = λ q x h. byte_lasts new.fixed s more sound legal.1 q x h;
      recorded = λ l h. recorded_from new.fixed s more legal.1 l h;
    })

-- a call stands in a legal history
pub legal_there : (call : Call) (old new : SeatView) (d : Called call old new)
    → IsLegal new.fixed (old.seen ++ d.between) × AreLegalFrom new.fixed (state_after (old.seen ++ d.between)) (event_of old call ∷ [])
legal_there call old new d =
    legal-append new.fixed empty (old.seen ++ d.between) (event_of old call ∷ []) (subst (λ (h : List Event). IsLegal new.fixed h) d.goes_on.seen_is d.goes_on.legal)

-- its reply is the right one at its place
pub right_there : (call : Call) (old new : SeatView) (d : Called call old new) → IsRightReply new.fixed (state_after (old.seen ++ d.between)) (calls_as old) call
right_there call old new d = (legal_there call old new d).1.0

-- the state of what is seen then is the one after it, and the one before it where the call changes nothing
pub after_there : (call : Call) (old new : SeatView) (d : Called call old new) → state_after new.seen ≡ after_call (calls_as old) call (state_after (old.seen ++ d.between))
after_there call old new d = ap (λ (h : List Event). state_after h) d.goes_on.seen_is ∙ run-append empty (old.seen ++ d.between) (event_of old call ∷ [])

pub same_there : (call : Call) (old new : SeatView) (called : Called call old new) → ((s : State) → after_call (calls_as old) call s ≡ s)
    → state_after new.seen ≡ state_after (old.seen ++ called.between)
same_there call old new called same = after_there call old new called ∙ same (state_after (old.seen ++ called.between))

-- A slice of which the bytes so far are `out`: `next` and then `rest` are the nodes that are left. Between two nodes the seat
-- has seen more, and in each state that keeps what it has seen the bytes and the nodes left make up the slice. After the
-- last node the encoding is served.
abbrev pub IsServing : SeatView → SeatView → ℕ → ℕ → Option Node → List Node → List ℕ → Type 0
IsServing first view start len None rest out = Called (Serve start len (Text out)) first view
IsServing first view start len (Some node) rest out =
    Sees first view × ((t : State) → Keeps (state_after view.seen) t → after_bytes out (served t (node ∷ rest)) ≡ serving t start len)

-- the numbers of the nodes left are below the capacity
abbrev pub AreBelow : ℕ → Option Node → List Node → Type 0
AreBelow capacity None rest = Unit {0}
AreBelow capacity (Some node) rest = (node_number node < capacity) × AllByRecursion (λ node. node_number node < capacity) rest

-- how many nodes are left
abbrev pub left_count : Option Node → List Node → ℕ
left_count None rest = 0
left_count (Some node) rest = length rest + 1

-- what an iterator's step tells
abbrev pub Steps : Option Node → List Node → List Node → Type 0
Steps next old rest = MatchOption next ((old ≡ []) × (rest ≡ [])) (λ x. old ≡ x ∷ rest)

pub below_next : (capacity : ℕ) (next : Option Node) (old rest : List Node) → Steps next old rest → AllByRecursion (λ node. node_number node < capacity) old
    → AreBelow capacity next rest
below_next capacity None old rest steps all = tt
below_next capacity (Some node) old rest steps all = subst (λ (nodes : List Node). AllByRecursion (λ node. node_number node < capacity) nodes) steps all

-- none is left where there is no other
pub none_told : (b : Bool) (next : Option Node) → is_some next ≡ not b → b ≡ is_none next
none_told b next h = grind (arith, nat_tests)

-- bytes before bytes
after_both : (out bytes : List ℕ) (rest : Serving) → after_bytes out (after_bytes bytes rest) ≡ after_bytes (out ++ bytes) rest
after_both out bytes NoLength = refl
after_both out bytes (Lacking node) = refl
after_both out bytes (Text text) = ap (λ (xs : List ℕ). Text xs) (sym (append_assoc out bytes text))

serve_leaves : (start len : ℕ) (answer : Serving) → LeavesClaims (Serve start len answer)
serve_leaves start len answer = λ claimed c. refl

-- a Serve leaves the state
quiet_if : (b : Bool) (view : SeatView) (start len : ℕ) (s : State) → run s (if b then event_of view (Serve start len (serving s start len)) ∷ [] else []) ≡ s
quiet_if b view start len s = grind (arith, nat_tests)

-- a node that is left, which is held
gained_some : (o : Option (List ℕ)) (out more : List ℕ) → GainsNode o out more true → (bytes : List ℕ) × ((o ≡ Some bytes) × (more ≡ out ++ bytes))
gained_some None out more h = cc
gained_some (Some bytes) out more h = (bytes, (refl, h.1))

gained_none : (o : Option (List ℕ)) (out more : List ℕ) → GainsNode o out more false → o ≡ None
gained_none o out more h = grind (arith, nat_tests)

module _ (first view new : SeatView) (start len : ℕ) (node : Node) (next : Option Node) (old rest : List Node) (out more : List ℕ)
    (going : IsServing first view start len (Some node) old out) (steps : Steps next old rest) (last : Bool) (last_is : last ≡ is_none next)
    (looked : Looked (node_events view node last start len) view new) where
  abbrev seen_state : State
  seen_state = state_after new.seen

  -- the state at the load
  abbrev there : State
  there = state_after (view.seen ++ looked.between)

  state_is : seen_state ≡ there
  state_is = looked_state (node_events view node last start len) view new (λ s. quiet_if (last || is_none (node_held s node)) view start len s) looked

  keeps : Keeps (state_after view.seen) seen_state
  keeps = keeps_seen view new looked.between (node_events view node last start len there) looked.goes_on

  events_are : (b : Bool) → (last || is_none (node_held seen_state node)) ≡ b
      → node_events view node last start len there ≡ (if b then event_of view (Serve start len (serving seen_state start len)) ∷ [] else [])
  events_are b is =
      ap (λ (s : State). node_events view node last start len s) (sym state_is)
      ∙ ap (λ (c : Bool). if c then event_of view (Serve start len (serving seen_state start len)) ∷ [] else []) is

  makes : (t : State) → Keeps seen_state t → after_bytes out (served t (node ∷ old)) ≡ serving t start len
  makes t k = going.1 t (keeps_then (state_after view.seen) seen_state t keeps k)

  ends : (answer : Serving) → (last || is_none (node_held seen_state node)) ≡ true → answer ≡ serving seen_state start len
      → Called (Serve start len answer) first new
  ends answer is same =
      called_then first view new (node_events view node last start len) going.0 looked (Serve start len answer) (serve_leaves start len answer)
      (events_are true is ∙ ap (λ (a : Serving). event_of view (Serve start len a) ∷ []) (sym same))

  pub lacks : GainsNode (node_held seen_state node) out more false → Called (Serve start len (Lacking node)) first new
  lacks h =
      let none : node_held seen_state node ≡ None = gained_none (node_held seen_state node) out more h in
      let answer : Lacking node ≡ serving seen_state start len =
      ap (λ (o : Option (List ℕ)). after_bytes out (node_and node o (served seen_state old))) (sym none) ∙ makes seen_state (keeps_same seen_state) in
      ends (Lacking node) (or_right last _ (ap (λ (o : Option (List ℕ)). is_none o) none)) answer

  -- the bytes of the node are put to those before it
  module _ (h : GainsNode (node_held seen_state node) out more true) where
    abbrev got : (bytes : List ℕ) × ((node_held seen_state node ≡ Some bytes) × (more ≡ out ++ bytes))
    got = gained_some (node_held seen_state node) out more h

    makes_more : (t : State) → Keeps seen_state t → after_bytes more (served t old) ≡ serving t start len
    makes_more t k =
        ap (λ (xs : List ℕ). after_bytes xs (served t old)) got.1.1
        ∙ sym (after_both out got.0 (served t old))
        ∙ ap (λ (o : Option (List ℕ)). after_bytes out (node_and node o (served t old))) (sym (k.nodes node got.0 got.1.0))
        ∙ makes t k

  pub serves_on : GainsNode (node_held seen_state node) out more true → (n : Option Node) → n ≡ next → IsServing first new start len n rest more
  serves_on h None is =
      let none : old ≡ [] = (subst (λ (o : Option Node). Steps o old rest) (sym is) steps).0 in
      let only : last ≡ true = last_is ∙ ap (λ (o : Option Node). is_none o) (sym is) in
      ends (Text more) (rw only refl)
      (ap (λ (xs : List ℕ). Text xs) (sym (append-nil more)) ∙ ap (λ (nodes : List Node). after_bytes more (served seen_state nodes)) (sym none)
      ∙ makes_more h seen_state (keeps_same seen_state))
  serves_on h (Some x) is =
      let own : old ≡ x ∷ rest = subst (λ (o : Option Node). Steps o old rest) (sym is) steps in
      let more_left : last ≡ false = last_is ∙ ap (λ (o : Option Node). is_none o) (sym is) in
      let some : node_held seen_state node ≡ Some (got h).0 = (got h).1.0 in (
        sees_then first view new (node_events view node last start len) going.0 looked (events_are false (rw (more_left, some) refl)),
        λ t k. ap (λ (nodes : List Node). after_bytes more (served t nodes)) (sym own) ∙ makes_more h t k,
      )

-- The length's load comes first. Where none is recorded that is all.
module _ (first new : SeatView) (start len : ℕ) (legal : IsLegal first.fixed first.seen) (looked : Looked (unserved_events first start len) first new) where
  abbrev state_new : State
  state_new = state_after new.seen

  abbrev at_load : State
  at_load = state_after (first.seen ++ looked.between)

  same_state : state_new ≡ at_load
  same_state = looked_state (unserved_events first start len) first new (λ s. quiet_if (is_none s.recorded) first start len s) looked

  unserved_are : (o : Option ℕ) → state_new.recorded ≡ o
      → unserved_events first start len at_load ≡ (if is_none o then event_of first (Serve start len (serving_of o state_new start len)) ∷ [] else [])
  unserved_are o is =
      ap (λ (s : State). unserved_events first start len s) (sym same_state)
      ∙ ap (λ (p : Option ℕ). if is_none p then event_of first (Serve start len (serving_of p state_new start len)) ∷ [] else []) is

  pub no_length : state_new.recorded ≡ None → Called (Serve start len NoLength) first new
  no_length none =
      called_then first first new (unserved_events first start len) (sees_none first legal) looked (Serve start len NoLength) (serve_leaves start len NoLength) (unserved_are None none)

  pub has_length : (l : ℕ) → state_new.recorded ≡ Some l → Sees first new
  has_length l some = sees_then first first new (unserved_events first start len) (sees_none first legal) looked (unserved_are (Some l) some)

-- A parent is looked for by itself: where it isn't held, that is a Serve of the slice.
none_of : (o : Option (List ℕ)) (b : Bool) → is_some o ≡ b → is_none o ≡ not b
none_of None b is = ap not is
none_of (Some x) b is = ap not is

module _ (first new : SeatView) (start len m : ℕ) (legal : IsLegal first.fixed first.seen) (looked : Looked (node_events first (Parent m) false start len) first new) where
  node_state : state_after new.seen ≡ state_after (first.seen ++ looked.between)
  node_state = looked_state (node_events first (Parent m) false start len) first new (λ s. quiet_if (is_none (node_held s (Parent m))) first start len s) looked

  node_events_are : (b : Bool) → is_none ((state_after new.seen).parents m) ≡ b → node_events first (Parent m) false start len (state_after (first.seen ++ looked.between))
      ≡ (if b then event_of first (Serve start len (serving (state_after new.seen) start len)) ∷ [] else [])
  node_events_are b is =
      ap (λ (s : State). node_events first (Parent m) false start len s) (sym node_state)
      ∙ ap (λ (c : Bool). if c then event_of first (Serve start len (serving (state_after new.seen) start len)) ∷ [] else []) is

  pub parent_seen : is_some ((state_after new.seen).parents m) ≡ true → Sees first new
  parent_seen some = sees_then first first new (node_events first (Parent m) false start len) (sees_none first legal) looked (node_events_are false (none_of _ true some))

  pub parent_lacked : is_some ((state_after new.seen).parents m) ≡ false → (answer : Serving) × Called (Serve start len answer) first new
  parent_lacked none = (
    serving (state_after new.seen) start len,
    called_then first first new (node_events first (Parent m) false start len) (sees_none first legal) looked (Serve start len (serving (state_after new.seen) start len))
        (serve_leaves start len (serving (state_after new.seen) start len)) (node_events_are true (none_of _ false none)),
  )

-- a slice has a node
slice_wants : (l start len : ℕ) → wants (of_slice l start len) (1024 * 0) l ≡ true
slice_wants l start len =
    let choice : Choice = of_slice l start len in
    let a : 0 < choice.end = omega arith in
    let b : choice.start < 0 + max l 1 = omega arith in
    rw (lt-ltb 0 choice.end a, lt-ltb choice.start (0 + max l 1) b) refl

slice_some : (l start len : ℕ) → slice_names l start len ≡ [] → ⊥
slice_some l start len none =
    let choice : Choice = of_slice l start len in
    let named : slice_names l start len ≡ node_names choice 0 l = names-anywhere choice 0 l [] 8 in
    elim (cases_lt 1024 l) [
      | inl more ↦ let bad = sym none ∙ named ∙ names-parent choice 0 l (slice_wants l start len) more in cc
      | inr one ↦ let bad = sym none ∙ named ∙ names-chunk choice 0 l (slice_wants l start len) refl one in cc
    ]

pub serves_first : (first new : SeatView) (start len l : ℕ) (next : Option Node) (old rest : List Node) (out : List ℕ) → Sees first new
    → (state_after new.seen).recorded ≡ Some l → old ≡ slice_names l start len → Steps next old rest → out ≡ length_text l → IsServing first new start len next rest out
serves_first first new start len l None old rest out sees some names steps is = absurd (slice_some l start len (sym names ∙ steps.0))
serves_first first new start len l (Some node) old rest out sees some names steps is = (
  sees,
  λ t k.
      (λ i. after_bytes (is i) (served t ((sym steps ∙ names) i)))
      ∙ ap (λ (o : Option ℕ). serving_of o t start len) (sym (k.recorded l some)),
)

-- the nodes of a slice of a recorded length are below the capacity
All-map : (P : Node → Type 0) (places : List TreeNode) → AllByRecursion (λ place. P (name place)) places → AllByRecursion P (map name places)
All-map P [] all = tt
All-map P (place ∷ places) all = (all.0, All-map P places all.1)

pub names_below : (fixed : Fixed) (history : List Event) (l start len : ℕ) → IsLegal fixed history → (state_after history).recorded ≡ Some l → 0 < fixed.capacity
    → AllByRecursion (λ node. node_number node < fixed.capacity) (slice_names l start len)
names_below fixed history l start len legal some capacity =
    let choice : Choice = of_slice l start len in
    let all : List TreeNode = nodes l start len in
    let fits : chunk_count l ≤ fixed.capacity = omega (arith, recorded_fits fixed history l legal some, capacity) in
    All-map (λ node. node_number node < fixed.capacity) all
    (All-from_members (λ place. node_number (name place) < fixed.capacity) all (λ x h. elim (cases_Bool x.is_chunk) [
      | inl chunk ↦
          let w : IsWithin 0 (chunk_count l) x = All-member (IsWithin 0 (chunk_count l)) all (numbers_within choice 0 l [] 8) x h in
          let high : x.number < 0 + chunk_count l = w.1 in
          rw chunk (omega (arith, high, fits))
      | inr parent ↦
          let w = All-member (IsInside 0 (chunk_count l)) all (boundaries_inside choice 0 l [] 8) x h parent in
          let high : boundary x < 0 + chunk_count l = w.1 in
          rw parent (omega (arith, high, fits))
    ]))

-- an encoding that was served is served by what the seat has seen
still_served : (first new : SeatView) (start len : ℕ) (text : List ℕ) → Called (Serve start len (Text text)) first new → serving (state_after new.seen) start len ≡ Text text
still_served first new start len text called =
    ap (λ (s : State). serving s start len) (after_there (Serve start len (Text text)) first new called) ∙ sym (right_there (Serve start len (Text text)) first new called)

-- What was served is a blob's slice, or a collision is exhibited.
pub serve_binds : (first new : SeatView) (start len : ℕ) (text : List ℕ) → IsKeyed new.fixed.mode → Called (Serve start len (Text text)) first new → SeatSliceBinds new start len text
serve_binds first new start len text keyed called blob is =
    served_nodes_bind new.fixed new.seen blob start len text keyed is called.goes_on.legal (still_served first new start len text called)

-- It is accepted, or two pieces clash.
pub serve_accepted : (first new : SeatView) (start len : ℕ) (text : List ℕ) → Called (Serve start len (Text text)) first new → SeatSliceIsAccepted new start len text
serve_accepted first new start len text called =
    served_accepted new.fixed new.seen start len text called.goes_on.legal (still_served first new start len text called)
