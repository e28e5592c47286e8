-- What a call that serves answers where all nodes of the slice are held.
use Rattle.std.proofs.Common.{◌≡◌, ◌∙◌, ℕ, true, List, [], ◌∷◌, ◌++◌, Option, None, Some, Result, Ok, Err, IfErr, is_some, ap, refl, subst, sym}
use Rattle.std.specs.Prelude.{Contains}
use Rattle.bao_text.specs.declared.walk.Node.{Node}
use Rattle.bao_text.specs.NodeNames.{slice_names}
use Rattle.bao_text.specs.Texts.{length_text}
use Rattle.bao_check.proofs.Lists.{Contains-head, Contains-tail}
use Rattle.store_core.specs.declared.fault.ServeFault.{ServeFault}
use Rattle.store_core.specs.declared.fault.ServeFault.TheVariants as refused
use Rattle.store_core.specs.declared.history.Call.TheVariants.{Serve}
use Rattle.store_core.specs.declared.history.Serving.{Serving}
use Rattle.store_core.specs.declared.history.Serving.TheVariants.{Lacking, NoLength, Text}
use Rattle.store_core.specs.declared.view.SeatView.{SeatView}
use Rattle.store_core.specs.Histories.{state_after}
use Rattle.store_core.specs.Knowledge.{Called, event_of}
use Rattle.store_core.specs.Serves.{after_bytes, node_and, node_held, served, serving, serving_of}
use Rattle.store_core.specs.States.{State}
use Rattle.store_shared.specs.Serving.{SeatIsRefused}
use Rattle.store_shared.specs.Calls.{HasSliceHeld}
use Rattle.store_shared.proofs.Slices.{Keeps, after_there, keeps_seen, right_there}
use Rattle.store_shared.proofs.Holding.{some_there}
use Rattle.store_core.specs.declared.history.Call.{Call}

after_on : (bytes : List ℕ) (rest later : Serving) (text : List ℕ) → ((t : List ℕ) → rest ≡ Text t → later ≡ Text t) → after_bytes bytes rest ≡ Text text → after_bytes bytes later ≡ Text text
after_on bytes NoLength later text on is = let no : NoLength ≡ Text text = is in cc
after_on bytes (Lacking node) later text on is = let no : Lacking node ≡ Text text = is in cc
after_on bytes (Text t) later text on is = subst (λ (r : Serving). after_bytes bytes r ≡ Text text) (sym (on t refl)) is

node_on : (node : Node) (o later : Option (List ℕ)) (rest rest' : Serving) (text : List ℕ) → ((bytes : List ℕ) → o ≡ Some bytes → later ≡ Some bytes)
    → ((t : List ℕ) → rest ≡ Text t → rest' ≡ Text t) → node_and node o rest ≡ Text text → node_and node later rest' ≡ Text text
node_on node None later rest rest' text lasts on is = let no : Lacking node ≡ Text text = is in cc
node_on node (Some bytes) later rest rest' text lasts on is =
    subst (λ (o : Option (List ℕ)). node_and node o rest' ≡ Text text) (sym (lasts bytes refl)) (after_on bytes rest rest' text on is)

served_on : (s t : State) → ((node : Node) (bytes : List ℕ) → node_held s node ≡ Some bytes → node_held t node ≡ Some bytes) → (nodes : List Node) (text : List ℕ)
    → served s nodes ≡ Text text → served t nodes ≡ Text text
served_on s t lasts [] text is = is
served_on s t lasts (node ∷ nodes) text is =
    node_on node (node_held s node) (node_held t node) (served s nodes) (served t nodes) text (lasts node) (served_on s t lasts nodes) is

serving_on : (o later : Option ℕ) (s t : State) (start len : ℕ) (text : List ℕ) → ((l : ℕ) → o ≡ Some l → later ≡ Some l)
    → ((node : Node) (bytes : List ℕ) → node_held s node ≡ Some bytes → node_held t node ≡ Some bytes) → serving_of o s start len ≡ Text text → serving_of later t start len ≡ Text text
serving_on None later s t start len text length lasts is = let no : NoLength ≡ Text text = is in cc
serving_on (Some l) later s t start len text length lasts is =
    subst (λ (o : Option ℕ). serving_of o t start len ≡ Text text) (sym (length l refl))
    (after_on (length_text l) (served s (slice_names l start len)) (served t (slice_names l start len)) text (served_on s t lasts (slice_names l start len)) is)

-- the answer to a call that serves is this slice
pub served_there : (start len : ℕ) (answer : Serving) (old new : SeatView) (text : List ℕ) → Called (Serve start len answer) old new → serving (state_after old.seen) start len ≡ Text text
    → answer ≡ Text text
served_there start len answer old new text called is =
    let call : Call = Serve start len answer in
    let k : Keeps (state_after old.seen) (state_after new.seen) = keeps_seen old new called.between (event_of old call ∷ []) called.goes_on in
    right_there call old new called ∙ ap (λ (s : State). serving s start len) (sym (after_there call old new called))
    ∙ serving_on (state_after old.seen).recorded (state_after new.seen).recorded (state_after old.seen) (state_after new.seen) start len text k.recorded k.nodes is

-- nodes that are all held are served
served_all : (s : State) (nodes : List Node) → ((node : Node) → Contains nodes node → is_some (node_held s node) ≡ true) → (text : List ℕ) × (served s nodes ≡ Text text)
served_all s [] all = ([], refl)
served_all s (node ∷ nodes) all =
    let first = some_there (node_held s node) (all node (Contains-head nodes node)) in
    let rest = served_all s nodes (λ x there. all x (Contains-tail nodes node x there)) in
    (first.0 ++ rest.0, ap (λ (o : Option (List ℕ)). node_and node o (served s nodes)) first.1 ∙ ap (λ (r : Serving). after_bytes first.0 r) rest.1)

-- so the slice is
pub all_served : (s : State) (l start len : ℕ) → s.recorded ≡ Some l → ((node : Node) → Contains (slice_names l start len) node → is_some (node_held s node) ≡ true)
    → (text : List ℕ) × (serving s start len ≡ Text text)
all_served s l start len recorded held =
    let w = served_all s (slice_names l start len) held in (
      length_text l ++ w.0,
      ap (λ (o : Option ℕ). serving_of o s start len) recorded ∙ ap (λ (r : Serving). after_bytes (length_text l) r) w.1,
    )

pub slice_served : (view : SeatView) (start len : ℕ) → HasSliceHeld view start len → (text : List ℕ) × (serving (state_after view.seen) start len ≡ Text text)
slice_served view start len has = all_served (state_after view.seen) has.length start len has.recorded has.held

-- and nothing but memory refuses it
refused_held : (start len : ℕ) (old new : SeatView) (fault : ServeFault) → SeatIsRefused start len fault old new → HasSliceHeld old start len → fault ≡ refused.Memory
refused_held start len old new refused.NoLength called has =
    let w = slice_served old start len has in
    let no : NoLength ≡ Text w.0 = served_there start len NoLength old new w.0 called w.1 in cc
refused_held start len old new (refused.Lacking node) called has =
    let w = slice_served old start len has in
    let no : Lacking node ≡ Text w.0 = served_there start len (Lacking node) old new w.0 called w.1 in cc
refused_held start len old new refused.Memory sees has = refl

pub held_is_served : {T : Type 0} (start len : ℕ) (old new : SeatView) (result : Result T ServeFault) → IfErr result (λ fault. SeatIsRefused start len fault old new)
    → HasSliceHeld old start len → IfErr result (λ fault. fault ≡ refused.Memory)
held_is_served start len old new (Ok text) is has = tt
held_is_served start len old new (Err fault) is has = refused_held start len old new fault is has
