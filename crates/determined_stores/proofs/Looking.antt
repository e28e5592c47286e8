-- Loads of two lone grips that have seen the same.
use Rattle.std.proofs.Common.{◌≡◌, ℕ, ◌^◌, ◌<◌, nat_lt, Bool, ◌||◌, if◌then◌else◌, List, [], ◌∷◌, ◌++◌, Option, is_none, is_some, sym, ap, subst, ◌∙◌}
use Rattle.bao_text.specs.declared.walk.Node.{Node}
use Rattle.holders.specs.declared.fixed.Fixed.{Fixed}
use Rattle.store_core.specs.declared.history.Call.TheVariants.{Parents, Read, Serve}
use Rattle.store_core.specs.declared.history.Event.{Event}
use Rattle.holders.specs.declared.piece.Piece.{Piece}
use Rattle.store_core.specs.declared.history.Storing.TheVariants.{OtherLength, Stored}
use Rattle.store_core.specs.declared.view.SeatView.{SeatView}
use Rattle.store_core.specs.Histories.{state_after}
use Rattle.store_core.specs.Knowledge.{Looked, LooksRound}
use Rattle.holders.specs.Room.{groups}
use Rattle.store_core.specs.Names.{Name}
use Rattle.holders.specs.Pieces.{length_of}
use Rattle.store_core.specs.Serves.{node_held, serving}
use Rattle.store_core.specs.States.{State, is_held, read_bytes}
use Rattle.store_core.specs.Views.{names_of}
use Rattle.store_core.proofs.Tells.{mask_unique}
use Rattle.store_steps.specs.Reads.{is_last, read_events}
use Rattle.store_steps.specs.Slices.{is_recorded, node_events, unserved_events, unstored_events}
use Rattle.store_steps.specs.Tells.{FindsHeld}
use Rattle.determined_stores.specs.Alone.{AreAlike}
use Rattle.determined_stores.proofs.Lone.{Came, came_alone}
use Rattle.determined_stores.proofs.Pairs.{alike_after, names_alike, other_alone}

-- Both see one state, and have the events that it gives.
pub record LookAlike (new next : SeatView) (one' other' : SeatView) : Type 0 where
  pub states : state_after next.seen ≡ state_after new.seen
  pub alike : AreAlike one' other'

pub looks_alike : (one new one' other next other' : SeatView) (events also : State → List Event) → AreAlike one other → Looked events one new → LooksRound new one' → Looked also other next
    → LooksRound next other' → ((s : State) → events s ≡ also s) → LookAlike new next one' other'
looks_alike one new one' other next other' events also alike looked round too around same =
    let ours : Came one new one' looked.between (events (state_after (one.seen ++ looked.between))) =
    came_alone one new one' looked.between (events (state_after (one.seen ++ looked.between))) alike.alone looked.goes_on round in
    let theirs : Came other next other' too.between (also (state_after (other.seen ++ too.between))) =
    came_alone other next other' too.between (also (state_after (other.seen ++ too.between))) (other_alone one other alike) too.goes_on around in
    let history : one.seen ++ looked.between ≡ other.seen ++ too.between =
    ap (λ (xs : List Event). one.seen ++ xs) (ours.before ∙ sym theirs.before) ∙ ap (λ (xs : List Event). xs ++ too.between) (sym alike.seen_are) in
    let after : AreAlike one' other' = alike_after one one' other other' (events (state_after (one.seen ++ looked.between))) (also (state_after (other.seen ++ too.between))) alike ours.goes
    theirs.goes (same (state_after (one.seen ++ looked.between)) ∙ ap (λ (h : List Event). also (state_after h)) history) in
    record { states = ap (λ (h : List Event). state_after h) (sym theirs.then ∙ after.seen_are ∙ ours.then); alike = after }

module _ (one new one' other next other' : SeatView) (alike : AreAlike one other) (round : LooksRound new one') (around : LooksRound next other') where
  names : names_of one ≡ names_of other
  names = sym (names_alike one other alike)

  fixed : one.fixed ≡ other.fixed
  fixed = sym alike.fixed_are

  pub loads_alike : (group at len m n : ℕ) → Looked (read_events one group at len) one new → Looked (read_events other group at len) other next → m < 2 ^ 64 → n < 2 ^ 64
      → FindsHeld group m new → FindsHeld group n next → (m ≡ n) × AreAlike one' other'
  loads_alike group at len m n looked too small low finds found =
      let both : LookAlike new next one' other' = looks_alike one new one' other next other' (read_events one group at len) (read_events other group at len) alike looked round too around
      (λ s.
      ap (λ (ns : List Name). if is_last one.fixed group at len s then record { who = ns; call = Read at len (read_bytes s at len) } ∷ [] else []) names
      ∙ ap (λ (f : Fixed). if is_last f group at len s then record { who = names_of other; call = Read at len (read_bytes s at len) } ∷ [] else []) fixed) in (
        mask_unique group m n (λ c. is_held (state_after new.seen) c) (record { small = small; bits = finds })
            (record { small = low; bits = λ c here. found c here ∙ ap (λ (s : State). is_held s c) both.states }),
        both.alike,
      )

  pub nodes_alike : (node : Node) (last : Bool) (start len : ℕ) (x y : Bool) → Looked (node_events one node last start len) one new
      → Looked (node_events other node last start len) other next → x ≡ is_some (node_held (state_after new.seen) node) → y ≡ is_some (node_held (state_after next.seen) node)
      → (x ≡ y) × AreAlike one' other'
  nodes_alike node last start len x y looked too is also =
      let both : LookAlike new next one' other' = looks_alike one new one' other next other' (node_events one node last start len) (node_events other node last start len) alike looked round
      too around (λ s. ap (λ (ns : List Name). if last || is_none (node_held s node) then record { who = ns; call = Serve start len (serving s start len) } ∷ [] else []) names) in
      (is ∙ sym (also ∙ ap (λ (s : State). is_some (node_held s node)) both.states), both.alike)

  pub unserved_alike : (start len : ℕ) (o p : Option ℕ) → Looked (unserved_events one start len) one new → Looked (unserved_events other start len) other next
      → o ≡ (state_after new.seen).recorded → p ≡ (state_after next.seen).recorded → (o ≡ p) × AreAlike one' other'
  unserved_alike start len o p looked too is also =
      let both : LookAlike new next one' other' = looks_alike one new one' other next other' (unserved_events one start len) (unserved_events other start len) alike looked round too around
      (λ s. ap (λ (ns : List Name). if is_none s.recorded then record { who = ns; call = Serve start len (serving s start len) } ∷ [] else []) names) in
      (is ∙ sym (also ∙ ap (λ (s : State). s.recorded) both.states), both.alike)

  pub unstored_alike : (group : ℕ) (piece its : Piece) (o p : Option ℕ) → its ≡ piece → Looked (unstored_events one group piece) one new → Looked (unstored_events other group its) other next
      → o ≡ (state_after new.seen).recorded → p ≡ (state_after next.seen).recorded → (o ≡ p) × AreAlike one' other'
  unstored_alike group piece its o p same looked too is also =
      let they : Looked (unstored_events other group piece) other next = subst (λ (x : Piece). Looked (unstored_events other group x) other next) same too in
      let stored : Fixed → List Name → State → List Event = λ f ns s. if is_recorded s.recorded (length_of piece)
      then (if nat_lt group (groups f) then [] else record { who = ns; call = Parents group piece (Stored 0) } ∷ [])
      else record { who = ns; call = Parents group piece OtherLength } ∷ [] in
      let both : LookAlike new next one' other' = looks_alike one new one' other next other' (unstored_events one group piece) (unstored_events other group piece) alike looked round they
      around (λ s. ap (λ (ns : List Name). stored one.fixed ns s) names ∙ ap (λ (f : Fixed). stored f (names_of other) s) fixed) in
      (is ∙ sym (also ∙ ap (λ (s : State). s.recorded) both.states), both.alike)
