-- A script's run, step by step and line by line.
use Rattle.std.proofs.Common.{◌≡◌, ◌∙◌, ℕ, ◌+◌, ◌<◌, ◌≤◌, zero, suc, List, [], ◌∷◌, ◌++◌, Option, Some, length, map, take, drop, get_or, slice_get, option_to_list, ap, sym, subst, refl, append-nil, append_assoc, add_assoc, add-zero, zero-add, arith}
use Rattle.std.proofs.lemmas.List.{map-append, take_more}
use Rattle.std.proofs.lemmas.List.Concat.{flat_map-append}
use Rattle.std.proofs.lemmas.Option.{get_or_from_slice_get}
use Rattle.bao_check.specs.declared.checked.Checked.{Checked}
use Rattle.holders.specs.declared.fixed.Fixed.{Fixed}
use Rattle.store_core.specs.declared.history.Event.{Event}
use Rattle.store_core.specs.declared.micro.MicroStep.{MicroStep}
use Rattle.store_core.specs.declared.micro.Reply.{Reply}
use Rattle.store_core.specs.declared.schedule.ScheduleRun.{ScheduleRun}
use Rattle.store_core.specs.declared.store.Store.{Store}
use Rattle.store_core.specs.Machine.{Machine, start, store_of}
use Rattle.store_core.specs.Replays.{LeavesStore}
use Rattle.store_core.specs.Schedules.{IsLegalStep, Runs, after_step, step_events}
use Rattle.store_core.specs.ScheduleRuns.{DoesRefuse, DoesStep, IsStepped}
use Rattle.store_core.specs.States.{held_count}
use Rattle.store_core.specs.Stores.{fixed_of, state_of}
use Rattle.store_core.proofs.Running.{runs_more}
use Rattle.bao_script.specs.declared.line.Line.{Line}
use Rattle.bao_script.specs.declared.line.Line.TheVariants.{Claim, Hash, Write, Fill, Publish, Give, Load, Settle, Length}
use Rattle.bao_script.specs.declared.numbered.NumberedLine.{NumberedLine}
use Rattle.bao_script.specs.Printouts.{IsPrinted}
use Rattle.bao_script.specs.Replies.{held_line, reply_line}
use Rattle.bao_script.specs.ScriptRuns.{RanLines, RanSteps, RunsScript, StandsAt, StopsAmong, StopsAtLine, answers_text}
use Rattle.bao_script.specs.Slices.{ArePieces, slices_of}
use Rattle.bao_script.specs.Steps.{pieces_among, pieces_in, steps_of}

-- the text of answers in two parts
text_more : (old mid new : List ℕ) (first second : List (ℕ × Reply)) → mid ≡ old ++ answers_text first → new ≡ mid ++ answers_text second
    → new ≡ old ++ answers_text (first ++ second)
text_more old mid new first second begun goes_on =
    goes_on ∙ ap (λ (text : List ℕ). text ++ answers_text second) begun ∙ append_assoc old (answers_text first) (answers_text second)
    ∙ ap (λ (text : List ℕ). old ++ text) (sym (flat_map-append (λ (answer : ℕ × Reply). reply_line answer.0 answer.1) first second))

-- the list with one more
one_more : {A : Type 0} (xs : List A) (i : ℕ) (x : A) → i < length xs → slice_get xs i ≡ Some x → take i xs ++ x ∷ [] ≡ take (i + 1) xs
one_more xs i x below found = ap (λ y. take i xs ++ y ∷ []) (sym (get_or_from_slice_get xs i x x found)) ∙ sym (take_more xs i x below)

-- Steps: none,
pub steps_none : (fixed : Fixed) (pieces : List Checked) (m : Machine) (number : ℕ) (text : List ℕ) (run : ScheduleRun) → StandsAt fixed pieces m run
    → RanSteps fixed pieces m [] number text text run
steps_none fixed pieces m number text run stands =
    record { replies = []; events = []; next = m; runs = (refl, refl, refl); stands = stands; text = sym (append-nil text) }

-- one more,
pub steps_more : (fixed : Fixed) (pieces : List Checked) (m : Machine) (steps : List MicroStep) (i number : ℕ) (old mid new : List ℕ) (run after : ScheduleRun) (step : MicroStep) (reply : Option Reply)
    → i < length steps → slice_get steps i ≡ Some step → RanSteps fixed pieces m (take i steps) number old mid run → DoesStep pieces run after step reply
    → new ≡ mid ++ answers_text (map (λ r. (number, r)) (option_to_list reply)) → RanSteps fixed pieces m (take (i + 1) steps) number old new after
steps_more fixed pieces m steps i number old mid new run after step reply below found ran does text =
    let stands = ran.stands in
    let done : IsStepped fixed pieces stands.0 stands.1 stands.2 ran.next step reply after = does fixed stands.0 stands.1 stands.2 ran.next stands.3 in
    let next : Machine = after_step fixed pieces ran.next step reply in
    let replies : List Reply = ran.replies ++ option_to_list reply in
    let events : List Event = ran.events ++ step_events fixed ran.next step reply in
    record {
      replies = replies;
      events = events;
      next = next;
      runs = subst (λ (xs : List MicroStep). Runs fixed pieces m xs replies events next) (one_more steps i step below found)
          (runs_more fixed pieces m (take i steps) ran.replies ran.events ran.next step reply ran.runs done.legal done.right);
      stands = (stands.0 ++ step ∷ [], stands.1 ++ option_to_list reply, stands.2 ++ step_events fixed ran.next step reply, done.has);
      text = text_more old mid new (map (λ r. (number, r)) ran.replies) (map (λ r. (number, r)) (option_to_list reply)) ran.text text
          ∙ ap (λ (answers : List (ℕ × Reply)). old ++ answers_text answers) (sym (map-append (λ (r : Reply). (number, r)) ran.replies (option_to_list reply)));
    }

-- or one that isn't legal
pub steps_stop : (fixed : Fixed) (pieces : List Checked) (m : Machine) (steps : List MicroStep) (i number : ℕ) (old mid : List ℕ) (run : ScheduleRun) (step : MicroStep)
    → slice_get steps i ≡ Some step → RanSteps fixed pieces m (take i steps) number old mid run → DoesRefuse pieces run step → StopsAmong fixed pieces m steps
steps_stop fixed pieces m steps i number old mid run step found ran refuses =
    let has = ran.stands.3 in (
      i,
      record {
        replies = ran.replies;
        history = ran.events;
        last = ran.next;
        runs = ran.runs;
        step = step;
        is = found;
        illegal = λ legal. refuses ran.next has.served has.stands (subst (λ (f : Fixed). IsLegalStep f pieces ran.next step) (sym has.fixed_is) legal);
      },
    )

script_more : (fixed : Fixed) (pieces : List Checked) (piece : ℕ) (m : Machine) (lines : List NumberedLine) (answers : List (ℕ × Reply)) (last : Machine) (line : NumberedLine)
    (replies : List Reply) (events : List Event) (next : Machine) → RunsScript fixed pieces piece m lines answers last
    → Runs fixed pieces last (steps_of (piece + pieces_among lines) line.line) replies events next
    → RunsScript fixed pieces piece m (lines ++ line ∷ []) (answers ++ map (λ r. (line.number, r)) replies) next
script_more fixed pieces piece m [] answers last line replies events next ran runs =
    let P : Machine → ℕ → Type 0 = λ x n. Runs fixed pieces x (steps_of n line.line) replies events next in
    let here : Runs fixed pieces m (steps_of piece line.line) replies events next =
    subst (λ (n : ℕ). P m n) (add-zero piece) (subst (λ (x : Machine). P x (piece + 0)) ran.1 runs) in (
      replies,
      events,
      next,
      [],
      here,
      ap (λ (xs : List (ℕ × Reply)). xs ++ map (λ r. (line.number, r)) replies) ran.0 ∙ sym (append-nil (map (λ r. (line.number, r)) replies)),
      (refl, refl),
    )
script_more fixed pieces piece m (first ∷ lines) answers last line replies events next ran runs =
    let P : ℕ → Type 0 = λ n. Runs fixed pieces last (steps_of n line.line) replies events next in
    let more : List (ℕ × Reply) = map (λ r. (line.number, r)) replies in (
      ran.0,
      ran.1,
      ran.2,
      ran.3 ++ more,
      ran.4,
      ap (λ (xs : List (ℕ × Reply)). xs ++ more) ran.5 ∙ append_assoc (map (λ r. (first.number, r)) ran.0) ran.3 more,
      script_more fixed pieces (piece + pieces_in first.line) ran.2 lines ran.3 last line replies events next ran.6
          (subst P (sym (add_assoc piece (pieces_in first.line) (pieces_among lines))) runs),
    )

-- one more,
pub lines_more : (fixed : Fixed) (pieces : List Checked) (m : Machine) (lines : List NumberedLine) (i piece : ℕ) (old mid new : List ℕ) (run after : ScheduleRun) (d : NumberedLine)
    → i < length lines → piece ≡ pieces_among (take i lines) → RanLines fixed pieces m (take i lines) old mid run
    → ((n : Machine) → StandsAt fixed pieces n run → RanSteps fixed pieces n (steps_of piece (get_or lines i d).line) (get_or lines i d).number mid new after)
    → RanLines fixed pieces m (take (i + 1) lines) old new after
lines_more fixed pieces m lines i piece old mid new run after d below place ran does =
    let line : NumberedLine = get_or lines i d in
    let done : RanSteps fixed pieces ran.last (steps_of piece line.line) line.number mid new after = does ran.last ran.stands in
    let answers : List (ℕ × Reply) = ran.answers ++ map (λ r. (line.number, r)) done.replies in
    record {
      answers = answers;
      last = done.next;
      runs = subst (λ (xs : List NumberedLine). RunsScript fixed pieces 0 m xs answers done.next) (sym (take_more lines i d below))
          (script_more fixed pieces 0 m (take i lines) ran.answers ran.last line done.replies done.events done.next ran.runs
          (subst (λ (n : ℕ). Runs fixed pieces ran.last (steps_of n line.line) done.replies done.events done.next) (place ∙ sym (zero-add (pieces_among (take i lines)))) done.runs));
      stands = done.stands;
      text = text_more old mid new ran.answers (map (λ r. (line.number, r)) done.replies) ran.text done.text;
    }

-- or one among whose steps one isn't legal
split_at : {A : Type 0} (xs : List A) (i : ℕ) (d : A) → i < length xs → xs ≡ take i xs ++ get_or xs i d ∷ drop (suc i) xs
split_at [] i d below = absurd (omega arith)
split_at (x ∷ xs) zero d below = refl
split_at (x ∷ xs) (suc i) d below = ap (λ ys. x ∷ ys) (split_at xs i d (omega arith))

pub lines_stop : (fixed : Fixed) (pieces : List Checked) (m : Machine) (lines : List NumberedLine) (i piece number : ℕ) (old mid : List ℕ) (run : ScheduleRun) (d : NumberedLine)
    → i < length lines → piece ≡ pieces_among (take i lines) → RanLines fixed pieces m (take i lines) old mid run
    → ((n : Machine) → StandsAt fixed pieces n run → ((get_or lines i d).number ≡ number) × StopsAmong fixed pieces n (steps_of piece (get_or lines i d).line))
    → StopsAtLine fixed pieces 0 m lines number
lines_stop fixed pieces m lines i piece number old mid run d below place ran stops = (
  take i lines,
  get_or lines i d,
  drop (suc i) lines,
  split_at lines i d below,
  (stops ran.last ran.stands).0,
  ran.answers,
  ran.last,
  ran.runs,
  subst (λ (n : ℕ). StopsAmong fixed pieces ran.last (steps_of n (get_or lines i d).line)) (place ∙ sym (zero-add (pieces_among (take i lines)))) (stops ran.last ran.stands).1,
)

-- how many pieces are the lines' own, with one more
among_more : (lines : List NumberedLine) (line : NumberedLine) → pieces_among (lines ++ line ∷ []) ≡ pieces_among lines + pieces_in line.line
among_more [] line = omega arith
among_more (first ∷ lines) line = omega (arith, among_more lines line)

pub pieces_more : (lines : List NumberedLine) (i piece : ℕ) (d : NumberedLine) → i < length lines → piece ≡ pieces_among (take i lines)
    → piece + pieces_in (get_or lines i d).line ≡ pieces_among (take (i + 1) lines)
pieces_more lines i piece d below place =
    ap (λ (n : ℕ). n + pieces_in (get_or lines i d).line) place ∙ sym (among_more (take i lines) (get_or lines i d)) ∙ ap pieces_among (sym (take_more lines i d below))

-- at most one is a line's own
pub own_pieces : (line : Line) (n : ℕ) → n ≡ pieces_in line → n ≤ 1
own_pieces (Claim seat group want) n is = omega arith
own_pieces (Hash seat file start len) n is = omega arith
own_pieces (Write seat chunk word) n is = omega arith
own_pieces (Fill seat chunk) n is = omega arith
own_pieces (Publish seat group) n is = omega arith
own_pieces (Give seat group mask) n is = omega arith
own_pieces (Load seat at len) n is = omega arith
own_pieces (Settle seat) n is = omega arith
own_pieces (Length seat) n is = omega arith

pub printed : (fixed : Fixed) (files : List (List ℕ)) (script : List NumberedLine) (pieces : List Checked) (run : ScheduleRun) (store : Store) (held : ℕ) (shown text : List ℕ)
    → ArePieces fixed.mode fixed.root.0 (slices_of files script) pieces → RanLines fixed pieces start script [] shown run → LeavesStore run store
    → held ≡ held_count (state_of store) (fixed_of store).capacity → text ≡ shown ++ held_line held → IsPrinted fixed files script text
printed fixed files script pieces run store held shown text named ran leaves held_is text_is =
    let stands = ran.stands in
    let left = leaves fixed pieces stands.0 stands.1 stands.2 ran.last stands.3 in
    let count : held ≡ held_count (store_of ran.last) fixed.capacity =
    held_is ∙ ap (λ s. held_count s (fixed_of store).capacity) left.0.words ∙ ap (λ (x : Machine). held_count (store_of x) (fixed_of store).capacity) left.1
    ∙ ap (λ f. held_count (store_of ran.last) f.capacity) left.0.fixed_is in
    record {
      pieces = pieces;
      named = named;
      answers = ran.answers;
      last = ran.last;
      runs = ran.runs;
      text_is = text_is ∙ ap (λ (t : List ℕ). t ++ held_line held) ran.text ∙ ap (λ n. answers_text ran.answers ++ held_line n) count;
    }
