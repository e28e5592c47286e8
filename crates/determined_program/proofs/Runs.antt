-- A script's run is one, whichever checks its pieces come from.
use Rattle.std.proofs.Common.{◌≡◌, ℕ, zero, suc, ◌+◌, false, List, [], ◌∷◌, ◌++◌, map, Option, None, Some, option_map, option_to_list, slice_get, take, refl, sym, ap, subst, ◌∙◌, arith}
use Rattle.bao_check.specs.declared.checked.Checked.{Checked}
use Rattle.holders.specs.declared.fixed.Fixed.{Fixed}
use Rattle.store_core.specs.declared.history.Event.{Event}
use Rattle.holders.specs.declared.piece.Piece.{Piece}
use Rattle.store_core.specs.declared.micro.MicroStep.{MicroStep}
use Rattle.store_core.specs.declared.micro.MicroStep.TheVariants.{Hash}
use Rattle.store_core.specs.declared.micro.Reply.{Reply}
use Rattle.store_core.specs.Machine.{Machine, start, store_of, with_seat}
use Rattle.holders.specs.Pieces.{piece_of}
use Rattle.store_core.specs.Schedules.{HasPiece, IsLegalStep, IsReply, Runs, after_step, step_events}
use Rattle.store_core.specs.States.{held_count}
use Rattle.store_core.proofs.OneRun.{runs_are_one}
use Rattle.bao_script.specs.declared.numbered.NumberedLine.{NumberedLine}
use Rattle.bao_script.specs.Printouts.{IsPrinted, IsStopped}
use Rattle.bao_script.specs.Replies.{held_line}
use Rattle.bao_script.specs.ScriptRuns.{RunsScript, StopsAmong, answers_text}
use Rattle.bao_script.specs.Slices.{slices_of}
use Rattle.bao_script.specs.Steps.{pieces_among, pieces_in, steps_of}
use Rattle.determined_program.proofs.Pieces.{Alike, AlikeAt, AllAlike, all_alike}

-- each step of a run was legal in its turn, from the one machine that those before it lead to
legal_at : (fixed : Fixed) (pieces : List Checked) (m : Machine) (steps : List MicroStep) (i : ℕ) (replies others : List Reply) (history events : List Event) (end last : Machine) (step : MicroStep)
    → Runs fixed pieces m steps replies history end → Runs fixed pieces m (take i steps) others events last → slice_get steps i ≡ Some step → IsLegalStep fixed pieces last step
legal_at fixed pieces m [] i replies others history events end last step ran cut is = cc
legal_at fixed pieces m (first ∷ steps) zero replies others history events end last step ran cut is =
    let same : first ≡ step = cc in
    subst (λ (x : MicroStep). IsLegalStep fixed pieces last x) same (subst (λ (y : Machine). IsLegalStep fixed pieces y first) (sym cut.2) ran.3)
legal_at fixed pieces m (first ∷ steps) (suc i) replies others history events end last step ran cut is =
    let here : (r : Option Reply) → IsReply fixed m first r
    → Runs fixed pieces m (first ∷ []) (option_to_list r ++ []) (step_events fixed m first r ++ []) (after_step fixed pieces m first r) =
    λ r right. (r, [], [], ran.3, right, refl, refl, (refl, refl, refl)) in
    let same = (runs_are_one fixed pieces m (first ∷ []) (option_to_list cut.0 ++ []) (option_to_list ran.0 ++ []) (step_events fixed m first cut.0 ++ []) (step_events fixed m first ran.0 ++ [])
    (after_step fixed pieces m first cut.0) (after_step fixed pieces m first ran.0) (here cut.0 cut.4) (here ran.0 ran.4)).2 in
    legal_at fixed pieces (after_step fixed pieces m first ran.0) steps i ran.1 cut.1 ran.2 cut.2 end last step ran.7
    (subst (λ (y : Machine). Runs fixed pieces y (take i steps) cut.1 cut.2 last) same cut.7) is

-- the one list has a piece where the other has
found : (o u : Option Checked) (x : Checked) → AlikeAt o u → o ≡ Some x → (y : Checked) × (u ≡ Some y) × Alike x y
found None u x alike e = absurd (let no = e in cc)
found (Some z) None x alike e = absurd alike
found (Some z) (Some y) x alike e = let is : z ≡ x = cc in (y, refl, subst (λ (k : Checked). Alike k y) is alike)

has_piece : (fixed : Fixed) (xs ys : List Checked) (i : ℕ) → AllAlike xs ys → HasPiece fixed xs i → HasPiece fixed ys i
has_piece fixed xs ys i alike has =
    let other = found (slice_get xs i) (slice_get ys i) has.piece (alike i) has.is in
    record { piece = other.0; is = other.1; root = sym other.2.0 ∙ has.root; mode = sym other.2.1 ∙ has.mode }

same_piece : (base : ℕ) (o u : Option Checked) → AlikeAt o u → option_map (piece_of base) o ≡ option_map (piece_of base) u
same_piece base None None alike = refl
same_piece base (Some x) (Some y) alike = ap (λ (p : Piece). Some p) (alike.2 base)
same_piece base None (Some y) alike = absurd alike
same_piece base (Some x) None alike = absurd alike

also_legal : (fixed : Fixed) (xs ys : List Checked) (m : Machine) (step : MicroStep) → AllAlike xs ys → IsLegalStep fixed xs m step → IsLegalStep fixed ys m step
also_legal fixed xs ys m (Hash n i) alike h = has_piece fixed xs ys i alike h
also_legal fixed xs ys m step alike h = h

same_after : (fixed : Fixed) (xs ys : List Checked) (m : Machine) (step : MicroStep) (reply : Option Reply) → AllAlike xs ys → after_step fixed xs m step reply ≡ after_step fixed ys m step reply
same_after fixed xs ys m (Hash n i) reply alike =
    ap (λ (p : Option Piece). with_seat m n (record (m.seat n) { piece = p; written = λ c w. false })) (same_piece fixed.base (slice_get xs i) (slice_get ys i) (alike i))
same_after fixed xs ys m step reply alike = refl

also_runs : (fixed : Fixed) (xs ys : List Checked) (m : Machine) (steps : List MicroStep) (replies : List Reply) (history : List Event) (last : Machine) → AllAlike xs ys
    → Runs fixed xs m steps replies history last → Runs fixed ys m steps replies history last
also_runs fixed xs ys m [] replies history last alike r = r
also_runs fixed xs ys m (step ∷ steps) replies history last alike r = (
  r.0,
  r.1,
  r.2,
  also_legal fixed xs ys m step alike r.3,
  r.4,
  r.5,
  r.6,
  subst (λ (k : Machine). Runs fixed ys k steps r.1 r.2 last) (same_after fixed xs ys m step r.0 alike)
      (also_runs fixed xs ys (after_step fixed xs m step r.0) steps r.1 r.2 last alike r.7),
)

also_script : (fixed : Fixed) (xs ys : List Checked) (piece : ℕ) (m : Machine) (lines : List NumberedLine) (answers : List (ℕ × Reply)) (last : Machine) → AllAlike xs ys
    → RunsScript fixed xs piece m lines answers last → RunsScript fixed ys piece m lines answers last
also_script fixed xs ys piece m [] answers last alike r = r
also_script fixed xs ys piece m (line ∷ lines) answers last alike r = (
  r.0,
  r.1,
  r.2,
  r.3,
  also_runs fixed xs ys m (steps_of piece line.line) r.0 r.1 r.2 alike r.4,
  r.5,
  also_script fixed xs ys (piece + pieces_in line.line) r.2 lines r.3 last alike r.6,
)

one_script_run : (fixed : Fixed) (xs : List Checked) (piece : ℕ) (m : Machine) (lines : List NumberedLine) (a b : List (ℕ × Reply)) (last end : Machine)
    → RunsScript fixed xs piece m lines a last → RunsScript fixed xs piece m lines b end → (a ≡ b) × (last ≡ end)
one_script_run fixed xs piece m [] a b last end r s = (r.0 ∙ sym s.0, r.1 ∙ sym s.1)
one_script_run fixed xs piece m (line ∷ lines) a b last end r s =
    let same = runs_are_one fixed xs m (steps_of piece line.line) r.0 s.0 r.1 s.1 r.2 s.2 r.4 s.4 in
    let rest = one_script_run fixed xs (piece + pieces_in line.line) r.2 lines r.3 s.3 last end r.6
    (subst (λ (k : Machine). RunsScript fixed xs (piece + pieces_in line.line) k lines s.3 end) (sym same.2) s.6) in
    let name : List Reply → List (ℕ × Reply) = map (λ reply. (line.number, reply)) in
    (r.5 ∙ ap (λ (k : List Reply). name k ++ r.3) same.0 ∙ ap (λ (k : List (ℕ × Reply)). name s.0 ++ k) rest.0 ∙ sym s.5, rest.1)

pub one_printout : (fixed : Fixed) (files : List (List ℕ)) (lines : List NumberedLine) (s t : List ℕ) → IsPrinted fixed files lines s → IsPrinted fixed files lines t → s ≡ t
one_printout fixed files lines s t a b =
    let alike = all_alike fixed.mode fixed.root.0 (slices_of files lines) b.pieces a.pieces b.named a.named in
    let same = one_script_run fixed a.pieces 0 start lines a.answers b.answers a.last b.last a.runs (also_script fixed b.pieces a.pieces 0 start lines b.answers b.last alike b.runs) in
    a.text_is ∙ ap (λ (k : List (ℕ × Reply)). answers_text k ++ held_line (held_count (store_of a.last) fixed.capacity)) same.0
    ∙ ap (λ (k : Machine). answers_text b.answers ++ held_line (held_count (store_of k) fixed.capacity)) same.1 ∙ sym b.text_is

also_stops : (fixed : Fixed) (xs ys : List Checked) (m : Machine) (steps : List MicroStep) → AllAlike xs ys → AllAlike ys xs → StopsAmong fixed ys m steps → StopsAmong fixed xs m steps
also_stops fixed xs ys m steps forth back stop =
    let bad = stop.1 in (
      stop.0,
      record {
        replies = bad.replies;
        history = bad.history;
        last = bad.last;
        runs = also_runs fixed ys xs m (take stop.0 steps) bad.replies bad.history bad.last back bad.runs;
        step = bad.step;
        is = bad.is;
        illegal = λ legal. bad.illegal (also_legal fixed xs ys bad.last bad.step forth legal);
      },
    )

-- a line at which the run stops didn't run
here : (fixed : Fixed) (xs : List Checked) (m last : Machine) (piece at : ℕ) (line : NumberedLine) (replies : List Reply) (events : List Event) (next : Machine) → last ≡ m → at ≡ piece + 0
    → Runs fixed xs m (steps_of piece line.line) replies events next → StopsAmong fixed xs last (steps_of at line.line) → ⊥
here fixed xs m last piece at line replies events next same place runs stop =
    let e : at ≡ piece = omega (arith, place) in
    let bad : StopsAmong fixed xs m (steps_of piece line.line) =
    subst (λ (k : Machine). StopsAmong fixed xs k (steps_of piece line.line)) same (subst (λ (n : ℕ). StopsAmong fixed xs last (steps_of n line.line)) e stop) in
    bad.1.illegal (legal_at fixed xs m (steps_of piece line.line) bad.0 replies bad.1.replies events bad.1.history next bad.1.last bad.1.step runs bad.1.runs bad.1.is)

ran_apart : (fixed : Fixed) (xs : List Checked) (piece at : ℕ) (m : Machine) (before : List NumberedLine) (line : NumberedLine) (after : List NumberedLine) (a b : List (ℕ × Reply)) (last end : Machine)
    → RunsScript fixed xs piece m (before ++ line ∷ after) a last → RunsScript fixed xs piece m before b end → at ≡ piece + pieces_among before
    → StopsAmong fixed xs end (steps_of at line.line) → ⊥
ran_apart fixed xs piece at m [] line after a b last end r s place stop = here fixed xs m end piece at line r.0 r.1 r.2 s.1 place r.4 stop
ran_apart fixed xs piece at m (l ∷ before) line after a b last end r s place stop =
    let same = runs_are_one fixed xs m (steps_of piece l.line) r.0 s.0 r.1 s.1 r.2 s.2 r.4 s.4 in
    ran_apart fixed xs (piece + pieces_in l.line) at r.2 before line after r.3 s.3 last end r.6
    (subst (λ (k : Machine). RunsScript fixed xs (piece + pieces_in l.line) k before s.3 end) (sym same.2) s.6) (omega (arith, place)) stop

stops_one : (fixed : Fixed) (xs : List Checked) (piece at place : ℕ) (m : Machine) (before also after rest : List NumberedLine) (one other : NumberedLine) (a b : List (ℕ × Reply)) (last end : Machine)
    → before ++ one ∷ after ≡ also ++ other ∷ rest → RunsScript fixed xs piece m before a last → RunsScript fixed xs piece m also b end
    → at ≡ piece + pieces_among before → place ≡ piece + pieces_among also
    → StopsAmong fixed xs last (steps_of at one.line) → StopsAmong fixed xs end (steps_of place other.line) → one ≡ other
stops_one fixed xs piece at place m [] [] after rest one other a b last end same r s e f stop end_stop = cc
stops_one fixed xs piece at place m [] (l ∷ also) after rest one other a b last end same r s e f stop end_stop =
    let head : one ≡ l = cc in
    absurd (here fixed xs m last piece at l s.0 s.1 s.2 r.1 e s.4 (subst (λ (k : NumberedLine). StopsAmong fixed xs last (steps_of at k.line)) head stop))
stops_one fixed xs piece at place m (l ∷ before) [] after rest one other a b last end same r s e f stop end_stop =
    let head : other ≡ l = cc in
    absurd (here fixed xs m end piece place l r.0 r.1 r.2 s.1 f r.4 (subst (λ (k : NumberedLine). StopsAmong fixed xs end (steps_of place k.line)) head end_stop))
stops_one fixed xs piece at place m (l ∷ before) (k ∷ also) after rest one other a b last end same r s e f stop end_stop =
    let head : k ≡ l = cc in
    let tail : before ++ one ∷ after ≡ also ++ other ∷ rest = cc in
    let t : RunsScript fixed xs piece m (l ∷ also) b end = subst (λ (z : NumberedLine). RunsScript fixed xs piece m (z ∷ also) b end) head s in
    let g : place ≡ piece + (pieces_in l.line + pieces_among also) = subst (λ (z : NumberedLine). place ≡ piece + (pieces_in z.line + pieces_among also)) head f in
    let both = runs_are_one fixed xs m (steps_of piece l.line) r.0 t.0 r.1 t.1 r.2 t.2 r.4 t.4 in
    stops_one fixed xs (piece + pieces_in l.line) at place r.2 before also after rest one other r.3 t.3 last end tail r.6
    (subst (λ (z : Machine). RunsScript fixed xs (piece + pieces_in l.line) z also t.3 end) (sym both.2) t.6) (omega (arith, e)) (omega (arith, g)) stop end_stop

pub printout_apart : (fixed : Fixed) (files : List (List ℕ)) (lines : List NumberedLine) (text : List ℕ) (n : ℕ) → IsPrinted fixed files lines text → IsStopped fixed files lines n → ⊥
printout_apart fixed files lines text n a b =
    let forth = all_alike fixed.mode fixed.root.0 (slices_of files lines) a.pieces b.pieces a.named b.named in
    let back = all_alike fixed.mode fixed.root.0 (slices_of files lines) b.pieces a.pieces b.named a.named in
    let s = b.stops in
    ran_apart fixed a.pieces 0 (0 + pieces_among s.0) start s.0 s.1 s.2 a.answers s.5 a.last s.6
    (subst (λ (k : List NumberedLine). RunsScript fixed a.pieces 0 start k a.answers a.last) s.3 a.runs)
    (also_script fixed b.pieces a.pieces 0 start s.0 s.5 s.6 back s.7) refl (also_stops fixed a.pieces b.pieces s.6 (steps_of (0 + pieces_among s.0) s.1.line) forth back s.8)

pub one_stop : (fixed : Fixed) (files : List (List ℕ)) (lines : List NumberedLine) (m n : ℕ) → IsStopped fixed files lines m → IsStopped fixed files lines n → m ≡ n
one_stop fixed files lines m n a b =
    let forth = all_alike fixed.mode fixed.root.0 (slices_of files lines) a.pieces b.pieces a.named b.named in
    let back = all_alike fixed.mode fixed.root.0 (slices_of files lines) b.pieces a.pieces b.named a.named in
    let r = a.stops in
    let s = b.stops in
    let same : r.1 ≡ s.1 =
    stops_one fixed a.pieces 0 (0 + pieces_among r.0) (0 + pieces_among s.0) start r.0 s.0 r.2 s.2 r.1 s.1 r.5 s.5 r.6 s.6 (sym r.3 ∙ s.3) r.7
    (also_script fixed b.pieces a.pieces 0 start s.0 s.5 s.6 back s.7) refl refl r.8 (also_stops fixed a.pieces b.pieces s.6 (steps_of (0 + pieces_among s.0) s.1.line) forth back s.8) in
    sym r.4 ∙ ap (λ (k : NumberedLine). k.number) same ∙ s.4
