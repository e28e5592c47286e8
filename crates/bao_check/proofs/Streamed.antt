-- What a walk over a reader shows of the bytes that were read, and of all that the reader had.
use Rattle.std.proofs.Common.{◌≡◌, ℕ, ◌+◌, ◌-◌, ◌<◌, ◌≤◌, true, List, [], ◌∷◌, ◌++◌, length, take, drop, Option, None, Some, IfErr, IfSome, MatchResult, OnOk, Result, Ok, Err, refl, sym, ap, subst, ◌∙◌, arith, inl, inr, length-append, length-drop}
use Rattle.std.proofs.lemmas.List.{append-nil, append_assoc, drop-append-le, drop_at, take-append-le, take_all}
use Rattle.std.specs.Io.KnownBytes.{Consumes}
use Rattle.std.specs.List.{AllByRecursion}
use Rattle.b3word.specs.Compression.{cv}
use Rattle.b3tree.specs.declared.mode.Mode.{Mode}
use Rattle.b3tree.specs.Hashing.{rooted}
use Rattle.bao_text.specs.declared.choice.Choice.{Choice}
use Rattle.bao_text.specs.Cut.{claimed}
use Rattle.bao_text.specs.Nodes.{TreeNode, nodes}
use Rattle.bao_check.specs.declared.fault.CheckFault.{CheckFault}
use Rattle.bao_check.specs.declared.fault.CheckFault.TheVariants.{Short, Mismatch, Trailing, Memory, Reader}
use Rattle.bao_check.specs.declared.part.WaitingPart.{WaitingPart}
use Rattle.bao_check.specs.Accepted.{IsAccepted, IsGoodNode, bytes_at, end_of, node_input, part_value, places_of, slice_nodes}
use Rattle.bao_check.specs.Faults.{IsFirstBad, IsMismatchAt, IsShortAt}
use Rattle.bao_check.specs.Streams.{BeginsAccepted, EndsWithin, IsCutShort, IsOfBytes, IsReadFault, IsReadStop, IsStreamFault, Reads}
use Rattle.bao_check.specs.Waiting.{AreParts, CheckTask, HasRefused, IsStopAs, WaitsIn, next_size}
use Rattle.bao_check.proofs.Feeding.{refused_stop, waits_stop}
use Rattle.bao_check.proofs.Lists.{All-from_members, All-member, All-second}
use Rattle.bao_check.proofs.Subtrees.{claimed-append}

pub Consumes-then : (a b c : Option (List ℕ)) (xs ys : List ℕ) → Consumes a b xs → Consumes b c ys → Consumes a c (xs ++ ys)
Consumes-then None b c xs ys h k = tt
Consumes-then (Some a) None c xs ys h k = absurd h
Consumes-then (Some a) (Some b) None xs ys h k = absurd k
Consumes-then (Some a) (Some b) (Some c) xs ys h k = h ∙ ap (λ (s : List ℕ). xs ++ s) k ∙ sym (append_assoc xs ys c)

pub Reads-then : {a b c : List ℕ} {x y z : Option (List ℕ)} → Reads a b x y → Reads b c y z → Reads a c x z
Reads-then h k = search (arith, append_assoc, Consumes-then)

pub Reads-nothing : (a : List ℕ) (x : Option (List ℕ)) → Reads a a x x
Reads-nothing a None = record { bytes = []; grown = sym (append-nil a); consumed = tt }
Reads-nothing a (Some x) = record { bytes = []; grown = sym (append-nil a); consumed = refl }

-- the node that was read
pub node_of : (taken new bytes slice : List ℕ) (at : ℕ) → new ≡ taken ++ bytes → slice ≡ new → at ≡ length taken → take (length slice - at) (drop at slice) ≡ bytes
node_of taken new bytes slice at grown is at_is = grind (arith, drop_at, take_all, length-append)

-- what is read from nothing on is all that was read
pub all_read : {old new : List ℕ} {before after : Option (List ℕ)} → old ≡ [] → Reads old new before after → Consumes before after new
all_read {before = before} {after = after} none h = subst (Consumes before after) (sym (h.grown ∙ ap (λ (s : List ℕ). s ++ h.bytes) none)) h.consumed

module _ (mode : Mode) (root : List ℕ) (start len : ℕ) where
  abbrev task : CheckTask
  task = record { mode = mode; root = root; start = start; len = len }

  -- the node that comes next isn't
  within_node : (taken more : List ℕ) (n : ℕ) → IsStopAs task (taken ++ more) (Short (length taken)) (length taken + n) → EndsWithin mode root (taken ++ more) (slice_nodes (taken ++ more) start len)
  within_node taken more n stop = search (arith)

  cut_at : (taken more : List ℕ) (n : ℕ) (after : Option (List ℕ)) (fault : CheckFault) → IsCutShort n taken (taken ++ more) after fault
      → IsStopAs task (taken ++ more) (Short (length taken)) (length taken + n) → IsReadStop mode root start len (taken ++ more) after fault
  cut_at taken more n after (Short at) h stop = grind arith
  cut_at taken more n after (Mismatch at) h stop = absurd h
  cut_at taken more n after (Trailing at) h stop = absurd h
  cut_at taken more n after Memory h stop = within_node taken more n stop
  cut_at taken more n after Reader h stop = within_node taken more n stop

  few : (taken more : List ℕ) (n : ℕ) (after : Option (List ℕ)) (fault : CheckFault) → 0 < n → IsCutShort n taken (taken ++ more) after fault → length more < n
  few taken more n after (Short at) some h = omega (arith, length-append taken more, h.1)
  few taken more n after (Mismatch at) some h = absurd h
  few taken more n after (Trailing at) some h = absurd h
  few taken more n after Memory some h = omega (arith, length-append taken more, h, some)
  few taken more n after Reader some h = omega (arith, length-append taken more, h)

  pub cut_node : (choice : Choice) (parts : List WaitingPart) (taken new more : List ℕ) (n : ℕ) (after : Option (List ℕ)) (fault : CheckFault) → new ≡ taken ++ more → AreParts choice parts
      → choice.chunks ≡ true → next_size parts ≡ Some n → 0 < n → ((more : List ℕ) → WaitsIn task choice parts (taken ++ more) (length taken))
      → IsCutShort n taken new after fault → IsReadStop mode root start len new after fault
  cut_node choice parts taken new more n after fault is all there next some waits cut =
      let own : IsCutShort n taken (taken ++ more) after fault = subst (λ (s : List ℕ). IsCutShort n taken s after fault) is cut in
      subst (λ (s : List ℕ). IsReadStop mode root start len s after fault) (sym is)
      (cut_at taken more n after fault own (waits_stop task choice parts taken more n all there next (few taken more n after fault some own) (waits more)))

  -- a node that was read isn't good: the first in each encoding that begins with what was read
  pub wrong_node : (read : List ℕ) (after : Option (List ℕ)) (at end : ℕ) (fault : CheckFault) → fault ≡ Mismatch at → length read ≡ end
      → ((more : List ℕ) → IsStopAs task (read ++ more) fault end) → IsReadStop mode root start len read after fault
  wrong_node read after at end fault is len_is stops =
      let stop : (more : List ℕ) → IsStopAs task (read ++ more) (Mismatch at) end = λ more. subst (λ (f : CheckFault). IsStopAs task (read ++ more) f end) is (stops more) in
      let own : IsStopAs task read (Mismatch at) end = subst (λ (s : List ℕ). IsStopAs task s (Mismatch at) end) (append-nil read) (stop []) in
      subst (IsReadStop mode root start len read after) (sym is) (
        (own.long, (own.place, own.bad, own.is.0, len_is ∙ own.ends)),
        (λ more. let h = stop more in (h.long, (h.place, h.bad, h.is.0, h.is.1))),
      )

  pub refused_node : (choice : Choice) (parts : List WaitingPart) (at : ℕ) (taken read node : List ℕ) (after : Option (List ℕ)) (fault : CheckFault) → read ≡ taken ++ node
      → HasRefused mode choice parts at (length node) node fault → at ≡ length taken → ((more : List ℕ) → WaitsIn task choice parts (taken ++ more) (length taken))
      → IsReadStop mode root start len read after fault
  refused_node choice parts at taken read node after fault is refused at_is waits =
      subst (λ (s : List ℕ). IsReadStop mode root start len s after fault) (sym is)
      (wrong_node (taken ++ node) after at (length taken + length node) fault refused.is (length-append taken node)
      (refused_stop task choice parts at (length node) taken node fault refused at_is waits))

-- a read that ended so, and what that is of all that the reader had
pub read_fault : (mode : Mode) (root : List ℕ) (start len : ℕ) (new : List ℕ) (after : Option (List ℕ)) (fault : CheckFault) → IsReadStop mode root start len new after fault
    → IsReadFault mode root start len new after fault
read_fault mode root start len new after (Short at) h = h
read_fault mode root start len new after (Mismatch at) h = h.0
read_fault mode root start len new after (Trailing at) h = h
read_fault mode root start len new after Memory h = h
read_fault mode root start len new after Reader h = h

-- nothing more is there
whole_read : (new rest all : List ℕ) → all ≡ new ++ rest → rest ≡ [] → new ≡ all
whole_read new rest all is none = sym (append-nil new) ∙ ap (λ (s : List ℕ). new ++ s) (sym none) ∙ sym is

stream_fault : (mode : Mode) (root : List ℕ) (start len : ℕ) (new rest all : List ℕ) (fault : CheckFault) → all ≡ new ++ rest
    → IsReadStop mode root start len new (Some rest) fault → IsStreamFault mode root start len all fault
stream_fault mode root start len new rest all (Short at) is h =
    subst (λ (s : List ℕ). IsShortAt mode root s (slice_nodes s start len) at) (whole_read new rest all is h.1) h.0
stream_fault mode root start len new rest all (Mismatch at) is h = subst (λ (s : List ℕ). IsMismatchAt mode root s (slice_nodes s start len) at) (sym is) (h.1 rest)
stream_fault mode root start len new rest all (Trailing at) is h = h
stream_fault mode root start len new rest all Memory is h = tt
stream_fault mode root start len new rest all Reader is h = tt

-- the bytes of a node that is there, whatever follows
bytes_at-append : (text rest : List ℕ) (place : ℕ × TreeNode) → end_of place ≤ length text → bytes_at (text ++ rest) place ≡ bytes_at text place
bytes_at-append text rest place there = grind (arith, drop-append-le, take-append-le, length-drop)

-- the nodes of an accepted encoding are good, whatever follows
good-append : (mode : Mode) (root text rest : List ℕ) (nodes : List TreeNode) → IsAccepted mode root text nodes
    → AllByRecursion (IsGoodNode mode root (text ++ rest) (places_of nodes)) (places_of nodes)
good-append mode root text rest nodes h =
    let places : List (ℕ × TreeNode) = places_of nodes in
    let good = All-member (IsGoodNode mode root text places) places h.good in
    All-from_members (IsGoodNode mode root (text ++ rest) places) places (λ place member.
    let here : IsGoodNode mode root text places place = good place member in
    let same : bytes_at (text ++ rest) place ≡ bytes_at text place = bytes_at-append text rest place here.0 in (
      omega (arith, here.0, length-append text rest),
      (
        λ top. ap (λ (s : List ℕ). cv (rooted (node_input mode place.1 s))) same ∙ here.1.0 top,
        λ above side there below.
            ap (λ (s : List ℕ). cv (node_input mode place.1 s)) same ∙ here.1.1 above side there below
            ∙ ap (part_value side) (sym (bytes_at-append text rest above (good above there).0)),
      ),
    ))

-- so are they in all bytes that begin with it
begun_good : (mode : Mode) (root : List ℕ) (start len : ℕ) (all : List ℕ) → BeginsAccepted mode root start len all
    → AllByRecursion (IsGoodNode mode root all (places_of (slice_nodes all start len))) (places_of (slice_nodes all start len))
begun_good mode root start len all h =
    let same : slice_nodes h.text start len ≡ slice_nodes all start len =
    ap (λ (n : ℕ). nodes n start len) (sym (claimed-append h.text h.rest h.accepted.long) ∙ ap claimed (sym h.split)) in
    subst (λ (nodes : List TreeNode). AllByRecursion (IsGoodNode mode root all (places_of nodes)) (places_of nodes)) same
    (subst (λ (s : List ℕ). AllByRecursion (IsGoodNode mode root s (places_of (slice_nodes h.text start len))) (places_of (slice_nodes h.text start len))) (sym h.split)
    (good-append mode root h.text h.rest (slice_nodes h.text start len) h.accepted))

none_bad : (mode : Mode) (root all : List ℕ) (places : List (ℕ × TreeNode)) (place : ℕ × TreeNode) → AllByRecursion (IsGoodNode mode root all places) places → IsFirstBad mode root all places place → ⊥
none_bad mode root all places place good bad =
    let P : ℕ × TreeNode → Type 0 = IsGoodNode mode root all places in
    bad.bad (All-second P bad.earlier (place ∷ bad.later) (subst (AllByRecursion P) bad.split good)).0

-- bytes that begin with an accepted encoding have no first fault
pub fault-not_begun : (mode : Mode) (root : List ℕ) (start len : ℕ) (all : List ℕ) (fault : CheckFault) → IsStreamFault mode root start len all fault → IsOfBytes fault
    → BeginsAccepted mode root start len all → ⊥
fault-not_begun mode root start len all (Short at) (inl short) own h = absurd (omega (arith, short.0, h.accepted.long, ap length h.split, length-append h.text h.rest))
fault-not_begun mode root start len all (Short at) (inr bad) own h = search (arith, none_bad, begun_good)
fault-not_begun mode root start len all (Mismatch at) bad own h = search (arith, none_bad, begun_good)
fault-not_begun mode root start len all (Trailing at) bad own h = bad
fault-not_begun mode root start len all Memory bad own h = own
fault-not_begun mode root start len all Reader bad own h = own

-- What a check says of all that the reader had, where that is known.
abbrev pub Verdict : Mode → List ℕ → ℕ → ℕ → List ℕ → Result (Unit {0}) CheckFault → Type 0
Verdict mode root start len all result = MatchResult result (λ _. BeginsAccepted mode root start len all) (IsStreamFault mode root start len all)

pub verdict : (mode : Mode) (root : List ℕ) (start len : ℕ) (new : List ℕ) (before after : Option (List ℕ)) (result : Result (Unit {0}) CheckFault) → Consumes before after new
    → OnOk result (IsAccepted mode root new (slice_nodes new start len)) → IfErr result (IsReadStop mode root start len new after)
    → IfSome before (λ all. Verdict mode root start len all result)
verdict mode root start len new None after result read ok err = tt
verdict mode root start len new (Some all) None result read ok err = absurd read
verdict mode root start len new (Some all) (Some rest) (Ok x) read ok err = record { text = new; rest = rest; split = read; accepted = ok }
verdict mode root start len new (Some all) (Some rest) (Err fault) read ok err = stream_fault mode root start len new rest all fault read err

pub refused : (mode : Mode) (root : List ℕ) (start len : ℕ) (before : Option (List ℕ)) (result : Result (Unit {0}) CheckFault)
    → IfSome before (λ all. Verdict mode root start len all result)
    → IfSome before (λ all. IfErr result (λ fault. IsOfBytes fault → ¬ BeginsAccepted mode root start len all))
refused mode root start len None result h = tt
refused mode root start len (Some all) (Ok x) h = tt
refused mode root start len (Some all) (Err fault) h = fault-not_begun mode root start len all fault h
