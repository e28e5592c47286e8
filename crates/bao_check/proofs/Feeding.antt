-- An encoding that is checked in pieces: what its parts come to, a node at a time.
use Rattle.std.proofs.Common.{◌≡◌, ℕ, zero, suc, Option, None, is_some, IfSome, Bool, not, ◌==◌, nat_eq, ◌+◌, ◌-◌, ◌*◌, ◌/◌, ◌^◌, ◌<◌, ◌≤◌, List, [], ◌∷◌, ◌++◌, length, take, drop, map, Some, if◌then◌else◌, true, false, refl, sym, ap, subst, ◌∙◌, arith, inl, inr, length-append}
use Rattle.std.specs.Option.{option_map}
use Rattle.std.specs.Prelude.{IsNone}
use Rattle.std.proofs.Math.Seq.{drop-cons}
use Rattle.std.proofs.lemmas.Bool.{cases_Bool, cases_lt, eqb-true, le-leb, lt-leb}
use Rattle.std.proofs.lemmas.Option.{get_or_from_slice_get, slice_get-get_or, slice_get_within}
use Rattle.std.proofs.lemmas.List.{append-nil, append_assoc, drop_all, drop_at, length-map, map-append, take-append-drop, take_at}
use Rattle.b3tree.specs.declared.mode.Mode.{Mode}
use Rattle.b3tree.specs.Chunk.{last_chunk_input}
use Rattle.b3tree.specs.Tree.{IsLeftLen, left_len, parent_input}
use Rattle.bao_text.specs.declared.choice.Choice.{Choice}
use Rattle.bao_text.specs.declared.walk.WaitingSubtree.{WaitingSubtree}
use Rattle.bao_text.specs.Choice.{of_slice, wants}
use Rattle.bao_text.specs.Cut.{claimed}
use Rattle.bao_text.specs.NodeNames.{AreWaiting}
use Rattle.bao_text.specs.Nodes.{left, right}
use Rattle.bao_text.proofs.NodeNaming.{AreWaiting-last, Parted, Taken, parted, taken_last}
use Rattle.bao_check.specs.declared.asked.Asked.{Asked}
use Rattle.bao_check.specs.declared.fault.CheckFault.{CheckFault}
use Rattle.bao_check.specs.declared.fault.CheckFault.TheVariants.{Short, Mismatch, Trailing, Memory, Reader}
use Rattle.b3word.specs.declared.input.Input.{Input}
use Rattle.bao_check.specs.declared.form.EncodingForm.TheVariants.{Slice}
use Rattle.bao_check.specs.declared.part.WaitingPart.{WaitingPart}
use Rattle.bao_check.specs.Accepted.{part_value, slice_nodes}
use Rattle.bao_check.specs.Checking.{IsNodeFault}
use Rattle.bao_check.specs.Streams.{IsOfBytes}
use Rattle.bao_check.specs.Waiting.{AllCome, AreParts, FirstComes, HasRefused, HasRefusedIn, HasTaken, IsBefore, IsAcceptedAs, IsFaultAs, IsStopAs, CheckTask, PartComes, WaitsIn, last_part, next_size, part_size, shape}
use Rattle.bao_check.specs.Walk.{Meets, PassesIn, StopsIn, asked_root, chunk_at, parent_at}
use Rattle.bao_check.specs.Whole.{StandsAt}
use Rattle.bao_check.proofs.Parts.{below}
use Rattle.bao_check.proofs.Laws.{first_fault-not_accepted}
use Rattle.bao_check.proofs.Sizes.{wants_whole}
use Rattle.bao_check.proofs.Subtrees.{both_pass, claimed-append, far_part_stops, first_fault, near_part_stops, pass_chunk, pass_unwanted, stop_chunk, stop_parent, top_accepted, top_stopped, top_trailing}

not_both : true ≡ false → ⊥
not_both e = cc

-- what a subtree comes to that nothing follows
only_first : (asked : Asked) (number n : ℕ) (mode : Mode) (choice : Choice) (text : List ℕ) (at : ℕ) (o : Option CheckFault) (end : ℕ)
    → FirstComes asked number n mode choice [] text at o end → PartComes asked mode choice number n text at o end
only_first asked number n mode choice text at o end (inl h) = h.1
only_first asked number n mode choice text at o end (inr h) = grind arith

-- a part put last comes first
pub AllCome-last : (mode : Mode) (choice : Choice) (parts : List WaitingPart) (part : WaitingPart) (text : List ℕ) (at : ℕ) (o : Option CheckFault) (end : ℕ)
    → FirstComes part.asked part.number part.len mode choice parts text at o end → AllCome mode choice (parts ++ part ∷ []) text at o end
AllCome-last mode choice [] part text at o end (inl h) = inr (at, (refl, refl), h.1)
AllCome-last mode choice [] part text at o end (inr h) = grind (arith, only_first)
AllCome-last mode choice (first ∷ later) part text at o end (inl h) = inl (h.0, AllCome-last mode choice later part text at o end (inl h))
AllCome-last mode choice (first ∷ later) part text at o end (inr (middle, passes, inl h)) =
    inl (h.0, AllCome-last mode choice later part text at o end (inr (middle, passes, h.1)))
AllCome-last mode choice (first ∷ later) part text at o end (inr (middle, passes, inr h)) =
    inr (h.0, AllCome-last mode choice later part text at None h.0 (inr (middle, passes, h.1)), h.2)

pub AllCome-first : (mode : Mode) (choice : Choice) (parts : List WaitingPart) (part : WaitingPart) (text : List ℕ) (at : ℕ) (o : Option CheckFault) (end : ℕ)
    → AllCome mode choice (parts ++ part ∷ []) text at o end → FirstComes part.asked part.number part.len mode choice parts text at o end
AllCome-first mode choice [] part text at o end (inl h) = absurd (not_both (sym h.0 ∙ ap (λ (x : Option CheckFault). is_some x) h.1.0))
AllCome-first mode choice [] part text at None end (inr h) = grind arith
AllCome-first mode choice [] part text at (Some fault) end (inr h) = grind arith
AllCome-first mode choice (first ∷ later) part text at o end (inl h) = grind (arith, AllCome-first mode choice later part text at o end h.1)
AllCome-first mode choice (first ∷ later) part text at o end (inr h) = grind (arith, not_both, AllCome-first mode choice later part text at None h.0 h.1)

pub before_unwanted : (choice : Choice) (asked : Asked) (number n : ℕ) (parts : List WaitingPart) → wants choice (1024 * number) n ≡ false → IsBefore choice asked number n parts parts
before_unwanted choice asked number n parts skipped =
    record { comes = λ mode text at o end inside h. inr (at, pass_unwanted asked mode choice number n text at inside skipped, h) }

pub before_last : (choice : Choice) (parts after : List WaitingPart) (part : WaitingPart) → after ≡ parts ++ part ∷ [] → IsBefore choice part.asked part.number part.len parts after
before_last choice parts after part is = search (arith, AllCome-first, is)

-- the shapes of parts with one more
pub shapes_last : (parts after : List WaitingPart) (part : WaitingPart) → after ≡ parts ++ part ∷ [] → map shape after ≡ map shape parts ++ shape part ∷ []
shapes_last parts after part is = ap (map shape) is ∙ map-append shape parts (part ∷ [])

pub AreParts-last : (choice : Choice) (parts after : List WaitingPart) (part : WaitingPart) → after ≡ parts ++ part ∷ [] → AreParts choice parts
    → wants choice (1024 * part.number) part.len ≡ true → 1024 * part.number + part.len ≤ 2 ^ 64 - 1 → part.len ≤ 1024 * 2 ^ (54 - length parts) → AreParts choice after
AreParts-last choice parts after part is all wanted within levels =
    let shapes : List WaitingSubtree = map shape parts in
    let fits : part.len ≤ 1024 * 2 ^ (54 - length shapes) = subst (λ (k : ℕ). part.len ≤ 1024 * 2 ^ (54 - k)) (sym (length-map parts shape)) levels in
    subst (AreWaiting choice 54) (sym (shapes_last parts after part is)) (AreWaiting-last choice 54 shapes (shape part) all (wanted, (within, fits)))

-- where a node stands that comes after those taken
abbrev pub stands : (taken node more : List ℕ) → StandsAt ((taken ++ node) ++ more) (length taken) node
stands taken node more = (more, ap (drop (length taken)) (append_assoc taken node more) ∙ drop_at taken (node ++ more) (length taken) refl)

pub ends : (taken node : List ℕ) (k : ℕ) → length node ≡ k → length (taken ++ node) ≡ length taken + k
ends taken node k len = omega (arith, length-append taken node, len)

-- it is the next one in every encoding that has it there
module _ (asked : Asked) (mode : Mode) (choice : Choice) (number n : ℕ) (taken node more : List ℕ) (wanted : wants choice (1024 * number) n ≡ true) where
  abbrev text : List ℕ
  text = (taken ++ node) ++ more

  abbrev here : ℕ
  here = length taken

  all_len : length text ≡ here + length node + length more
  all_len = length-append (taken ++ node) more ∙ ap (λ (k : ℕ). k + length more) (length-append taken node)

  own : (k : ℕ) → length node ≡ k → take k (drop here text) ≡ node
  own k len = ap (take k) (stands taken node more).1 ∙ take_at node more k len

  module _ (there : choice.chunks ≡ true) (one : n ≤ 1024) where
    pub chunk_there : length node ≡ n → Meets asked (last_chunk_input mode number node) → PassesIn asked mode choice number n text here (length (taken ++ node))
    chunk_there len meets =
        subst (PassesIn asked mode choice number n text here) (sym (ends taken node n len))
        (pass_chunk asked mode choice number n text here wanted one there (omega (arith, all_len, len))
        (subst (λ (s : List ℕ). Meets asked (last_chunk_input mode number s)) (sym (own n len)) meets))

    pub chunk_wrong : length node ≡ n → ¬ Meets asked (last_chunk_input mode number node) → StopsIn asked mode choice number n text here (Mismatch here) (here + n)
    chunk_wrong len wrong = grind (arith, stop_chunk, wanted, all_len, own)

    pub chunk_short : length node < n → more ≡ [] → StopsIn asked mode choice number n text here (Short here) (here + n)
    chunk_short less none = stop_chunk asked mode choice number n text here wanted one there (Short here) (refl, omega (arith, all_len, less, ap length none))

  module _ (parent : 1024 < n) where
    pub parent_wrong : length node ≡ 64 → ¬ Meets asked (parent_input mode (part_value left node) (part_value right node)) → StopsIn asked mode choice number n text here (Mismatch here) (here + 64)
    parent_wrong len wrong =
        stop_parent asked mode choice number n text here wanted parent (Mismatch here)
        (refl, omega (arith, all_len, len), subst (λ (s : List ℕ). ¬ Meets asked (parent_input mode (part_value left s) (part_value right s))) (sym (own 64 len)) wrong)

    pub parent_short : length node < 64 → more ≡ [] → StopsIn asked mode choice number n text here (Short here) (here + 64)
    parent_short less none = stop_parent asked mode choice number n text here wanted parent (Short here) (refl, omega (arith, all_len, less, ap length none))

    -- the parent is there, and what its parts come to is what the subtree comes to
    module _ (near far : Asked) (len : length node ≡ 64) (meets : Meets asked (parent_input mode (part_value left node) (part_value right node)))
        (near_is : near ≡ below left node) (far_is : far ≡ below right node) where
      fits : here + 64 ≤ length text
      fits = omega (arith, all_len, len)

      met : Meets asked (parent_at mode text here)
      met = subst (λ (s : List ℕ). Meets asked (parent_input mode (part_value left s) (part_value right s))) (sym (own 64 len)) meets

      near_asks : near ≡ below left (take 64 (drop here text))
      near_asks = near_is ∙ ap (below left) (sym (own 64 len))

      far_asks : far ≡ below right (take 64 (drop here text))
      far_asks = far_is ∙ ap (below right) (sym (own 64 len))

      pub halves_pass : (middle end : ℕ) → PassesIn near mode choice number (left_len n) text (length (taken ++ node)) middle
          → PassesIn far mode choice (number + left_len n / 1024) (n - left_len n) text middle end → PassesIn asked mode choice number n text here end
      halves_pass middle end first second =
          both_pass asked mode choice number n text here wanted parent near far (left_len n) refl fits met near_asks far_asks middle end
          (subst (λ (k : ℕ). PassesIn near mode choice number (left_len n) text k middle) (ends taken node 64 len) first) second

      -- or a part of it stops
      pub second_stops : (middle : ℕ) (o : Option CheckFault) (end : ℕ) → is_some o ≡ true → PassesIn near mode choice number (left_len n) text (length (taken ++ node)) middle
          → PartComes far mode choice (number + left_len n / 1024) (n - left_len n) text middle o end → PartComes asked mode choice number n text here o end
      second_stops middle None end some first second = absurd (not_both (sym some))
      second_stops middle (Some fault) end some first second =
          far_part_stops asked mode choice number n text here wanted parent near far (left_len n) refl fits met near_asks far_asks middle fault end
          (subst (λ (k : ℕ). PassesIn near mode choice number (left_len n) text k middle) (ends taken node 64 len) first) second

      pub first_stops : (o : Option CheckFault) (end : ℕ) → is_some o ≡ true → PartComes near mode choice number (left_len n) text (length (taken ++ node)) o end
          → PartComes asked mode choice number n text here o end
      first_stops None end some first = absurd (not_both (sym some))
      first_stops (Some fault) end some first = grind (arith, near_part_stops, fits, met, near_asks, far_asks, ends)

-- all of a part taken, of which nothing more comes
pub all_taken_from : (mode : Mode) (choice : Choice) (before after : List WaitingPart) (part : WaitingPart) (node : List ℕ) → before ≡ after ++ part ∷ []
    → ((taken more : List ℕ) → PassesIn part.asked mode choice part.number part.len ((taken ++ node) ++ more) (length taken) (length (taken ++ node)))
    → HasTaken mode choice before after node
all_taken_from mode choice before after part node is here = search (arith, is, AllCome-last)

-- one node taken: a chunk
pub chunk_taken_from : (mode : Mode) (choice : Choice) (before after : List WaitingPart) (part : WaitingPart) (node : List ℕ) → before ≡ after ++ part ∷ []
    → wants choice (1024 * part.number) part.len ≡ true → choice.chunks ≡ true → part.len ≤ 1024 → length node ≡ part.len
    → Meets part.asked (last_chunk_input mode part.number node) → HasTaken mode choice before after node
chunk_taken_from mode choice before after part node is wanted there one len meets = search (arith, all_taken_from, is, chunk_there, wanted)

-- or a parent, in whose place its parts come
pub parent_taken_from : (mode : Mode) (choice : Choice) (before rest middle after : List WaitingPart) (part : WaitingPart) (node : List ℕ) (near far : Asked) → before ≡ rest ++ part ∷ []
    → wants choice (1024 * part.number) part.len ≡ true → 1024 < part.len → length node ≡ 64
    → Meets part.asked (parent_input mode (part_value left node) (part_value right node)) → near ≡ below left node → far ≡ below right node
    → IsBefore choice near part.number (left_len part.len) middle after
    → IsBefore choice far (part.number + left_len part.len / 1024) (part.len - left_len part.len) rest middle
    → HasTaken mode choice before after node
parent_taken_from mode choice before rest middle after part node near far is wanted parent len meets near_is far_is first second =
    let passed = λ (taken more : List ℕ). halves_pass part.asked mode choice part.number part.len taken node more wanted parent near far len meets near_is far_is in
    let stopped_second = λ (taken more : List ℕ). second_stops part.asked mode choice part.number part.len taken node more wanted parent near far len meets near_is far_is in
    let stopped_first = λ (taken more : List ℕ). first_stops part.asked mode choice part.number part.len taken node more wanted parent near far len meets near_is far_is in
    let inside : (taken more : List ℕ) → length (taken ++ node) ≤ length ((taken ++ node) ++ more) = λ taken more. omega (arith, length-append (taken ++ node) more) in
    record {
      comes = λ taken more o end h.
          let text : List ℕ = (taken ++ node) ++ more in
          subst (λ (ps : List WaitingPart). AllCome mode choice ps text (length taken) o end) (sym is)
          (AllCome-last mode choice rest part text (length taken) o end
          (elim (first.comes mode text (length (taken ++ node)) o end (inside taken more) h) [
            | inl one ↦ inl (one.0, stopped_first taken more o end one.0 one.1)
            | inr a ↦
                elim (second.comes mode text a.0 o end a.1.within a.2) [
                  | inl one ↦ inl (one.0, stopped_second taken more a.0 o end one.0 a.1 one.1)
                  | inr b ↦ inr (b.0, passed taken more a.0 b.0 a.1 b.1, b.2)
                ]
          ]));
    }

-- what is known after a node, from what was known before it
pub WaitsIn-taken : (task : CheckTask) (choice : Choice) (before after : List WaitingPart) (taken node : List ℕ) → HasTaken task.mode choice before after node
    → ((more : List ℕ) → WaitsIn task choice before (taken ++ more) (length taken))
    → (more : List ℕ) → WaitsIn task choice after ((taken ++ node) ++ more) (length (taken ++ node))
WaitsIn-taken task choice before after taken node step waits more = search (arith, append_assoc)

-- one that hasn't the value asked for is the first fault
part_refused : (mode : Mode) (choice : Choice) (before after : List WaitingPart) (part : WaitingPart) (node : List ℕ) (at : ℕ) → before ≡ after ++ part ∷ []
    → ((taken more : List ℕ) → StopsIn part.asked mode choice part.number part.len ((taken ++ node) ++ more) (length taken) (Mismatch (length taken)) (length taken + length node))
    → HasRefused mode choice before at (length node) node (Mismatch at)
part_refused mode choice before after part node at is wrong = search (arith, is, AllCome-last)

pub chunk_refused : (mode : Mode) (choice : Choice) (before after : List WaitingPart) (part : WaitingPart) (node : List ℕ) (at : ℕ) → before ≡ after ++ part ∷ []
    → wants choice (1024 * part.number) part.len ≡ true → choice.chunks ≡ true → part.len ≤ 1024 → length node ≡ part.len
    → ¬ Meets part.asked (last_chunk_input mode part.number node) → HasRefused mode choice before at (length node) node (Mismatch at)
chunk_refused mode choice before after part node at is wanted there one len wrong =
    part_refused mode choice before after part node at is (λ taken more.
    subst (StopsIn part.asked mode choice part.number part.len ((taken ++ node) ++ more) (length taken) (Mismatch (length taken))) (ap (λ (k : ℕ). length taken + k) (sym len))
    (chunk_wrong part.asked mode choice part.number part.len taken node more wanted there one len wrong))

pub parent_refused : (mode : Mode) (choice : Choice) (before after : List WaitingPart) (part : WaitingPart) (node : List ℕ) (at : ℕ) → before ≡ after ++ part ∷ []
    → wants choice (1024 * part.number) part.len ≡ true → 1024 < part.len → length node ≡ 64
    → ¬ Meets part.asked (parent_input mode (part_value left node) (part_value right node)) → HasRefused mode choice before at (length node) node (Mismatch at)
parent_refused mode choice before after part node at is wanted parent len wrong =
    part_refused mode choice before after part node at is (λ taken more.
    subst (StopsIn part.asked mode choice part.number part.len ((taken ++ node) ++ more) (length taken) (Mismatch (length taken))) (ap (λ (k : ℕ). length taken + k) (sym len))
    (parent_wrong part.asked mode choice part.number part.len taken node more wanted parent len wrong))

-- the last part, taken off
pub part_taken : (choice : Choice) (parts rest : List WaitingPart) (part : WaitingPart) → AreParts choice parts → parts ≡ rest ++ part ∷ []
    → Taken choice (map shape parts) (map shape rest) (shape part)
part_taken choice parts rest part all is = taken_last choice (map shape parts) (map shape rest) (shape part) all (shapes_last rest parts part is)

-- what one that has parts leaves room for
pub part_parted : (choice : Choice) (rest : List WaitingPart) (part : WaitingPart) (l : ℕ) → AreParts choice (rest ++ part ∷ []) → 1024 < part.len → l ≡ left_len part.len → IsLeftLen part.len l
    → Parted choice (shape part) (length rest) l
part_parted choice rest part l all more l_is is =
    subst (λ (k : ℕ). Parted choice (shape part) k l) (length-map rest shape)
    (parted choice (map shape (rest ++ part ∷ [])) (map shape rest) (shape part) l (part_taken choice (rest ++ part ∷ []) rest part all refl) more l_is is)

last_split : (parts : List WaitingPart) (part : WaitingPart) → last_part parts ≡ Some part → parts ≡ take (length parts - 1) parts ++ part ∷ []
last_split parts part h =
    let i : ℕ = length parts - 1 in
    let within : i < length parts = slice_get_within parts i part h in
    let ends : drop (suc i) parts ≡ [] = drop_all (suc i) parts (omega (arith, within)) in
    sym (take-append-drop i parts)
    ∙ ap (λ (s : List WaitingPart). take i parts ++ s)
    (drop-cons parts i part within ∙ (λ j. get_or_from_slice_get parts i part part h j ∷ ends j))

size_of_some : (o : Option WaitingPart) (n : ℕ) → option_map part_size o ≡ Some n → (part : WaitingPart) × (o ≡ Some part) × (n ≡ part_size part)
size_of_some None n h = absurd (cc)
size_of_some (Some part) n h = (part, refl, cc)

-- the part that comes first, and its first node's size
pub record First (choice : Choice) (parts : List WaitingPart) (part : WaitingPart) (n : ℕ) : Type 0 where
  pub is : parts ≡ take (length parts - 1) parts ++ part ∷ []
  pub wanted : wants choice (1024 * part.number) part.len ≡ true
  pub within : 1024 * part.number + part.len ≤ 2 ^ 64 - 1
  pub chunk : part.len ≤ 1024 → n ≡ part.len
  pub parent : 1024 < part.len → n ≡ 64

pub first_of : (choice : Choice) (parts : List WaitingPart) (part : WaitingPart) (n : ℕ) → AreParts choice parts → last_part parts ≡ Some part → n ≡ part_size part → First choice parts part n
first_of choice parts part n all last size =
    let is = last_split parts part last in
    let taken = part_taken choice parts (take (length parts - 1) parts) part all is in
    record {
      is = is;
      wanted = taken.wanted;
      within = taken.within;
      chunk = λ one. let e : part_size part ≡ part.len = rw (le-leb _ _ one) refl in size ∙ e;
      parent = λ more. let e : part_size part ≡ 64 = rw (lt-leb _ _ more) refl in size ∙ e;
    }

pub first_next : (choice : Choice) (parts : List WaitingPart) {part : WaitingPart} {next : Option WaitingPart} → AreParts choice parts → next ≡ last_part parts → next ≡ Some part → First choice parts part (part_size part)
first_next choice parts {part = part} all is found = first_of choice parts part (part_size part) all (sym is ∙ found) refl

pub first_part : (choice : Choice) (parts : List WaitingPart) (part : WaitingPart) (n : ℕ) → AreParts choice parts → last_part parts ≡ Some part → next_size parts ≡ Some n → First choice parts part n
first_part choice parts part n all last next =
    let e : Some (part_size part) ≡ Some n = sym (ap (λ (o : Option WaitingPart). option_map part_size o) last) ∙ next in
    let size : n ≡ part_size part = cc in
    first_of choice parts part n all last size

pub wrong_from : (b : Bool) (P : Type 0) → (P → b ≡ true) → b ≡ false → ¬ P
wrong_from b P tells off p = not_both (sym (tells p) ∙ off)

-- where nothing waits, there is no part
pub none_waits : (parts : List WaitingPart) → IsNone (next_size parts) → parts ≡ []
none_waits [] none = refl
none_waits (x ∷ xs) none =
    let i : ℕ = length (x ∷ xs) - 1 in
    let e : last_part (x ∷ xs) ≡ Some _ = slice_get-get_or (x ∷ xs) i x (omega arith) in
    absurd (not_both (sym (ap (λ (o : Option WaitingPart). is_some (option_map part_size o)) e) ∙ none))

pub waits_accepted : (task : CheckTask) (choice : Choice) (parts : List WaitingPart) (text : List ℕ) (at : ℕ) → IsNone (next_size parts) → WaitsIn task choice parts text at → length text ≤ at → IsAcceptedAs task text
waits_accepted task choice parts text at none w all =
    w.accepted at (subst (λ (ps : List WaitingPart). AllCome task.mode choice ps text at None at) (sym (none_waits parts none)) (refl, refl)) all

pub waits_trailing : (task : CheckTask) (choice : Choice) (parts : List WaitingPart) (text : List ℕ) (at : ℕ) → IsNone (next_size parts) → WaitsIn task choice parts text at → at < length text
    → IsFaultAs task text (Trailing at)
waits_trailing task choice parts text at none w less =
    w.trailing at (subst (λ (ps : List WaitingPart). AllCome task.mode choice ps text at None at) (sym (none_waits parts none)) (refl, refl)) less

-- an encoding that ends within the node that comes next is short there
part_short : (mode : Mode) (choice : Choice) (parts : List WaitingPart) (part : WaitingPart) (n : ℕ) (taken more : List ℕ) → First choice parts part n → choice.chunks ≡ true → length more < n
    → StopsIn part.asked mode choice part.number part.len ((taken ++ more) ++ []) (length taken) (Short (length taken)) (length taken + n)
part_short mode choice parts part n taken more first there less =
    let P : ℕ → Type 0 = λ (k : ℕ). StopsIn part.asked mode choice part.number part.len ((taken ++ more) ++ []) (length taken) (Short (length taken)) (length taken + k) in
    elim (cases_lt 1024 part.len) [
      | inl parent ↦ subst P (sym (first.parent parent)) (parent_short part.asked mode choice part.number part.len taken more [] first.wanted parent (omega (arith, less, first.parent parent)) refl)
      | inr one ↦ subst P (sym (first.chunk one)) (chunk_short part.asked mode choice part.number part.len taken more [] first.wanted there one (omega (arith, less, first.chunk one)) refl)
    ]

pub waits_stop : (task : CheckTask) (choice : Choice) (parts : List WaitingPart) (taken more : List ℕ) (n : ℕ) → AreParts choice parts → choice.chunks ≡ true → next_size parts ≡ Some n → length more < n
    → WaitsIn task choice parts (taken ++ more) (length taken) → IsStopAs task (taken ++ more) (Short (length taken)) (length taken + n)
waits_stop task choice parts taken more n all there next less w =
    let found = size_of_some (last_part parts) n next in
    let first : First choice parts found.0 n = first_of choice parts found.0 n all found.1 found.2 in
    let fault : CheckFault = Short (length taken) in
    w.stopped fault (length taken + n)
    (subst (λ (ps : List WaitingPart). AllCome task.mode choice ps (taken ++ more) (length taken) (Some fault) (length taken + n)) (sym first.is)
    (AllCome-last task.mode choice (take (length parts - 1) parts) found.0 (taken ++ more) (length taken) (Some fault) (length taken + n)
    (inl (
      refl,
      subst (λ (s : List ℕ). StopsIn found.0.asked task.mode choice found.0.number found.0.len s (length taken) fault (length taken + n)) (append-nil (taken ++ more))
          (part_short task.mode choice parts found.0 n taken more first there less),
    ))))

pub fault_as : (task : CheckTask) (text : List ℕ) (fault : CheckFault) (end : ℕ) → IsStopAs task text fault end → IsFaultAs task text fault
fault_as task text fault end h = first_fault task.mode task.root text (slice_nodes text task.start task.len) fault end h

pub waits_short : (task : CheckTask) (choice : Choice) (parts : List WaitingPart) (taken more : List ℕ) (n : ℕ) → AreParts choice parts → choice.chunks ≡ true → next_size parts ≡ Some n → length more < n
    → WaitsIn task choice parts (taken ++ more) (length taken) → IsFaultAs task (taken ++ more) (Short (length taken))
waits_short task choice parts taken more n all there next less w =
    fault_as task (taken ++ more) (Short (length taken)) (length taken + n) (waits_stop task choice parts taken more n all there next less w)

none_or : (o : Option ℕ) → ((n : ℕ) → o ≡ Some n → ⊥) → IsNone o
none_or None h = refl
none_or (Some n) h = absurd (h n refl)

-- nothing comes after an accepted encoding
pub accepted_done : (task : CheckTask) (choice : Choice) (parts : List WaitingPart) (taken : List ℕ) → AreParts choice parts → choice.chunks ≡ true
    → ((more : List ℕ) → WaitsIn task choice parts (taken ++ more) (length taken)) → IsAcceptedAs task taken → IsNone (next_size parts)
accepted_done task choice parts taken all there waits accepted =
    none_or (next_size parts) (λ n next.
    let found = size_of_some (last_part parts) n next in
    let some : length {A = ℕ} [] < n = grind (arith, cases_lt, lt-leb, le-leb, found.2, found.0.some) in
    let short : IsFaultAs task (taken ++ []) (Short (length taken)) = waits_short task choice parts taken [] n all there next some (waits []) in
    let bare : IsFaultAs task taken (Short (length taken)) = subst (λ (s : List ℕ). IsFaultAs task s (Short (length taken))) (append-nil taken) short in
    first_fault-not_accepted task.mode task.root taken (slice_nodes taken task.start task.len) (Short (length taken)) bare accepted)

-- what is known once the length is there
module _ (mode : Mode) (root : List ℕ) (start len total : ℕ) (choice : Choice) (asked : Asked) (parts : List WaitingPart) (header more : List ℕ) (size : length header ≡ 8)
    (is : total ≡ claimed header) (chosen : choice ≡ of_slice total start len) (asks : asked ≡ asked_root root) where
  abbrev own_task : CheckTask
  own_task = record { mode = mode; root = root; start = start; len = len }

  long : 8 ≤ length (header ++ more)
  long = omega (arith, size, length-append header more)

  claims : total ≡ claimed (header ++ more)
  claims = is ∙ sym (claimed-append header more (omega (arith, size)))

  waits_for : ((o : Option CheckFault) (end : ℕ) → AllCome mode choice parts (header ++ more) 8 o end → PartComes asked mode choice 0 total (header ++ more) 8 o end)
      → WaitsIn own_task choice parts (header ++ more) 8
  waits_for comes = record {
    accepted = λ end h all. top_accepted mode root (header ++ more) (Slice start len) total choice asked long claims chosen asks end (comes None end h) all;
    trailing = λ end h less. top_trailing mode root (header ++ more) (Slice start len) total choice asked long claims chosen asks end (comes None end h) less;
    stopped = λ fault end h. top_stopped mode root (header ++ more) (Slice start len) total choice asked long claims chosen asks fault end (comes (Some fault) end h);
  }

  pub begun_waits : IsBefore choice asked 0 total [] parts → WaitsIn own_task choice parts (header ++ more) 8
  begun_waits before = waits_for (λ o end h. only_first asked 0 total mode choice (header ++ more) 8 o end (before.comes mode (header ++ more) 8 o end long h))

  module _ (empty : total ≡ 0) where
    wanted_empty : wants choice (1024 * 0) total ≡ true
    wanted_empty = subst (λ (ch : Choice). wants ch (1024 * 0) total ≡ true) (sym chosen) (wants_whole (of_slice total start len) (1024 * 0) total (omega (arith, empty)) (omega (arith, empty)))

    chunks_there : choice.chunks ≡ true
    chunks_there = ap (λ (ch : Choice). ch.chunks) chosen

    small : total ≤ 1024
    small = omega (arith, empty)

    -- the chunk of no bytes
    no_bytes : last_chunk_input mode 0 [] ≡ chunk_at mode 0 total (header ++ more) 8
    no_bytes = sym (ap (λ (k : ℕ). last_chunk_input mode 0 (take k (drop 8 (header ++ more)))) empty)

    ends_there : 8 + total ≡ 8
    ends_there = omega (arith, empty)

    pub empty_waits : parts ≡ [] → Meets asked (last_chunk_input mode 0 []) → WaitsIn own_task choice parts (header ++ more) 8
    empty_waits none meets =
        let here : PassesIn asked mode choice 0 total (header ++ more) 8 8 =
        subst (PassesIn asked mode choice 0 total (header ++ more) 8) ends_there
        (pass_chunk asked mode choice 0 total (header ++ more) 8 wanted_empty small chunks_there (omega (arith, empty, long)) (subst (Meets asked) no_bytes meets)) in
        waits_for (λ o end h.
        only_first asked 0 total mode choice (header ++ more) 8 o end (inr (8, here, subst (λ (ps : List WaitingPart). AllCome mode choice ps (header ++ more) 8 o end) none h)))

    pub empty_refused : ¬ Meets asked (last_chunk_input mode 0 []) → IsStopAs own_task (header ++ more) (Mismatch 8) 8
    empty_refused wrong =
        top_stopped mode root (header ++ more) (Slice start len) total choice asked long claims chosen asks (Mismatch 8) 8
        (subst (StopsIn asked mode choice 0 total (header ++ more) 8 (Mismatch 8)) ends_there
        (stop_chunk asked mode choice 0 total (header ++ more) 8 wanted_empty small chunks_there (Mismatch 8)
        (refl, omega (arith, empty, long), subst (λ (x : Input). ¬ Meets asked x) no_bytes wrong)))

pub begun_fault : (said task : CheckTask) (taken node : List ℕ) (fault : CheckFault) → said ≡ task → taken ≡ []
    → ((more : List ℕ) → IsStopAs said (node ++ more) fault 8) → (more : List ℕ) → IsFaultAs task ((taken ++ node) ++ more) fault
begun_fault said task taken node fault same none stops more =
    subst (λ (s : List ℕ). IsFaultAs task ((s ++ node) ++ more) fault) (sym none) (subst (λ (t : CheckTask). IsFaultAs t (node ++ more) fault) same (fault_as said (node ++ more) fault 8 (stops more)))

-- a node refused is the first fault, by what was known
pub refused_stop : (task : CheckTask) (choice : Choice) (parts : List WaitingPart) (at size : ℕ) (taken node : List ℕ) (fault : CheckFault) → HasRefused task.mode choice parts at size node fault
    → at ≡ length taken → ((more : List ℕ) → WaitsIn task choice parts (taken ++ more) (length taken))
    → (more : List ℕ) → IsStopAs task ((taken ++ node) ++ more) fault (length taken + size)
refused_stop task choice parts at size taken node fault refused at_is waits more = grind (arith, append_assoc)

pub refused_fault : (task : CheckTask) (choice : Choice) (parts : List WaitingPart) (at size : ℕ) (taken node : List ℕ) (fault : CheckFault) → HasRefused task.mode choice parts at size node fault
    → at ≡ length taken → ((more : List ℕ) → WaitsIn task choice parts (taken ++ more) (length taken)) → (more : List ℕ) → IsFaultAs task ((taken ++ node) ++ more) fault
refused_fault task choice parts at size taken node fault refused at_is waits more =
    fault_as task ((taken ++ node) ++ more) fault (length taken + size) (refused_stop task choice parts at size taken node fault refused at_is waits more)

-- the same of bytes that nodes are taken of
pub refused_in_fault : (task : CheckTask) (choice : Choice) (before after : List WaitingPart) (at used : ℕ) (taken bytes : List ℕ) (fault : CheckFault)
    → HasRefusedIn task.mode choice before after at used bytes fault → at ≡ length taken → ((more : List ℕ) → WaitsIn task choice before (taken ++ more) (length taken))
    → (more : List ℕ) → IsFaultAs task ((taken ++ bytes) ++ more) fault
refused_in_fault task choice before after at used taken bytes fault refused at_is waits more =
    let stop = refused.stops taken more at_is in
    let w : WaitsIn task choice before ((taken ++ bytes) ++ more) (length taken) =
    subst (λ (s : List ℕ). WaitsIn task choice before s (length taken)) (sym (append_assoc taken bytes more)) (waits (bytes ++ more)) in
    fault_as task ((taken ++ bytes) ++ more) fault stop.0 (w.stopped fault stop.0 stop.1)

pub later_size : (at : ℕ) (o : Option ℕ) → 0 < at → (if nat_eq at 0 then Some 8 else o) ≡ o
later_size at o some = grind (arith, cases_Bool, eqb-true)

pub none_begun : (at : ℕ) (o : Option ℕ) → IsNone (if nat_eq at 0 then Some 8 else o) → 0 < at
none_begun zero o none = absurd (not_both none)
none_begun (suc at) o none = omega arith

pub nothing : (xs : List ℕ) → length xs ≡ 0 → xs ≡ []
nothing [] h = refl
nothing (x ∷ xs) h = absurd (omega (arith, h))

pub no_rest : (xs : List ℕ) → (length xs == 0) ≡ true → xs ≡ []
no_rest [] h = refl
no_rest (x ∷ xs) h = let e : length (x ∷ xs) ≡ 0 = eqb-true (length (x ∷ xs)) 0 h in absurd (omega (arith, e))

pub some_rest : (xs : List ℕ) → (length xs == 0) ≡ false → 0 < length xs
some_rest xs h = grind (arith, eqb-true)

pub done_from : (b : Bool) → not b ≡ false → b ≡ true
done_from true h = refl
done_from false h = absurd (not_both h)

-- two facts on one size
pub with_size : (o p : Option ℕ) (P Q : ℕ → Type 0) (R : Type 0) → o ≡ p → is_some o ≡ true → IfSome o P → IfSome p Q → ((n : ℕ) → P n → Q n → R) → R
with_size None p P Q R same some x y h = absurd (not_both (sym some))
with_size (Some n) p P Q R same some x y h = h n x (subst (λ (o : Option ℕ). IfSome o Q) (sym same) y)

pub each_size : (o : Option ℕ) (P : ℕ → Type 0) → ((n : ℕ) → o ≡ Some n → P n) → IfSome o P
each_size None P h = tt
each_size (Some n) P h = h n refl

-- a node that hasn't its value: why it isn't taken
pub node_fault : (task : CheckTask) (text : List ℕ) (at : ℕ) (fault : CheckFault) → fault ≡ Mismatch at → ((more : List ℕ) → IsFaultAs task (text ++ more) fault) → IsNodeFault task text fault
node_fault task text at fault is faults = subst (IsNodeFault task text) (sym is) (λ more. subst (λ (f : CheckFault). IsFaultAs task (text ++ more) f) is (faults more))

pub node_refused : (task : CheckTask) (whole : List ℕ) (fault : CheckFault) → IsNodeFault task whole fault → IsOfBytes fault → (more : List ℕ) → ¬ IsAcceptedAs task (whole ++ more)
node_refused task whole (Short at) h own more accepted = h
node_refused task whole (Mismatch at) h own more accepted =
    first_fault-not_accepted task.mode task.root (whole ++ more) (slice_nodes (whole ++ more) task.start task.len) (Mismatch at) (h more) accepted
node_refused task whole (Trailing at) h own more accepted = h
node_refused task whole Memory h own more accepted = own
node_refused task whole Reader h own more accepted = h
