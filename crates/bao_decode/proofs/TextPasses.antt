-- An encoding that is verified in blocks, and what is written of it.
use Rattle.std.proofs.Common.{◌≡◌, ℕ, ◌+◌, ◌-◌, ◌^◌, ◌<◌, ◌≤◌, List, [], ◌++◌, length, take, drop, Option, Some, None, IfSome, inl, inr, refl, sym, ap, subst, ◌∙◌, arith, length-append, length-drop}
use Rattle.std.proofs.KnownBytes.{Appends-nil, Appends-trans}
use Rattle.std.proofs.Math.Seq.{take-append-add}
use Rattle.std.proofs.lemmas.Bool.{cases_lt}
use Rattle.std.proofs.lemmas.List.{append-nil, append_assoc, drop-append-le, drop-drop, drop_all, drop_at, length-take-le, take-append-drop, take-append-le, take-take, take_all, take_at}
use Rattle.std.specs.Io.KnownBytes.{Appends}
use Rattle.b3tree.specs.declared.mode.Mode.{Mode}
use Rattle.b3tree.specs.Valid.{AreBytes}
use Rattle.b3tree.proofs.BlockWords.{AreBytes-append}
use Rattle.bao_text.specs.Cut.{claimed}
use Rattle.bao_text.specs.declared.fault.WriteFault.{WriteFault}
use Rattle.bao_text.specs.Faults.{WroteOnly}
use Rattle.bao_check.specs.declared.checking.Checking.{Checking}
use Rattle.bao_check.specs.Decoded.{chunk_bytes, decoded, waiting_kinds}
use Rattle.bao_check.proofs.Subtrees.{claimed-append}
use Rattle.bao_text.specs.declared.kinds.Part.{Part}
use Rattle.bao_files.specs.Printed.{AppendsBeginning}
use Rattle.bao_check.specs.Checking.{HasDecodedAs, IsNodeFault}
use Rattle.bao_check.specs.declared.fault.CheckFault.{CheckFault}
use Rattle.bao_check.specs.declared.fault.CheckFault.TheVariants.{Short, Mismatch, Trailing, Memory, Reader}
use Rattle.bao_check.specs.Waiting.{CheckTask, IsAcceptedAs, IsFaultAs}
use Rattle.b3par.specs.Given.{GivenAt}
use Rattle.b3par.proofs.Parts.{GivenAt-append}
use Rattle.bao_decode.specs.declared.copy_pass.PassFault.{PassFault}
use Rattle.bao_decode.specs.declared.copy_pass.PassFault.TheVariants.{Check, Input, Output}
use Rattle.bao_decode.specs.Ranges.{first_decoded, first_written, last_written, part_bytes, part_len, part_start, positions, written_count}
use Rattle.bao_decode.specs.TextPass.{IsTextFault, IsWholeText, StopsAs, TextStops, task_of_part}
use Rattle.bao_decode.proofs.Ranges.{begins}

-- known bytes begin with those that were given
pub rest_of : (s text : List ℕ) → text ≡ take (length text) s → text ++ drop (length text) s ≡ s
rest_of s text given = ap (λ (t : List ℕ). t ++ drop (length text) s) given ∙ take-append-drop (length text) s

node_known : (task : CheckTask) (text s : List ℕ) (fault : CheckFault) → IsNodeFault task text fault → length text < 2 ^ 64 → text ≡ take (length text) s → IsTextFault task s fault
node_known task text s (Short at) h low given = absurd h
node_known task text s (Mismatch at) h low given = inl (subst (λ (x : List ℕ). IsFaultAs task x (Mismatch at)) (rest_of s text given) (h (drop (length text) s)))
node_known task text s (Trailing at) h low given = absurd h
node_known task text s Memory h low given = absurd (omega (arith, h, low))
node_known task text s Reader h low given = absurd h

-- a node's fault is that of the contents
pub node_stops : (contents : Option (List ℕ)) (faultless : Type 0) (task : CheckTask) (text : List ℕ) (fault : CheckFault) → IsNodeFault task text fault → length text < 2 ^ 64
    → GivenAt contents 0 text → IfSome contents (λ s. StopsAs task faultless s (Check fault))
node_stops None faultless task text fault h low given = tt
node_stops (Some s) faultless task text fault h low given = node_known task text s fault h low given

-- what was given is all
pub all_given : (s text : List ℕ) → text ≡ take (length text) s → length s ≤ length text → text ≡ s
all_given s text given ends = given ∙ take_all (length text) s ends

pub known_all : (contents : Option (List ℕ)) (text : List ℕ) (at : ℕ) → at ≡ length text → GivenAt contents 0 text → IfSome contents (λ s. length s ≤ at) → IfSome contents (λ s. text ≡ s)
known_all None text at at_is given ends = tt
known_all (Some s) text at at_is given ends = all_given s text given (omega (arith, ends, at_is))

-- bytes that end within a node
pub short_stops : (contents : Option (List ℕ)) (faultless : Type 0) (task : CheckTask) (taken more : List ℕ) (at : ℕ) → at ≡ length taken → IsFaultAs task (taken ++ more) (Short (length taken))
    → GivenAt contents 0 (taken ++ more) → IfSome contents (λ s. length s ≤ length (taken ++ more)) → IfSome contents (λ s. StopsAs task faultless s (Check (Short at)))
short_stops None faultless task taken more at at_is h given ends = tt
short_stops (Some s) faultless task taken more at at_is h given ends =
    inl (subst (λ (n : ℕ). IsFaultAs task s (Short n)) (sym at_is) (subst (λ (x : List ℕ). IsFaultAs task x (Short (length taken))) (all_given s (taken ++ more) given ends) h))

-- bytes that follow an encoding
pub trailing_stops : (contents : Option (List ℕ)) (faultless : Type 0) (task : CheckTask) (taken : List ℕ) (at count : ℕ) → at ≡ length taken → 0 < count
    → ((more : List ℕ) → 0 < length more → IsFaultAs task (taken ++ more) (Trailing (length taken)))
    → GivenAt contents 0 taken → IfSome contents (λ s. at + count ≤ length s) → IfSome contents (λ s. StopsAs task faultless s (Check (Trailing at)))
trailing_stops None faultless task taken at count at_is some h given more = tt
trailing_stops (Some s) faultless task taken at count at_is some h given more =
    let rest : List ℕ = drop (length taken) s in
    let there : 0 < length rest = omega (arith, at_is, some, more, length-drop (length taken) s) in
    inl (subst (λ (n : ℕ). IsFaultAs task s (Trailing n)) (sym at_is)
    (subst (λ (x : List ℕ). IsFaultAs task x (Trailing (length taken))) (rest_of s taken given) (h rest there)))

-- where a read gave bytes, they are there
pub given_there : (contents : Option (List ℕ)) (at : ℕ) (bytes : List ℕ) → 0 < length bytes → GivenAt contents at bytes → IfSome contents (λ s. at + length bytes ≤ length s)
given_there None at bytes some given = tt
given_there (Some s) at bytes some given =
    let size : length bytes ≡ length (take (length bytes) (drop at s)) = ap length given in
    let rest : length (drop at s) ≡ length s - at = length-drop at s in
    elim (cases_lt (length s) (at + length bytes)) [
      | inl less ↦
          let cut : take (length bytes) (drop at s) ≡ drop at s = take_all (length bytes) (drop at s) (omega (arith, rest, less)) in
          absurd (omega (arith, size ∙ ap length cut, rest, less, some))
      | inr fits ↦ fits
    ]

-- the first bytes of those that were given
pub given_front : (contents : Option (List ℕ)) (at n : ℕ) (bytes : List ℕ) → n ≤ length bytes → GivenAt contents at bytes → GivenAt contents at (take n bytes)
given_front None at n bytes within given = tt
given_front (Some s) at n bytes within given =
    let size : length (take n bytes) ≡ n = length-take-le n bytes within in
    ap (take n) given ∙ take-take n (length bytes) (drop at s) within ∙ ap (λ (k : ℕ). take k (drop at s)) (sym size)

-- a longer beginning
pub given_more : (contents : Option (List ℕ)) (taken more : List ℕ) (at : ℕ) → at ≡ length taken → GivenAt contents 0 taken → GivenAt contents at more → GivenAt contents 0 (taken ++ more)
given_more contents taken more at at_is before given =
    GivenAt-append contents 0 taken more before (subst (λ (n : ℕ). GivenAt contents n more) (let e : at ≡ 0 + length taken = omega (arith, at_is) in e) given)

pub ends_more : (contents : Option (List ℕ)) (at count : ℕ) (taken more : List ℕ) → at ≡ length taken → count ≡ length more → IfSome contents (λ s. length s ≤ at + count)
    → IfSome contents (λ s. length s ≤ length (taken ++ more))
ends_more None at count taken more at_is count_is h = tt
ends_more (Some s) at count taken more at_is count_is h = omega (arith, h, at_is, count_is, length-append taken more)

drop-append : (n : ℕ) (xs ys : List ℕ) → drop n (xs ++ ys) ≡ drop n xs ++ drop (n - length xs) ys
drop-append n xs ys = elim (cases_lt (length xs) n) [
  | inl past ↦
      let k : ℕ = n - length xs in
      let split : n ≡ length xs + k = omega (arith, past) in
      ap (λ (m : ℕ). drop m (xs ++ ys)) split
      ∙ sym (drop-drop k (length xs) (xs ++ ys))
      ∙ ap (drop k) (drop_at xs ys (length xs) refl)
      ∙ ap (λ (zs : List ℕ). zs ++ drop k ys) (sym (drop_all n xs (omega (arith, past))))
  | inr within ↦
      let none : n - length xs ≡ 0 = omega (arith, within) in
      drop-append-le n xs ys within ∙ ap (λ (m : ℕ). drop n xs ++ drop m ys) (sym none)
]

-- what bytes have between two places, where more come
pub between_more : (skip end : ℕ) (blob more : List ℕ) → drop skip (take end (blob ++ more)) ≡ drop skip (take end blob) ++ positions (length blob) skip end more
between_more skip end blob more = elim (cases_lt end (length blob)) [
  | inl inside ↦
      let none : end - length blob ≡ 0 = omega (arith, inside) in
      let nothing : positions (length blob) skip end more ≡ [] = ap (λ (n : ℕ). drop (skip - length blob) (take n more)) none ∙ drop_all (skip - length blob) [] (omega arith) in
      ap (drop skip) (take-append-le end blob more (omega (arith, inside)))
      ∙ sym (append-nil (drop skip (take end blob)))
      ∙ ap (λ (s : List ℕ). drop skip (take end blob) ++ s) (sym nothing)
  | inr outside ↦
      let n : ℕ = end - length blob in
      let split : end ≡ length blob + n = omega (arith, outside) in
      let all : take end blob ≡ blob = take_all end blob outside in
      let whole : take end (blob ++ more) ≡ blob ++ take n more = ap (λ (k : ℕ). take k (blob ++ more)) split ∙ take-append-add blob more n in
      ap (drop skip) whole ∙ drop-append skip blob (take n more) ∙ ap (λ (s : List ℕ). drop skip s ++ drop (skip - length blob) (take n more)) (sym all)
]

-- the bytes of a part of the blob, as far as an encoding was decoded
module _ (mode : Mode) (root : List ℕ) (part : Part) where
  abbrev pub own_task : CheckTask
  own_task = task_of_part mode root part

  abbrev pub skip_of : ℕ → ℕ
  skip_of total = first_written part total - first_decoded part total

  abbrev pub end_of : ℕ → ℕ
  end_of total = last_written part total - first_decoded part total

  -- an encoding that goes on with more bytes has what was decoded first
  decoded_first : (check : Checking) (text blob rest : List ℕ) → HasDecodedAs check own_task text blob → 8 ≤ length text
      → (more : List ℕ) × (part_bytes part (text ++ rest) ≡ drop (skip_of (claimed text)) (take (end_of (claimed text)) blob) ++ more)
  decoded_first check text blob rest it long =
      let begun : 0 < check.at = omega (arith, it.has_taken.at_is, long) in
      let later : List ℕ = chunk_bytes (waiting_kinds check.choice check.waiting.items) rest in
      let claims : claimed (text ++ rest) ≡ claimed text = claimed-append text rest long in
      let all : decoded (text ++ rest) (part_start part) (part_len part) ≡ blob ++ later = it.decodes begun rest in (
        positions (length blob) (skip_of (claimed text)) (end_of (claimed text)) later,
        (λ i. drop (skip_of (claims i)) (take (end_of (claims i)) (all i))) ∙ between_more (skip_of (claimed text)) (end_of (claimed text)) blob later,
      )

  -- known bytes begin with the encoding that was taken
  decoded_known : (check : Checking) (s text blob : List ℕ) → HasDecodedAs check own_task text blob → 8 ≤ length text → text ≡ take (length text) s
      → (more : List ℕ) × (part_bytes part s ≡ drop (skip_of (claimed text)) (take (end_of (claimed text)) blob) ++ more)
  decoded_known check s text blob it long given =
      let first = decoded_first check text blob (drop (length text) s) it long in
      (first.0, ap (part_bytes part) (sym (rest_of s text given)) ∙ first.1)

  -- the encoding's first bytes were taken, and what they have of the part was written, but for these bytes at its end, which wait for that
  pub record IsBegun (contents : Option (List ℕ)) (total : ℕ) (check : Checking) (at : ℕ) (old new : Option (List ℕ)) (waiting text blob : List ℕ) : Type 0 where
    pub decodes : HasDecodedAs check own_task text blob
    pub at_is : at ≡ length text
    pub long : 8 ≤ length text
    pub each : AreBytes text
    pub given : GivenAt contents 0 text
    pub claims : claimed text ≡ total
    pub front : List ℕ
    pub written : Appends old new front
    pub is : drop (skip_of total) (take (end_of total) blob) ≡ front ++ waiting

  pub begun_none : (contents : Option (List ℕ)) (total : ℕ) (check : Checking) (old : Option (List ℕ)) (header : List ℕ) → length header ≡ 8 → AreBytes header → GivenAt contents 0 header
      → HasDecodedAs check own_task header [] → total ≡ claimed header → IsBegun contents total check 8 old old (positions 0 (skip_of total) (end_of total) []) header []
  begun_none contents total check old header size bytes given it is =
      let skip : skip_of total ≡ skip_of total - 0 = omega arith in
      let end : end_of total ≡ end_of total - 0 = omega arith in
      record {
        decodes = it;
        at_is = sym size;
        long = omega (arith, size);
        each = bytes;
        given = given;
        claims = sym is;
        front = [];
        written = Appends-nil old;
        is = λ i. drop (skip i) (take (end i) []);
      }

  -- what was waiting was written, too
  pub begun_sent : (contents : Option (List ℕ)) (total : ℕ) (check : Checking) (at : ℕ) (old mid new : Option (List ℕ)) (waiting text blob : List ℕ)
      → IsBegun contents total check at old mid waiting text blob → Appends mid new waiting → IsBegun contents total check at old new [] text blob
  begun_sent contents total check at old mid new waiting text blob it sent = record {
    decodes = it.decodes;
    at_is = it.at_is;
    long = it.long;
    each = it.each;
    given = it.given;
    claims = it.claims;
    front = it.front ++ waiting;
    written = Appends-trans old mid new it.front waiting it.written sent;
    is = it.is ∙ sym (append-nil (it.front ++ waiting));
  }

  -- a block more, which waits
  pub begun_more : (contents : Option (List ℕ)) (total : ℕ) (check after : Checking) (at done taken : ℕ) (old new : Option (List ℕ)) (text blob more piece : List ℕ)
      → IsBegun contents total check at old new [] text blob → done ≡ length blob → length more ≡ taken → AreBytes more → GivenAt contents at more
      → HasDecodedAs after own_task (text ++ more) (blob ++ piece)
      → IsBegun contents total after (at + taken) old new (positions done (skip_of total) (end_of total) piece) (text ++ more) (blob ++ piece)
  begun_more contents total check after at done taken old new text blob more piece it done_is size bytes given next = record {
    decodes = next;
    at_is = omega (arith, it.at_is, size, length-append text more);
    long = omega (arith, it.long, length-append text more);
    each = AreBytes-append text more it.each bytes;
    given = given_more contents text more at it.at_is it.given given;
    claims = claimed-append text more it.long ∙ it.claims;
    front = it.front;
    written = it.written;
    is =
        between_more (skip_of total) (end_of total) blob piece
        ∙ (λ i. (it.is ∙ append-nil it.front) i ++ positions (sym done_is i) (skip_of total) (end_of total) piece);
  }

  -- the part, as far as it was written, and the rest
  begun_parts : (s : List ℕ) (total : ℕ) (check : Checking) (at : ℕ) (old new : Option (List ℕ)) (waiting text blob : List ℕ) → (it : IsBegun (Some s) total check at old new waiting text blob)
      → (more : List ℕ) × (part_bytes part s ≡ it.front ++ (waiting ++ more))
  begun_parts s total check at old new waiting text blob it =
      let known = decoded_known check s text blob it.decodes it.long it.given in (
        known.0,
        known.1
            ∙ ap (λ (n : ℕ). drop (skip_of n) (take (end_of n) blob) ++ known.0) it.claims
            ∙ ap (λ (x : List ℕ). x ++ known.0) it.is
            ∙ append_assoc it.front waiting known.0,
      )

  -- a beginning was written
  begun_beginning : (s : List ℕ) (total : ℕ) (check : Checking) (at : ℕ) (old new : Option (List ℕ)) (waiting text blob : List ℕ) → IsBegun (Some s) total check at old new waiting text blob
      → AppendsBeginning old new (part_bytes part s)
  begun_beginning s total check at old new waiting text blob it =
      let parts = begun_parts s total check at old new waiting text blob it in
      let front : take (length it.front) (part_bytes part s) ≡ it.front =
      ap (take (length it.front)) parts.1 ∙ take_at it.front (waiting ++ parts.0) (length it.front) refl in
      (length it.front, subst (Appends old new) (sym front) it.written)

  -- where the length was refused
  pub length_stops : (contents : Option (List ℕ)) (faultless : Type 0) (old : Option (List ℕ)) (fault : PassFault) → IfSome contents (λ s. StopsAs own_task faultless s fault)
      → IfSome contents (λ s. TextStops own_task faultless part s old old fault)
  length_stops None faultless old fault stops = tt
  length_stops (Some s) faultless old (Check fault) stops = (stops, (0, Appends-nil old))
  length_stops (Some s) faultless old Input stops = (stops, (0, Appends-nil old))
  length_stops (Some s) faultless old Output stops = absurd stops

  -- where a block was
  pub begun_stops : (contents : Option (List ℕ)) (faultless : Type 0) (total : ℕ) (check : Checking) (at : ℕ) (old new : Option (List ℕ)) (waiting text blob : List ℕ) (fault : PassFault)
      → IsBegun contents total check at old new waiting text blob → IfSome contents (λ s. StopsAs own_task faultless s fault)
      → IfSome contents (λ s. TextStops own_task faultless part s old new fault)
  begun_stops None faultless total check at old new waiting text blob fault it stops = tt
  begun_stops (Some s) faultless total check at old new waiting text blob (Check fault) it stops = (stops, begun_beginning s total check at old new waiting text blob it)
  begun_stops (Some s) faultless total check at old new waiting text blob Input it stops = (stops, begun_beginning s total check at old new waiting text blob it)
  begun_stops (Some s) faultless total check at old new waiting text blob Output it stops = absurd stops

  -- and where a write failed
  pub begun_output : (contents : Option (List ℕ)) (faultless : Type 0) (total : ℕ) (check : Checking) (at : ℕ) (old mid new : Option (List ℕ)) (waiting text blob : List ℕ) (fault : WriteFault)
      → IsBegun contents total check at old mid waiting text blob → WroteOnly mid new waiting fault → IfSome contents (λ s. TextStops own_task faultless part s old new Output)
  begun_output None faultless total check at old mid new waiting text blob fault it wrote = tt
  begun_output (Some s) faultless total check at old mid new waiting text blob fault it wrote =
      let parts = begun_parts s total check at old mid waiting text blob it in
      begins old mid new it.front waiting parts.0 (part_bytes part s) fault parts.1 it.written wrote

  -- all of it
  pub begun_all : (contents : Option (List ℕ)) (total : ℕ) (check : Checking) (at : ℕ) (old new : Option (List ℕ)) (text blob : List ℕ)
      → IsBegun contents total check at old new [] text blob → IsAcceptedAs own_task text → decoded text (part_start part) (part_len part) ≡ blob → IfSome contents (λ s. length s ≤ at) → at ≤ 2 ^ 63
      → (x : List ℕ) × IsWholeText contents mode root part x × (last_written part total - first_written part total ≡ written_count part x) × Appends old new (part_bytes part x)
  begun_all contents total check at old new text blob it accepted blob_is ends fits = (
    text,
    record { accepted = accepted; each = it.each; fits = omega (arith, fits, it.at_is); known = known_all contents text at it.at_is it.given ends },
    ap (λ (n : ℕ). last_written part n - first_written part n) (sym it.claims),
    subst (λ (T : Type 0). T) (λ i. Appends old new (drop (skip_of (sym it.claims i)) (take (end_of (sym it.claims i)) (sym blob_is i))))
        (subst (Appends old new) (sym (it.is ∙ append-nil it.front)) it.written),
  )
