-- A plain copy that is verified in pieces.
use Rattle.std.proofs.Common.{◌≡◌, ℕ, ◌+◌, ◌-◌, ◌*◌, ◌^◌, ◌<◌, ◌≤◌, min, List, [], ◌++◌, length, take, drop, Option, Some, None, IfSome, inl, inr, refl, sym, ap, subst, ◌∙◌, arith, length-append, length-drop}
use Rattle.std.proofs.KnownBytes.{Appends-kept, Appends-nil, Appends-trans}
use Rattle.std.proofs.Math.Seq.{take-append-add}
use Rattle.std.proofs.lemmas.Bool.{cases_lt}
use Rattle.std.proofs.lemmas.List.{drop_at, take-take, take_all, take_at}
use Rattle.std.specs.Io.KnownBytes.{Appends}
use Rattle.b3tree.specs.Chunk.{last_chunk_input}
use Rattle.b3tree.specs.declared.mode.Mode.{Mode}
use Rattle.b3tree.specs.Pieces.{piece}
use Rattle.b3tree.proofs.Pieces.{piece-piece}
use Rattle.bao_check.specs.Bare.{AreGoodBare, HasChunkValue, HasValue, IsBareFault, IsWhollyThere, bare_chunk, chunk_len}
use Rattle.bao_check.specs.Beside.{bare_len}
use Rattle.bao_check.specs.declared.fault.CheckFault.{CheckFault}
use Rattle.bao_check.specs.declared.fault.CheckFault.TheVariants.{Short, Mismatch, Trailing, Memory, Reader}
use Rattle.bao_check.specs.declared.outline.Outline.{Outline}
use Rattle.bao_check.specs.Outline.{outline_claimed, outline_mode, outline_root, outline_text}
use Rattle.bao_files.specs.Printed.{AppendsBeginning}
use Rattle.b3par.specs.Given.{GivenAt}
use Rattle.b3par.proofs.Parts.{GivenAt-append}
use Rattle.b3tree.specs.Valid.{AreBytes}
use Rattle.b3tree.proofs.BlockWords.{AreBytes-append, AreBytes-nil}
use Rattle.bao_text.specs.Choice.{chunk_count}
use Rattle.bao_text.specs.Cut.{claimed}
use Rattle.bao_text.specs.declared.fault.WriteFault.{WriteFault}
use Rattle.bao_text.specs.declared.fault.WriteFault.TheVariants as written
use Rattle.bao_text.specs.Faults.{WroteOnly}
use Rattle.bao_decode.specs.declared.copy_pass.PassFault.{PassFault}
use Rattle.bao_decode.specs.declared.copy_pass.PassFault.TheVariants.{Check, Input, Output}
use Rattle.bao_decode.specs.CopyPass.{IsCopyFault, IsGoodBefore, IsPieceOf, IsWholeCopy, PassStops, PieceStops, fault_from}

-- a piece that begins with chunk `first`, and that bytes have there, has the chunks that these have: those that are wholly there
pub chunk_same : (total first : ℕ) (part whole : List ℕ) (k : ℕ) → first ≤ k → part ≡ piece whole (1024 * first) (length part) → IsWhollyThere total first part k
    → bare_chunk total first part k ≡ bare_chunk total 0 whole k
chunk_same total first part whole k begins is there =
    let at : ℕ = 1024 * (k - first) in
    let n : ℕ = chunk_len total k in
    let place : 1024 * first + at ≡ 1024 * (k - 0) = omega (arith, begins) in
    ap (λ (s : List ℕ). piece s at n) is
    ∙ piece-piece whole (1024 * first) (length part) at n there
    ∙ ap (λ (p : ℕ). piece whole p n) place

-- so they are wholly there, too
pub there_whole : (total first : ℕ) (part whole : List ℕ) (k : ℕ) → first ≤ k → 1024 * first + length part ≤ length whole → IsWhollyThere total first part k
    → IsWhollyThere total 0 whole k
there_whole total first part whole k begins fits there = omega (arith, begins, fits, there)

-- and have the outline's values
pub value_whole : (mode : Mode) (root outline : List ℕ) (first : ℕ) (part whole : List ℕ) (k : ℕ) → first ≤ k → part ≡ piece whole (1024 * first) (length part)
    → IsWhollyThere (claimed outline) first part k → HasChunkValue mode root outline first part k → HasChunkValue mode root outline 0 whole k
value_whole mode root outline first part whole k begins is there has =
    subst (λ (s : List ℕ). HasValue root outline k (last_chunk_input mode k s)) (chunk_same (claimed outline) first part whole k begins is there) has

-- or not
pub value_part : (mode : Mode) (root outline : List ℕ) (first : ℕ) (part whole : List ℕ) (k : ℕ) → first ≤ k → part ≡ piece whole (1024 * first) (length part)
    → IsWhollyThere (claimed outline) first part k → HasChunkValue mode root outline 0 whole k → HasChunkValue mode root outline first part k
value_part mode root outline first part whole k begins is there has =
    subst (λ (s : List ℕ). HasValue root outline k (last_chunk_input mode k s)) (sym (chunk_same (claimed outline) first part whole k begins is there)) has

-- the chunks of a piece that are good are good in the whole
pub good_whole : (mode : Mode) (root outline : List ℕ) (first after : ℕ) (part whole : List ℕ) → part ≡ piece whole (1024 * first) (length part)
    → 1024 * first + length part ≤ length whole → AreGoodBare mode root outline 0 whole first → AreGoodBare mode root outline first part after
    → AreGoodBare mode root outline 0 whole after
good_whole mode root outline first after part whole is fits before good k begins below = elim (cases_lt k first) [
  | inl earlier ↦ before k begins earlier
  | inr later ↦
      let one = good k later below in
      (there_whole (claimed outline) first part whole k later fits one.0, value_whole mode root outline first part whole k later is one.0 one.1)
]

-- a piece of known bytes ends within them
pub given_fits : (s part : List ℕ) (at : ℕ) → at ≤ length s → GivenAt (Some s) at part → at + length part ≤ length s
given_fits s part at begins given =
    let size : length part ≡ length (take (length part) (drop at s)) = ap length given in
    let rest : length (drop at s) ≡ length s - at = length-drop at s in
    elim (cases_lt (length s) (at + length part)) [
      | inl more ↦
          let short : take (length part) (drop at s) ≡ drop at s = take_all (length part) (drop at s) (omega (arith, rest, more)) in
          absurd (omega (arith, size ∙ ap length short, rest, more, begins))
      | inr less ↦ less
    ]

-- good chunks are all there, and more chunks come after them
pub begun_fits : (mode : Mode) (root outline : List ℕ) (next : ℕ) (s : List ℕ) → AreGoodBare mode root outline 0 s next → next < chunk_count (claimed outline) → 1024 * next ≤ length s
begun_fits mode root outline next s good below = elim (cases_lt 0 next) [
  | inl some ↦
      let one = good (next - 1) (omega arith) (omega (arith, some)) in
      omega (arith, one.0, some, below)
  | inr none ↦ omega (arith, none)
]

-- a chunk that the copy has, and that was asked for, is in the piece
whole_there : (total first count wanted room : ℕ) (part s : List ℕ) (k : ℕ) → first ≤ k → k < first + count → first + count ≤ chunk_count total
    → wanted ≡ bare_len total (1024 * first) (1024 * count) → (first + count ≡ chunk_count total → room ≡ wanted + 1) → (first + count < chunk_count total → room ≡ wanted)
    → length part ≤ room → (length part < room → length s ≤ 1024 * first + length part) → IsWhollyThere total 0 s k → IsWhollyThere total first part k
whole_there total first count wanted room part s k begins below within wanted_is last other fits ends there =
    let least : wanted ≤ room = elim (cases_lt (first + count) (chunk_count total)) [
      | inl more ↦ omega (arith, other more)
      | inr most ↦ omega (arith, last (omega (arith, most, within)))
    ] in
    let asked : 1024 * (k - first) + chunk_len total k ≤ wanted = omega (arith, wanted_is, begins, below, within) in
    elim (cases_lt (length part) room) [
      | inl short ↦ omega (arith, ends short, there, begins)
      | inr full ↦ omega (arith, full, least, asked)
    ]

-- the first fault of a piece is the copy's, where all chunks before are good: the piece is what was asked for, or the copy ends with it
pub fault_whole : (mode : Mode) (root outline : List ℕ) (first count wanted room : ℕ) (part s : List ℕ) (fault : CheckFault)
    → claimed outline ≤ 2 ^ 64 - 1 → first + count ≤ chunk_count (claimed outline) → 1 ≤ count → wanted ≡ bare_len (claimed outline) (1024 * first) (1024 * count)
    → (first + count ≡ chunk_count (claimed outline) → room ≡ wanted + 1) → (first + count < chunk_count (claimed outline) → room ≡ wanted) → length part ≤ room
    → GivenAt (Some s) (1024 * first) part → (length part < room → length s ≤ 1024 * first + length part)
    → AreGoodBare mode root outline 0 s first → IsBareFault mode root outline first count part fault
    → IsBareFault mode root outline 0 (chunk_count (claimed outline)) s (fault_from (1024 * first) fault)
fault_whole mode root outline first count wanted room part s (Short at) low within some wanted_is last other fits given ends before h =
    let total : ℕ = claimed outline in
    let k : ℕ = h.0 in
    let place : min (1024 * first + at) (2 ^ 64 - 1) ≡ 1024 * (k - 0) = omega (arith, h.1, h.2, h.3, low, within) in
    let begins : 1024 * first ≤ length s = begun_fits mode root outline first s before (omega (arith, within, some)) in
    let all_fits : 1024 * first + length part ≤ length s = given_fits s part (1024 * first) begins given in
    let good = good_whole mode root outline first k part s given all_fits before h.4 in
    let not_there : ¬ IsWhollyThere total 0 s k = λ there. h.5 (whole_there total first count wanted room part s k h.1 h.2 within wanted_is last other fits ends there) in
    (k, omega arith, omega (arith, h.2, within), place, good, not_there)
fault_whole mode root outline first count wanted room part s (Mismatch at) low within some wanted_is last other fits given ends before h =
    let total : ℕ = claimed outline in
    let k : ℕ = h.0 in
    let place : min (1024 * first + at) (2 ^ 64 - 1) ≡ 1024 * (k - 0) = omega (arith, h.1, h.2, h.3, low, within) in
    let begins : 1024 * first ≤ length s = begun_fits mode root outline first s before (omega (arith, within, some)) in
    let all_fits : 1024 * first + length part ≤ length s = given_fits s part (1024 * first) begins given in
    let good = good_whole mode root outline first k part s given all_fits before h.4 in
    let there : IsWhollyThere total 0 s k = there_whole total first part s k h.1 all_fits h.5 in
    (k, omega arith, omega (arith, h.2, within), place, good, there, λ has. h.6 (value_part mode root outline first part s k h.1 given h.5 has))
fault_whole mode root outline first count wanted room part s (Trailing at) low within some wanted_is last other fits given ends before h =
    let total : ℕ = claimed outline in
    let begins : 1024 * first ≤ length s = begun_fits mode root outline first s before (omega (arith, within, some)) in
    let all_fits : 1024 * first + length part ≤ length s = given_fits s part (1024 * first) begins given in
    elim (cases_lt (first + count) (chunk_count total)) [
      | inl more ↦ absurd (omega (arith, other more, fits, h.1, h.2, wanted_is))
      | inr least ↦
          let all : first + count ≡ 0 + chunk_count total = omega (arith, least, within) in
          let place : min (1024 * first + at) (2 ^ 64 - 1) ≡ bare_len total (1024 * 0) (1024 * chunk_count total) = omega (arith, h.1, all, low, some) in
          let good = good_whole mode root outline first (first + count) part s given all_fits before h.0 in
          (subst (AreGoodBare mode root outline 0 s) all good, place, omega (arith, h.1, h.2, all_fits, low))
    ]
fault_whole mode root outline first count wanted room part s Memory low within some wanted_is last other fits given ends before h = h
fault_whole mode root outline first count wanted room part s Reader low within some wanted_is last other fits given ends before h = h

given_none : (contents : Option (List ℕ)) → GivenAt contents 0 []
given_none None = tt
given_none (Some s) = refl

known_all : (contents : Option (List ℕ)) (total : ℕ) (bytes : List ℕ) → length bytes ≡ total → GivenAt contents 0 bytes → IfSome contents (λ s. length s ≤ total)
    → IfSome contents (λ s. bytes ≡ s)
known_all None total bytes size given ends = tt
known_all (Some s) total bytes size given ends = given ∙ take_all (length bytes) s (omega (arith, size, ends))

-- a copy's first chunks were read and verified, up to and without chunk `next`; after the last of all nothing follows
pub record IsBegun (contents : Option (List ℕ)) (outline : Outline) (next : ℕ) (bytes : List ℕ) : Type 0 where
  pub good : IsGoodBefore outline bytes next
  pub size : length bytes ≡ min (1024 * next) (outline_claimed outline)
  pub each : AreBytes bytes
  pub given : GivenAt contents 0 bytes
  pub ends : next ≡ chunk_count (outline_claimed outline) → IfSome contents (λ s. length s ≤ outline_claimed outline)

pub begun_none : (contents : Option (List ℕ)) (outline : Outline) → IsBegun contents outline 0 []
begun_none contents outline = record {
  good = λ k begins below. absurd (omega (arith, below));
  size = omega arith;
  each = AreBytes-nil;
  given = given_none contents;
  ends = λ all. absurd (omega (arith, all));
}

-- one piece more
pub begun_more : (contents : Option (List ℕ)) (outline : Outline) (next count : ℕ) (bytes part : List ℕ) → 1 ≤ count → next + count ≤ chunk_count (outline_claimed outline)
    → IsBegun contents outline next bytes → IsPieceOf contents outline next count part → IsBegun contents outline (next + count) (bytes ++ part)
begun_more contents outline next count bytes part some within begun more =
    let total : ℕ = outline_claimed outline in
    let size : length bytes ≡ 1024 * next = omega (arith, begun.size, within, some) in
    let part_size : length part ≡ bare_len total (1024 * next) (1024 * count) = more.are.ends in
    let all : List ℕ = bytes ++ part in
    let len : length all ≡ length bytes + length part = length-append bytes part in
    let front : bytes ≡ piece all (1024 * 0) (length bytes) = sym (take_at bytes part (length bytes) refl) in
    let back : part ≡ piece all (1024 * next) (length part) =
    sym (ap (λ (xs : List ℕ). take (length part) xs) (ap (λ (n : ℕ). drop n all) (sym size) ∙ drop_at bytes part (length bytes) refl)
    ∙ take_all (length part) part (omega arith)) in
    let before : IsGoodBefore outline all next =
    good_whole (outline_mode outline) (outline_root outline) (outline_text outline) 0 next bytes all front (omega (arith, len)) (λ k begins below. absurd (omega (arith, below))) begun.good in
    record {
      good = good_whole (outline_mode outline) (outline_root outline) (outline_text outline) next (next + count) part all back (omega (arith, len, size)) before more.are.good;
      size = omega (arith, len, size, part_size, within, some);
      each = AreBytes-append bytes part begun.each more.each;
      given = GivenAt-append contents 0 bytes part begun.given (subst (λ (n : ℕ). GivenAt contents n part) (let at : 1024 * next ≡ 0 + length bytes = omega (arith, size) in at) more.given);
      ends = more.ends;
    }

-- all pieces
pub begun_all : (contents : Option (List ℕ)) (outline : Outline) (next : ℕ) (bytes : List ℕ) → IsBegun contents outline next bytes → next ≡ chunk_count (outline_claimed outline)
    → IsWholeCopy contents outline bytes × (outline_claimed outline ≡ length bytes)
begun_all contents outline next bytes begun all =
    let size : length bytes ≡ outline_claimed outline = omega (arith, begun.size, all) in (
      record {
        are = record {
          good = subst (IsGoodBefore outline bytes) (let every : next ≡ 0 + chunk_count (outline_claimed outline) = omega (arith, all) in every) begun.good;
          ends = omega (arith, size);
        };
        each = begun.each;
        known = known_all contents (outline_claimed outline) bytes size begun.given (begun.ends all);
      },
      sym size,
    )

-- what was verified of known bytes is what they begin with, and so are they good
pub begun_known : (outline : Outline) (next : ℕ) (bytes s : List ℕ) → next < chunk_count (outline_claimed outline) → IsBegun (Some s) outline next bytes → IsGoodBefore outline s next
begun_known outline next bytes s below begun =
    good_whole (outline_mode outline) (outline_root outline) (outline_text outline) 0 next bytes s begun.given (given_fits s bytes 0 (omega arith) begun.given)
    (λ k begins less. absurd (omega (arith, less))) begun.good

beginning : (old new : Option (List ℕ)) (bytes s : List ℕ) → GivenAt (Some s) 0 bytes → Appends old new bytes → AppendsBeginning old new s
beginning old new bytes s given written = (length bytes, subst (Appends old new) given written)

-- the fault that was answered of a piece
pub fault_known : (contents : Option (List ℕ)) (outline : Outline) (first count room : ℕ) (part : List ℕ) (fault answered : CheckFault) → answered ≡ fault_from (1024 * first) fault
    → outline_claimed outline ≤ 2 ^ 64 - 1 → first + count ≤ chunk_count (outline_claimed outline) → 1 ≤ count
    → (first + count ≡ chunk_count (outline_claimed outline) → room ≡ bare_len (outline_claimed outline) (1024 * first) (1024 * count) + 1)
    → (first + count < chunk_count (outline_claimed outline) → room ≡ bare_len (outline_claimed outline) (1024 * first) (1024 * count)) → length part ≤ room
    → GivenAt contents (1024 * first) part → (length part < room → IfSome contents (λ s. length s ≤ 1024 * first + length part))
    → IsBareFault (outline_mode outline) (outline_root outline) (outline_text outline) first count part fault
    → IfSome contents (λ s. IsGoodBefore outline s first → IsCopyFault outline s answered)
fault_known None outline first count room part fault answered is low within some last other fits given ends h = tt
fault_known (Some s) outline first count room part fault answered is low within some last other fits given ends h = λ before.
    subst (IsCopyFault outline s) (sym is)
    (fault_whole (outline_mode outline) (outline_root outline) (outline_text outline) first count (bare_len (outline_claimed outline) (1024 * first) (1024 * count)) room part s fault
    low within some refl last other fits given ends before h)

-- all that was read is all
pub ends_known : (contents : Option (List ℕ)) (at total : ℕ) → at ≡ total → IfSome contents (λ s. length s ≤ at) → IfSome contents (λ s. length s ≤ total)
ends_known contents at total is ends = subst (λ (n : ℕ). IfSome contents (λ s. length s ≤ n)) is ends

-- where a piece was refused, a beginning of the copy was written
pub stops_known : (contents : Option (List ℕ)) (faultless : Type 0) (outline : Outline) (next : ℕ) (bytes : List ℕ) (old new : Option (List ℕ)) (fault : PassFault)
    → next < chunk_count (outline_claimed outline) → IsBegun contents outline next bytes → Appends old new bytes → PieceStops contents faultless outline next fault
    → IfSome contents (λ s. PassStops outline faultless s old new fault)
stops_known None faultless outline next bytes old new fault below begun written stops = tt
stops_known (Some s) faultless outline next bytes old new (Check fault) below begun written stops =
    (stops (begun_known outline next bytes s below begun), beginning old new bytes s begun.given written)
stops_known (Some s) faultless outline next bytes old new Input below begun written stops = (stops, beginning old new bytes s begun.given written)
stops_known (Some s) faultless outline next bytes old new Output below begun written stops = absurd stops

-- what a fault of writing left of a text
pub wrote_part : (old new : Option (List ℕ)) (text : List ℕ) (fault : WriteFault) → WroteOnly old new text fault → AppendsBeginning old new text
wrote_part old new text written.Memory h = (0, Appends-kept old old new [] (Appends-nil old) h)
wrote_part old new text (written.Writer n) h = (n, h.1)

-- the same, after what was written before
pub output_known : (contents : Option (List ℕ)) (faultless : Type 0) (outline : Outline) (next count : ℕ) (bytes part : List ℕ) (old mid new : Option (List ℕ)) → 1 ≤ count
    → next + count ≤ chunk_count (outline_claimed outline) → IsBegun contents outline next bytes → IsPieceOf contents outline next count part
    → Appends old mid bytes → AppendsBeginning mid new part → IfSome contents (λ s. PassStops outline faultless s old new Output)
output_known None faultless outline next count bytes part old mid new some within begun more written wrote = tt
output_known (Some s) faultless outline next count bytes part old mid new some within begun more written wrote =
    let m : ℕ = wrote.0 in
    let all : List ℕ = bytes ++ part in
    let given : all ≡ take (length all) s = (begun_more (Some s) outline next count bytes part some within begun more).given in
    let len : length all ≡ length bytes + length part = length-append bytes part in
    let sent : Appends old new (bytes ++ take m part) = Appends-trans old mid new bytes (take m part) written wrote.1 in
    elim (cases_lt m (length part)) [
      | inl less ↦
          let n : ℕ = length bytes + m in
          let same : bytes ++ take m part ≡ take n s =
          sym (take-append-add bytes part m) ∙ ap (take n) given ∙ take-take n (length all) s (omega (arith, len, less)) in
          (n, subst (Appends old new) same sent)
      | inr full ↦
          let same : bytes ++ take m part ≡ take (length all) s = ap (λ (xs : List ℕ). bytes ++ xs) (take_all m part full) ∙ given in
          (length all, subst (Appends old new) same sent)
    ]
