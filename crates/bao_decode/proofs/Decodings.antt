-- An encoding that is verified in one pass, and what it has of a part written in a second.
use Rattle.std.specs.Borrow.{Bor}
use Rattle.std.proofs.Common.{◌≡◌, ◌⊎◌, ◌^◌, ◌<◌, ℕ, List, length, take, Option, Some, None, Result, Ok, Err, IfErr, IfOk, IfSome, inl, inr, refl, sym, subst, ◌∙◌, ap, arith}
use Rattle.std.proofs.KnownBytes.{Appends-kept, Appends-nil, Keeps-refl}
use Rattle.std.proofs.lemmas.List.{take_all}
use Rattle.std.specs.Io.KnownBytes.{Appends, Keeps}
use Rattle.b3tree.specs.declared.mode.Mode.{Mode}
use Rattle.b3tree.specs.Valid.{AreBytes}
use Rattle.bao_check.specs.Accepted.{slice_nodes}
use Rattle.bao_check.specs.declared.fault.CheckFault.{CheckFault}
use Rattle.bao_check.proofs.Laws.{first_fault-not_accepted}
use Rattle.bao_files.specs.declared.fault.FileFault.{FileFault}
use Rattle.bao_files.specs.declared.fault.FileFault.TheVariants.{Memory, Read, Write}
use Rattle.bao_files.specs.Printed.{AppendsBeginning}
use Rattle.bao_text.specs.declared.kinds.Part.{Part}
use Rattle.bao_decode.specs.declared.decode_fault.DecodeFault.{DecodeFault}
use Rattle.bao_decode.specs.declared.decode_fault.DecodeFault.TheVariants as decode
use Rattle.bao_decode.specs.declared.copy_pass.PassFault.{PassFault}
use Rattle.bao_decode.specs.declared.copy_pass.PassFault.TheVariants.{Check, Input, Output}
use Rattle.bao_decode.specs.CopyPass.{first_fault_of, second_fault_of}
use Rattle.bao_decode.specs.Ranges.{IsPartText, IsVerifiedText, part_bytes, part_len, part_start, written_count}
use Rattle.bao_decode.specs.TextPass.{DecodeStops, DecodesKnown, DraftsKnown, HasPassed, IsDecoded, IsTextFault, IsWholeText, LeavesDraft, LeavesWritten, NamesDraftPaths, StopsAs, WriteStops, WritesKnown, task_of_part}

-- an encoding that is accepted has no first fault, but that it is too long
long_only : (mode : Mode) (root : List ℕ) (part : Part) (s : List ℕ) (fault : CheckFault) → IsTextFault (task_of_part mode root part) s fault → IsPartText mode root part s → 2 ^ 63 < length s
long_only mode root part s fault (inl h) accepted = absurd (first_fault-not_accepted mode root s (slice_nodes s (part_start part) (part_len part)) fault h accepted)
long_only mode root part s fault (inr h) accepted = h.1

-- a pass over an encoding writes so much of it
module _ (what : List ℕ → List ℕ) (mode : Mode) (root : List ℕ) (part : Part) where
  -- the first pass ended early
  pub text_first : (contents : Option (List ℕ)) (faultless : Type 0) (file path : Bor (List ℕ)) (old : Option (List ℕ)) (fault : PassFault) (answer : DecodeFault)
      → answer ≡ first_fault_of file fault → IfSome contents (λ s. StopsAs (task_of_part mode root part) faultless s fault)
      → IfSome contents (λ s. WritesKnown what mode root part faultless s file path old old (Err answer))
  text_first None faultless file path old fault answer is stops = tt
  text_first (Some s) faultless file path old (Check f) answer is stops =
      subst (LeavesWritten what mode root part faultless s file path old old) (sym is) (stops, Keeps-refl old)
  text_first (Some s) faultless file path old Input answer is stops =
      subst (LeavesWritten what mode root part faultless s file path old old) (sym is) (inr (inl (refl, stops, (0, Appends-nil old))))
  text_first (Some s) faultless file path old Output answer is stops = absurd stops

  -- the second did
  pub text_second : (contents : Option (List ℕ)) (faultless : Type 0) (file path : Bor (List ℕ)) (old new : Option (List ℕ)) (fault : PassFault) (answer : DecodeFault)
      → answer ≡ second_fault_of file path fault → IfSome contents (λ s. WriteStops what (task_of_part mode root part) faultless s old new fault)
      → IfSome contents (λ s. HasPassed mode root part s → WritesKnown what mode root part faultless s file path old new (Err answer))
  text_second None faultless file path old new fault answer is stops = tt
  text_second (Some s) faultless file path old new (Check f) answer is stops = λ passed. absurd (omega (arith, long_only mode root part s f stops.0 passed.0, passed.1))
  text_second (Some s) faultless file path old new Input answer is stops = λ passed.
      subst (LeavesWritten what mode root part faultless s file path old new) (sym is) (inr (inl (refl, stops.0, stops.1)))
  text_second (Some s) faultless file path old new Output answer is stops = λ passed.
      subst (LeavesWritten what mode root part faultless s file path old new) (sym is) (inr (inr (refl, passed.0, stops)))

  -- all was written, and flushed or not
  pub text_flushed_some : (contents old mid new : Option (List ℕ)) (text : List ℕ) (count : ℕ) (result : Result ℕ DecodeFault) → IsWholeText contents mode root part text
      → count ≡ written_count part text → Appends old mid (what text) → Keeps mid new → IfOk result (λ answer. answer ≡ count)
      → IfOk result (λ answer. (x : List ℕ) × IsVerifiedText mode root part x × (answer ≡ written_count part x) × Appends old new (what x))
  text_flushed_some contents old mid new text count (Ok answer) whole is written kept same = (text, (whole.accepted, whole.each), same ∙ is, Appends-kept old mid new (what text) written kept)
  text_flushed_some contents old mid new text count (Err fault) whole is written kept same = tt

  pub text_flushed_known : (contents : Option (List ℕ)) (faultless : Type 0) (file path : Bor (List ℕ)) (old mid new : Option (List ℕ)) (text : List ℕ) (count : ℕ)
      (result : Result ℕ DecodeFault) → IsWholeText contents mode root part text → count ≡ written_count part text → Appends old mid (what text) → Keeps mid new
      → IfOk result (λ answer. answer ≡ count) → IfErr result (λ fault. fault ≡ decode.File (Write path))
      → IfSome contents (λ s. HasPassed mode root part s → WritesKnown what mode root part faultless s file path old new result)
  text_flushed_known None faultless file path old mid new text count result whole is written kept same fault_is = tt
  text_flushed_known (Some s) faultless file path old mid new text count (Ok answer) whole is written kept same fault_is = λ passed. (
    (passed.0, subst AreBytes whole.known whole.each),
    same ∙ is ∙ ap (written_count part) whole.known,
    subst (λ (x : List ℕ). Appends old new (what x)) whole.known (Appends-kept old mid new (what text) written kept),
  )
  text_flushed_known (Some s) faultless file path old mid new text count (Err fault) whole is written kept same fault_is = λ passed.
      let bytes : List ℕ = what s in
      let all : what text ≡ take (length bytes) bytes = ap what whole.known ∙ sym (take_all (length bytes) bytes (omega arith)) in
      subst (LeavesWritten what mode root part faultless s file path old new) (sym fault_is)
      (inr (inr (refl, passed.0, (length bytes, subst (Appends old new) all (Appends-kept old mid new (what text) written kept)))))

  -- known bytes that were verified are accepted
  pub text_after : (contents : Option (List ℕ)) (faultless : Type 0) (file path : Bor (List ℕ)) (old new : Option (List ℕ)) (text : List ℕ) (result : Result ℕ DecodeFault)
      → IsWholeText contents mode root part text
      → IfSome contents (λ s. HasPassed mode root part s → WritesKnown what mode root part faultless s file path old new result)
      → IfSome contents (λ s. WritesKnown what mode root part faultless s file path old new result)
  text_after None faultless file path old new text result whole h = tt
  text_after (Some s) faultless file path old new text result whole h = h (subst (HasPassed mode root part) whole.known (whole.accepted, whole.fits))

-- one pass over it writes what it has of the part
module _ (mode : Mode) (root : List ℕ) (part : Part) where
  -- a read failed
  pub draft_unread : (contents : Option (List ℕ)) (faultless : Type 0) (file path : Bor (List ℕ)) (old new : Option (List ℕ))
      → IfSome contents (λ s. (¬ faultless) × AppendsBeginning old new (part_bytes part s)) → IfSome contents (λ s. DraftsKnown mode root part faultless s file path old new (Err (decode.File (Read file))))
  draft_unread None faultless file path old new stops = tt
  draft_unread (Some s) faultless file path old new stops = inr (inl (refl, stops.0, stops.1))

  -- a write failed, and the encoding, which was read once more, isn't accepted
  pub draft_refused : (contents : Option (List ℕ)) (faultless : Type 0) (file path : Bor (List ℕ)) (old new : Option (List ℕ)) (fault : PassFault) (answer : DecodeFault)
      → answer ≡ first_fault_of file fault → IfSome contents (λ s. AppendsBeginning old new (part_bytes part s))
      → IfSome contents (λ s. StopsAs (task_of_part mode root part) faultless s fault)
      → IfSome contents (λ s. DraftsKnown mode root part faultless s file path old new (Err answer))
  draft_refused None faultless file path old new fault answer is began stops = tt
  draft_refused (Some s) faultless file path old new (Check f) answer is began stops = subst (LeavesDraft mode root part faultless s file path old new) (sym is) (stops, began)
  draft_refused (Some s) faultless file path old new Input answer is began stops =
      subst (LeavesDraft mode root part faultless s file path old new) (sym is) (inr (inl (refl, stops, began)))
  draft_refused (Some s) faultless file path old new Output answer is began stops = absurd stops

  -- or it is
  pub draft_unwritten : (contents : Option (List ℕ)) (faultless : Type 0) (file path : Bor (List ℕ)) (old new : Option (List ℕ)) (text : List ℕ) → IsWholeText contents mode root part text
      → IfSome contents (λ s. AppendsBeginning old new (part_bytes part s)) → IfSome contents (λ s. DraftsKnown mode root part faultless s file path old new (Err (decode.File (Write path))))
  draft_unwritten None faultless file path old new text whole began = tt
  draft_unwritten (Some s) faultless file path old new text whole began = inr (inr (refl, subst (IsPartText mode root part) whole.known whole.accepted, began))

  -- it wrote all, which was flushed or not
  pub draft_flushed : (contents : Option (List ℕ)) (faultless : Type 0) (file path : Bor (List ℕ)) (old mid new : Option (List ℕ)) (text : List ℕ) (count : ℕ)
      (result : Result ℕ DecodeFault) → IsWholeText contents mode root part text → count ≡ written_count part text → Appends old mid (part_bytes part text) → Keeps mid new
      → IfOk result (λ answer. answer ≡ count) → IfErr result (λ fault. fault ≡ decode.File (Write path))
      → IfSome contents (λ s. DraftsKnown mode root part faultless s file path old new result)
  draft_flushed None faultless file path old mid new text count result whole is written kept same fault_is = tt
  draft_flushed (Some s) faultless file path old mid new text count (Ok answer) whole is written kept same fault_is = (
    (subst (IsPartText mode root part) whole.known whole.accepted, subst AreBytes whole.known whole.each),
    same ∙ is ∙ ap (written_count part) whole.known,
    subst (λ (x : List ℕ). Appends old new (part_bytes part x)) whole.known (Appends-kept old mid new (part_bytes part text) written kept),
  )
  draft_flushed (Some s) faultless file path old mid new text count (Err fault) whole is written kept same fault_is =
      let bytes : List ℕ = part_bytes part s in
      let all : part_bytes part text ≡ take (length bytes) bytes = ap (part_bytes part) whole.known ∙ sym (take_all (length bytes) bytes (omega arith)) in
      subst (LeavesDraft mode root part faultless s file path old new) (sym fault_is)
      (inr (inr (refl, subst (IsPartText mode root part) whole.known whole.accepted, (length bytes, subst (Appends old new) all (Appends-kept old mid new (part_bytes part text) written kept)))))

  -- what was written of an encoding is what the contents have, where these are known
  pub decoded_known : (contents : Option (List ℕ)) (faultless : Type 0) (file path : Bor (List ℕ)) (old new : Option (List ℕ)) (result : Result ℕ DecodeFault)
      → IfOk result (λ count. (text : List ℕ) × IsVerifiedText mode root part text × (count ≡ written_count part text) × Appends old new (part_bytes part text))
      → IfSome contents (λ s. DecodesKnown mode root part faultless s file path old new result)
      → IfOk result (λ count. (text : List ℕ) × IfSome contents (λ s. text ≡ s) × IsDecoded mode root part text count old new)
  decoded_known None faultless file path old new (Ok count) some known = (some.0, tt, (some.1, some.2, some.3))
  decoded_known (Some s) faultless file path old new (Ok count) some known = (s, refl, known)
  decoded_known None faultless file path old new (Err fault) some known = tt
  decoded_known (Some s) faultless file path old new (Err fault) some known = tt

  pub drafted_known : (contents : Option (List ℕ)) (faultless : Type 0) (file path : Bor (List ℕ)) (old new : Option (List ℕ)) (result : Result ℕ DecodeFault)
      → IfOk result (λ count. (text : List ℕ) × IsVerifiedText mode root part text × (count ≡ written_count part text) × Appends old new (part_bytes part text))
      → IfSome contents (λ s. DraftsKnown mode root part faultless s file path old new result)
      → IfOk result (λ count. (text : List ℕ) × IfSome contents (λ s. text ≡ s) × IsDecoded mode root part text count old new)
  drafted_known None faultless file path old new (Ok count) some known = (some.0, tt, (some.1, some.2, some.3))
  drafted_known (Some s) faultless file path old new (Ok count) some known = (s, refl, known)
  drafted_known None faultless file path old new (Err fault) some known = tt
  drafted_known (Some s) faultless file path old new (Err fault) some known = tt

-- an encoding that was accepted and written, but not put in its place
pub finish_stops : (mode : Mode) (root : List ℕ) (part : Part) (faultless : Type 0) (text known : List ℕ) (file path : Bor (List ℕ)) (fault : FileFault)
    → (fault ≡ Memory) ⊎ (fault ≡ Write path) → IsPartText mode root part text → text ≡ known → DecodeStops mode root part faultless known file path (decode.File fault)
finish_stops mode root part faultless text known file path fault (inl memory) accepted same = inl memory
finish_stops mode root part faultless text known file path fault (inr write) accepted same = inr (inr (write, subst (IsPartText mode root part) same accepted))

-- the exit of a `?`, where that fault of a file is the answer
pub finish_refused : {X : Type 0} (result : Result X DecodeFault) (answer : DecodeFault) (fault : FileFault) (P : DecodeFault → Type 0) → result ≡ Err answer → answer ≡ decode.File fault
    → P (decode.File fault) → IfErr result P
finish_refused result answer fault P is from p = subst (λ r. IfErr r P) (sym (is ∙ ap Err from)) p

-- the paths that a fault of such a pass names
pub draft_names : (file path : Bor (List ℕ)) (fault : PassFault) (answer : DecodeFault) → answer ≡ first_fault_of file fault → NamesDraftPaths file path answer
draft_names file path (Check f) answer is = subst (NamesDraftPaths file path) (sym is) tt
draft_names file path Input answer is = subst (NamesDraftPaths file path) (sym is) (inr (inl refl))
draft_names file path Output answer is = subst (NamesDraftPaths file path) (sym is) (inl refl)

pub flushed_names : (file path : Bor (List ℕ)) (result : Result ℕ DecodeFault) → IfErr result (λ fault. fault ≡ decode.File (Write path)) → IfErr result (NamesDraftPaths file path)
flushed_names file path (Ok count) fault_is = tt
flushed_names file path (Err fault) fault_is = subst (NamesDraftPaths file path) (sym fault_is) (inr (inr refl))
