-- A plain copy that is verified in one pass, and written in a second.
use Rattle.std.specs.Borrow.{Bor}
use Rattle.std.proofs.Common.{◌≡◌, ◌⊎◌, ℕ, ◌+◌, ◌-◌, ◌^◌, ◌<◌, min, List, length, take, Option, Some, None, Result, Ok, Err, IfErr, IfOk, IfSome, inl, inr, refl, sym, subst, ◌∙◌, ap, arith}
use Rattle.std.proofs.KnownBytes.{Appends-kept, Appends-nil, Keeps-refl}
use Rattle.std.proofs.lemmas.List.{length-take, take_all}
use Rattle.std.specs.Io.KnownBytes.{Appends, Keeps}
use Rattle.b3tree.specs.declared.mode.Mode.{Mode}
use Rattle.b3tree.specs.Valid.{AreBytes}
use Rattle.bao_text.specs.Choice.{chunk_count}
use Rattle.bao_text.specs.Cut.{claimed}
use Rattle.bao_check.specs.Accepted.{IsAccepted, outboard_nodes}
use Rattle.bao_check.specs.Bare.{AreBare, IsBareFault}
use Rattle.bao_check.specs.Outline.{IsOutline, outline_claimed, outline_root, outline_text}
use Rattle.bao_files.specs.Disks.{FileState, Unknown, Absent, Stored, AreOf}
use Rattle.bao_check.specs.declared.fault.CheckFault.{CheckFault}
use Rattle.bao_check.specs.declared.fault.CheckFault.TheVariants as check
use Rattle.bao_check.specs.declared.outline.Outline.{Outline}
use Rattle.bao_files.specs.declared.fault.FileFault.{FileFault}
use Rattle.bao_files.specs.declared.fault.FileFault.TheVariants.{Memory, Write}
use Rattle.bao_decode.specs.declared.decode_fault.DecodeFault.{DecodeFault}
use Rattle.bao_decode.specs.declared.decode_fault.DecodeFault.TheVariants as decode
use Rattle.bao_decode.specs.declared.copy_pass.PassFault.{PassFault}
use Rattle.bao_decode.specs.declared.copy_pass.PassFault.TheVariants.{Check, Input, Output}
use Rattle.bao_decode.specs.Copies.{BesideStops, CopiesKnown, CopyStops, IsCopyBeside, IsEnoughOf, LeavesCopy, LeavesUnknown}
use Rattle.bao_decode.specs.CopyPass.{IsCopyFault, IsGoodCopy, IsVerifiedCopy, IsWholeCopy, PassStops, first_fault_of, second_fault_of}

-- a copy that is accepted has no first fault
apart : (o : Outline) (s : List ℕ) (f : CheckFault) → IsCopyFault o s f → IsGoodCopy o s → ⊥
apart o s (check.Short at) h are = h.5 (are.good h.0 h.1 h.2).0
apart o s (check.Mismatch at) h are = h.6 (are.good h.0 h.1 h.2).1
apart o s (check.Trailing at) h are = omega (arith, h.2, h.1, are.ends)
apart o s check.Memory h are = h
apart o s check.Reader h are = h

-- the first pass ended early
pub first_known : (contents : Option (List ℕ)) (faultless : Type 0) (o : Outline) (file path : Bor (List ℕ)) (old some more : Option (List ℕ)) (fault : PassFault) (answer : DecodeFault)
    → answer ≡ first_fault_of file fault → IfSome contents (λ s. PassStops o faultless s some more fault)
    → IfSome contents (λ s. CopiesKnown o faultless s file path old old (Err answer))
first_known None faultless o file path old some more fault answer is stops = tt
first_known (Some s) faultless o file path old some more (Check f) answer is stops =
    subst (LeavesCopy o faultless s file path old old) (sym is) (stops.0, Keeps-refl old)
first_known (Some s) faultless o file path old some more Input answer is stops =
    subst (LeavesCopy o faultless s file path old old) (sym is) (inr (inl (refl, stops.0, (0, Appends-nil old))))
first_known (Some s) faultless o file path old some more Output answer is stops =
    subst (LeavesCopy o faultless s file path old old) (sym is) (inl (refl, Keeps-refl old))

pub first_unknown : (file path : Bor (List ℕ)) (old : Option (List ℕ)) (fault : PassFault) (answer : DecodeFault) → answer ≡ first_fault_of file fault
    → LeavesUnknown file path old old answer
first_unknown file path old (Check f) answer is = subst (LeavesUnknown file path old old) (sym is) (Keeps-refl old)
first_unknown file path old Input answer is = subst (LeavesUnknown file path old old) (sym is) (inr (inl refl))
first_unknown file path old Output answer is = subst (LeavesUnknown file path old old) (sym is) (inl (refl, Keeps-refl old))

-- known bytes that were accepted
good_known : (o : Outline) (s bytes : List ℕ) → IsWholeCopy (Some s) o bytes → IsGoodCopy o s
good_known o s bytes whole = subst (IsGoodCopy o) whole.known whole.are

-- the second did
pub second_known : (contents : Option (List ℕ)) (faultless : Type 0) (o : Outline) (file path : Bor (List ℕ)) (old new : Option (List ℕ)) (bytes : List ℕ) (fault : PassFault)
    (answer : DecodeFault) → answer ≡ second_fault_of file path fault → IsWholeCopy contents o bytes → IfSome contents (λ s. PassStops o faultless s old new fault)
    → IfSome contents (λ s. CopiesKnown o faultless s file path old new (Err answer))
second_known None faultless o file path old new bytes fault answer is whole stops = tt
second_known (Some s) faultless o file path old new bytes (Check f) answer is whole stops = absurd (apart o s f stops.0 (good_known o s bytes whole))
second_known (Some s) faultless o file path old new bytes Input answer is whole stops =
    subst (LeavesCopy o faultless s file path old new) (sym is) (inr (inl (refl, stops.0, stops.1)))
second_known (Some s) faultless o file path old new bytes Output answer is whole stops =
    subst (LeavesCopy o faultless s file path old new) (sym is) (inr (inr (refl, good_known o s bytes whole, stops)))

pub second_unknown : (file path : Bor (List ℕ)) (old new : Option (List ℕ)) (fault : PassFault) (answer : DecodeFault) → answer ≡ second_fault_of file path fault
    → LeavesUnknown file path old new answer
second_unknown file path old new (Check f) answer is = subst (LeavesUnknown file path old new) (sym is) (inr (inl refl))
second_unknown file path old new Input answer is = subst (LeavesUnknown file path old new) (sym is) (inr (inl refl))
second_unknown file path old new Output answer is = subst (LeavesUnknown file path old new) (sym is) (inr (inr refl))

-- all was written, and flushed or not
pub flushed_some : (o : Outline) (path : Bor (List ℕ)) (contents old mid new : Option (List ℕ)) (bytes : List ℕ) (count : ℕ) (result : Result ℕ DecodeFault) → IsWholeCopy contents o bytes
    → count ≡ length bytes → Appends old mid bytes → Keeps mid new → IfOk result (λ answer. answer ≡ count)
    → IfOk result (λ answer. (x : List ℕ) × IsVerifiedCopy o x × (answer ≡ length x) × Appends old new x)
flushed_some o path contents old mid new bytes count (Ok answer) whole is written kept same = (bytes, (whole.are, whole.each), same ∙ is, Appends-kept old mid new bytes written kept)
flushed_some o path contents old mid new bytes count (Err fault) whole is written kept same = tt

pub flushed_known : (contents : Option (List ℕ)) (faultless : Type 0) (o : Outline) (file path : Bor (List ℕ)) (old mid new : Option (List ℕ)) (bytes : List ℕ) (count : ℕ)
    (result : Result ℕ DecodeFault) → IsWholeCopy contents o bytes → count ≡ length bytes → Appends old mid bytes → Keeps mid new
    → IfOk result (λ answer. answer ≡ count) → IfErr result (λ fault. fault ≡ decode.File (Write path))
    → IfSome contents (λ s. CopiesKnown o faultless s file path old new result)
flushed_known None faultless o file path old mid new bytes count result whole is written kept same fault_is = tt
flushed_known (Some s) faultless o file path old mid new bytes count (Ok answer) whole is written kept same fault_is = (
  (good_known o s bytes whole, subst AreBytes whole.known whole.each),
  same ∙ is ∙ ap length whole.known,
  subst (Appends old new) whole.known (Appends-kept old mid new bytes written kept),
)
flushed_known (Some s) faultless o file path old mid new bytes count (Err fault) whole is written kept same fault_is =
    let all : bytes ≡ take (length s) s = whole.known ∙ sym (take_all (length s) s (omega arith)) in
    subst (LeavesCopy o faultless s file path old new) (sym fault_is)
    (inr (inr (refl, good_known o s bytes whole, (length s, subst (Appends old new) all (Appends-kept old mid new bytes written kept)))))

pub flushed_unknown : (file path : Bor (List ℕ)) (old new : Option (List ℕ)) (result : Result ℕ DecodeFault) → IfErr result (λ fault. fault ≡ decode.File (Write path))
    → IfErr result (LeavesUnknown file path old new)
flushed_unknown file path old new (Ok answer) is = tt
flushed_unknown file path old new (Err fault) is = subst (LeavesUnknown file path old new) (sym is) (inr (inr refl))

-- what was written of a copy is what the contents have, where these are known
pub copied_known : (o : Outline) (contents : Option (List ℕ)) (faultless : Type 0) (file path : Bor (List ℕ)) (old new : Option (List ℕ)) (result : Result ℕ DecodeFault)
    → IfOk result (λ count. (bytes : List ℕ) × IsVerifiedCopy o bytes × (count ≡ length bytes) × Appends old new bytes)
    → IfSome contents (λ s. CopiesKnown o faultless s file path old new result)
    → IfOk result (λ count. (bytes : List ℕ) × IfSome contents (λ s. bytes ≡ s) × IsVerifiedCopy o bytes × (count ≡ length bytes) × Appends old new bytes)
copied_known o None faultless file path old new (Ok count) some known = (some.0, tt, some.1, some.2, some.3)
copied_known o (Some s) faultless file path old new (Ok count) some known = (s, refl, known.0, known.1, known.2)
copied_known o None faultless file path old new (Err fault) some known = tt
copied_known o (Some s) faultless file path old new (Err fault) some known = tt

-- known bytes of which one more was asked for than a good copy has are all, where they are a good copy
kept_whole : (o : Outline) (bytes s : List ℕ) → length bytes < 2 ^ 64 - 1 → bytes ≡ take (min (outline_claimed o + 1) (2 ^ 64 - 1)) s → IsGoodCopy o bytes → bytes ≡ s
kept_whole o bytes s low is good =
    let limit : ℕ = min (outline_claimed o + 1) (2 ^ 64 - 1) in
    is ∙ take_all limit s (omega (arith, low, good.ends, ap length is, length-take limit s))

pub kept_known : (o : Outline) (remaining : Option (List ℕ)) (bytes seen : List ℕ) (faultless : Type 0) (file path : Bor (List ℕ)) (old new : Option (List ℕ)) (result : Result ℕ DecodeFault)
    → seen ≡ bytes → length seen < 2 ^ 64 - 1 → IfSome remaining (λ s. bytes ≡ take (min (outline_claimed o + 1) (2 ^ 64 - 1)) s)
    → CopiesKnown o faultless seen file path old new result
    → IfOk result (λ count. (bytes : List ℕ) × IfSome remaining (λ s. bytes ≡ s) × IsVerifiedCopy o bytes × (count ≡ length bytes) × Appends old new bytes)
kept_known o None bytes seen faultless file path old new (Ok count) same low most known = (seen, tt, known.0, known.1, known.2)
kept_known o (Some s) bytes seen faultless file path old new (Ok count) same low most known = (seen, kept_whole o seen s low (same ∙ most) known.0.0, known.0, known.1, known.2)
kept_known o remaining bytes seen faultless file path old new (Err fault) same low most known = tt

-- an accepted outboard encoding is all that the file has
pub whole_of : (mode : Mode) (root : List ℕ) (state : FileState) (text : List ℕ) → IsEnoughOf mode root state text → IsAccepted mode root text (outboard_nodes text) → AreBytes text → AreOf state text
whole_of mode root Unknown text enough accepted bytes = bytes
whole_of mode root Absent text enough accepted bytes = absurd enough
whole_of mode root (Stored all) text enough accepted bytes = enough.whole accepted

-- a copy beside an outline is one beside the encoding that the outline is
pub beside_of : (o : Outline) (mode : Mode) (root text bytes : List ℕ) → IsOutline o mode root text → IsAccepted mode root text (outboard_nodes text) → IsGoodCopy o bytes
    → IsCopyBeside mode root text bytes
beside_of o mode root text bytes is accepted good = (
  accepted,
  subst (λ (t : List ℕ). AreBare mode root t 0 (chunk_count (claimed t)) bytes) is.text_is
      (subst (λ (r : List ℕ). AreBare mode r (outline_text o) 0 (chunk_count (claimed (outline_text o))) bytes) is.root_is
      (subst (λ (m : Mode). AreBare m (outline_root o) (outline_text o) 0 (chunk_count (claimed (outline_text o))) bytes) is.mode_is good)),
)

-- so is its fault
fault_beside : (o : Outline) (mode : Mode) (root text bytes : List ℕ) (fault : CheckFault) → IsOutline o mode root text → IsCopyFault o bytes fault
    → IsBareFault mode root text 0 (chunk_count (claimed text)) bytes fault
fault_beside o mode root text bytes fault is h =
    subst (λ (t : List ℕ). IsBareFault mode root t 0 (chunk_count (claimed t)) bytes fault) is.text_is
    (subst (λ (r : List ℕ). IsBareFault mode r (outline_text o) 0 (chunk_count (claimed (outline_text o))) bytes fault) is.root_is
    (subst (λ (m : Mode). IsBareFault m (outline_root o) (outline_text o) 0 (chunk_count (claimed (outline_text o))) bytes fault) is.mode_is h))

pub beside_stops : (o : Outline) (mode : Mode) (root text outline bytes : List ℕ) (input disk : Type 0) (outboard file path : Bor (List ℕ)) (fault : DecodeFault) → IsOutline o mode root text
    → IsAccepted mode root text (outboard_nodes text) → text ≡ outline → (disk → input) → CopyStops o input bytes file path fault
    → BesideStops mode root disk outline bytes outboard file path fault
beside_stops o mode root text outline bytes input disk outboard file path (decode.File fault) is accepted same sure (inl memory) = inl memory
beside_stops o mode root text outline bytes input disk outboard file path (decode.File fault) is accepted same sure (inr (inl read)) = inr (inr (inl (read.0, λ d. read.1 (sure d))))
beside_stops o mode root text outline bytes input disk outboard file path (decode.File fault) is accepted same sure (inr (inr write)) =
    inr (inr (inr (write.0, subst (λ (t : List ℕ). IsCopyBeside mode root t bytes) same (beside_of o mode root text bytes is accepted write.1))))
beside_stops o mode root text outline bytes input disk outboard file path (decode.Check fault) is accepted same sure stops =
    inr (
      subst (λ (t : List ℕ). IsAccepted mode root t (outboard_nodes t)) same accepted,
      subst (λ (t : List ℕ). IsBareFault mode root t 0 (chunk_count (claimed t)) bytes fault) same (fault_beside o mode root text bytes fault is stops),
    )

-- a copy that was accepted and written, but not put in its place
pub beside_finish : (mode : Mode) (root o b outline bytes : List ℕ) (faultless : Type 0) (outboard file path : Bor (List ℕ)) (fault : FileFault) → (fault ≡ Memory) ⊎ (fault ≡ Write path)
    → IsCopyBeside mode root o b → o ≡ outline → b ≡ bytes → BesideStops mode root faultless outline bytes outboard file path (decode.File fault)
beside_finish mode root o b outline bytes faultless outboard file path fault (inl memory) good at_outboard at_copy = inl memory
beside_finish mode root o b outline bytes faultless outboard file path fault (inr write) good at_outboard at_copy =
    inr (inr (inr (write, subst (λ (t : List ℕ). IsCopyBeside mode root outline t) at_copy (subst (λ (t : List ℕ). IsCopyBeside mode root t b) at_outboard good))))
