-- A slice that is cut out of an encoding, and written.
use Rattle.std.specs.Borrow.{Bor}
use Rattle.std.proofs.Common.{◌≡◌, ◌⊎◌, ◌^◌, ◌<◌, ◌≤◌, ℕ, zero, suc, List, [], ◌∷◌, length, Option, Some, None, Result, Ok, Err, IfSome, inl, inr, refl, sym, ap, subst, ◌∙◌, arith}
use Rattle.std.proofs.KnownBytes.{Appends-nil, Keeps-refl}
use Rattle.std.proofs.lemmas.Bool.{cases_lt, lt-ltb}
use Rattle.std.specs.Io.KnownBytes.{Appends}
use Rattle.b3tree.specs.declared.mode.Mode.{Mode}
use Rattle.b3tree.specs.Valid.{AreBytes}
use Rattle.b3tree.proofs.BlockWords.{AreBytes-nil}
use Rattle.bao_files.specs.Disks.{FileState, IsKnown, Unknown, Absent, Stored}
use Rattle.bao_files.specs.declared.fault.FileFault.{FileFault}
use Rattle.bao_files.specs.declared.fault.FileFault.TheVariants.{Memory, Read}
use Rattle.bao_text.specs.declared.kinds.Part.TheVariants.{Slice}
use Rattle.bao_text.specs.Cut.{claimed, cut_text}
use Rattle.bao_decode.specs.declared.decode_fault.DecodeFault.{DecodeFault}
use Rattle.bao_decode.specs.declared.decode_fault.DecodeFault.TheVariants as decode
use Rattle.bao_decode.specs.declared.copy_pass.PassFault.{PassFault}
use Rattle.bao_decode.specs.declared.copy_pass.PassFault.TheVariants.{Check, Input, Output}
use Rattle.bao_decode.specs.CopyPass.{StopsShort, first_fault_of}
use Rattle.bao_decode.specs.Cutting.{ClaimsLength, IsCutOf, cut_contents}
use Rattle.bao_decode.specs.Opened.{OpensWith}
use Rattle.bao_decode.specs.Ranges.{IsVerifiedText, written_count}
use Rattle.bao_decode.specs.TextPass.{DecodeStops, EncodesKnown, LeavesWritten}
use Rattle.bao_decode.specs.Weaving.{CutBesideStops, IsCutBeside, cut_beside, woven_contents}
use Rattle.bao_decode.proofs.Cuttings.{cut_known}
use Rattle.bao_decode.proofs.Openings.{stored_is}

-- what is cut out of a known encoding is one text
pub cut_is : (state : FileState) (text xs : List ℕ) (start len : ℕ) → state ≡ Stored text → length text < 2 ^ 64 → IsCutOf state start len xs → xs ≡ cut_text text start len
cut_is state text xs start len there fits cut =
    let all : cut.0 ≡ text = stored_is state cut.0 text there cut.1 in
    subst (λ (t : List ℕ). xs ≡ cut_text t start len) all (cut.2 (subst (λ (t : List ℕ). length t < 2 ^ 64) (sym all) fits))

-- and out of a known copy beside a known outboard encoding
pub known_of : (state : FileState) (text : List ℕ) → state ≡ Stored text → IsKnown state
known_of state text there = subst IsKnown (sym there) tt

pub cut_beside_is : (outboard copy : FileState) (outline bytes xs : List ℕ) (start len : ℕ) → outboard ≡ Stored outline → copy ≡ Stored bytes → IsCutBeside outboard copy start len xs
    → xs ≡ cut_beside outline bytes start len
cut_beside_is outboard copy outline bytes xs start len at_outboard at_copy cut =
    let o : cut.0 ≡ outline = stored_is outboard cut.0 outline at_outboard cut.2 in
    let b : cut.1 ≡ bytes = stored_is copy cut.1 bytes at_copy cut.3 in
    cut.4 (known_of outboard outline at_outboard) (known_of copy bytes at_copy) ∙ (λ i. cut_beside (o i) (b i) start len)

-- there are as many bytes as any number
long_list : (n : ℕ) → (xs : List ℕ) × AreBytes xs × (n ≤ length xs)
long_list zero = ([], AreBytes-nil, omega arith)
long_list (suc n) = let less = long_list n in (0 ∷ less.0, record { at = elim [ zero ↦ omega arith | suc k ↦ less.1.at k ] }, omega (arith, less.2))

abbrev IsMemory : FileFault → Type 0
IsMemory Memory = Unit {0}
IsMemory _ = ⊥

module _ (mode : Mode) (root : List ℕ) (start len : ℕ) where
  -- the encoding ends before its length does
  pub short_first : (contents : Option (List ℕ)) (faultless : Type 0) (file path : Bor (List ℕ)) (old : Option (List ℕ)) (fault : PassFault) (answer : DecodeFault)
      → answer ≡ first_fault_of file fault → StopsShort contents faultless fault
      → IfSome contents (λ s. length s < 2 ^ 64 → EncodesKnown mode root (Slice start len) faultless (cut_text s start len) file path old old (Err answer))
  short_first None faultless file path old fault answer is stops = tt
  short_first (Some s) faultless file path old (Check f) answer is stops = λ fits.
      let all : cut_text s start len ≡ s = rw (lt-ltb (length s) 8 stops.1) refl in
      subst (LeavesWritten (λ x. x) mode root (Slice start len) faultless (cut_text s start len) file path old old) (sym (is ∙ ap (λ it. first_fault_of file (Check it)) stops.0))
      (inl (inl (subst (λ (x : List ℕ). length x < 8) (sym all) stops.1, refl)), Keeps-refl old)
  short_first (Some s) faultless file path old Input answer is stops = λ fits.
      subst (LeavesWritten (λ x. x) mode root (Slice start len) faultless (cut_text s start len) file path old old) (sym is) (inr (inl (refl, stops, (0, Appends-nil old))))
  short_first (Some s) faultless file path old Output answer is stops = absurd stops

  -- what is known of the slice is known of the encoding
  pub slice_known : (contents ours : Option (List ℕ)) (mine faultless : Type 0) (total a b : ℕ) (file path : Bor (List ℕ)) (old new : Option (List ℕ)) (result : Result ℕ DecodeFault)
      → a ≡ start → b ≡ len → ours ≡ contents → mine ≡ faultless → ClaimsLength contents total
      → IfSome (cut_contents total a b ours) (λ text. EncodesKnown mode root (Slice start len) mine text file path old new result)
      → IfSome contents (λ s. length s < 2 ^ 64 → EncodesKnown mode root (Slice start len) faultless (cut_text s start len) file path old new result)
  slice_known contents ours mine faultless total a b file path old new result a_is b_is ours_is mine_is claims known =
      cut_known total start len contents (λ text. EncodesKnown mode root (Slice start len) faultless text file path old new result) claims
      (subst (λ (T : Type 0). T) (λ i. IfSome (cut_contents total (a_is i) (b_is i) (ours_is i)) (λ text. EncodesKnown mode root (Slice start len) (mine_is i) text file path old new result)) known)

  -- a slice that was accepted and written is cut out of the file
  pub slice_done : (state : FileState) (contents : Option (List ℕ)) (faultless : Type 0) (file path : Bor (List ℕ)) (old new : Option (List ℕ)) (count : ℕ) → OpensWith state contents
      → ((text : List ℕ) × IsVerifiedText mode root (Slice start len) text × (count ≡ written_count (Slice start len) text) × Appends old new text)
      → IfSome contents (λ s. length s < 2 ^ 64 → EncodesKnown mode root (Slice start len) faultless (cut_text s start len) file path old new (Ok count))
      → (text : List ℕ) × IsCutOf state start len text × IsVerifiedText mode root (Slice start len) text × (count ≡ written_count (Slice start len) text) × Appends old new text
  slice_done Unknown contents faultless file path old new count opens some known =
      let long = long_list (2 ^ 64) in (some.0, (long.0, long.1, λ fits. absurd (omega (arith, fits, long.2))), some.1, some.2, some.3)
  slice_done Absent contents faultless file path old new count opens some known = absurd opens
  slice_done (Stored s) contents faultless file path old new count opens some known = elim (cases_lt (length s) (2 ^ 64)) [
    | inr long ↦ (some.0, (s, refl, λ fits. absurd (omega (arith, fits, long))), some.1, some.2, some.3)
    | inl fits ↦
        let ours : EncodesKnown mode root (Slice start len) faultless (cut_text s start len) file path old new (Ok count) =
        (subst (λ (o : Option (List ℕ)). IfSome o (λ t. length t < 2 ^ 64 → EncodesKnown mode root (Slice start len) faultless (cut_text t start len) file path old new (Ok count))) opens known) fits in
        (cut_text s start len, (s, refl, λ _. refl), ours.0, ours.1, ours.2)
  ]

  -- what a fault says of a slice
  slice_leaves : (text : List ℕ) (input disk : Type 0) (file path : Bor (List ℕ)) (old new : Option (List ℕ)) (fault : DecodeFault) → (disk → input)
      → LeavesWritten (λ x. x) mode root (Slice start len) input text file path old new fault → DecodeStops mode root (Slice start len) disk text file path fault
  slice_leaves text input disk file path old new (decode.File fault) sure (inl memory) = inl memory.0
  slice_leaves text input disk file path old new (decode.File fault) sure (inr (inl read)) = inr (inl (read.0, λ d. read.1 (sure d)))
  slice_leaves text input disk file path old new (decode.File fault) sure (inr (inr write)) = inr (inr (write.0, write.1))
  slice_leaves text input disk file path old new (decode.Check fault) sure leaves = leaves.0

  -- and of a file that wasn't opened
  pub unopened_stops : (text : List ℕ) (disk : Type 0) (file path : Bor (List ℕ)) (fault : FileFault) → (fault ≡ Memory) ⊎ (fault ≡ Read file) → (disk → fault ≡ Memory)
      → DecodeStops mode root (Slice start len) disk text file path (decode.File fault)
  unopened_stops text disk file path fault (inl memory) sure = inl memory
  unopened_stops text disk file path fault (inr read) sure = inr (inl (read, λ d. subst IsMemory (sym (sure d) ∙ read) tt))

  -- and of a short encoding
  pub slice_stops : (state : FileState) (contents : Option (List ℕ)) (encoding : List ℕ) (input disk : Type 0) (file path : Bor (List ℕ)) (old new : Option (List ℕ)) (fault : DecodeFault)
      → OpensWith state contents → (disk → input) → state ≡ Stored encoding → length encoding < 2 ^ 63
      → IfSome contents (λ s. length s < 2 ^ 64 → EncodesKnown mode root (Slice start len) input (cut_text s start len) file path old new (Err fault))
      → DecodeStops mode root (Slice start len) disk (cut_text encoding start len) file path fault
  slice_stops state contents encoding input disk file path old new fault opens sure is short known =
      let stored : contents ≡ Some encoding = subst (λ (s : FileState). OpensWith s contents) is opens in
      let leaves : LeavesWritten (λ x. x) mode root (Slice start len) input (cut_text encoding start len) file path old new fault =
      (subst (λ (o : Option (List ℕ)). IfSome o (λ s. length s < 2 ^ 64 → EncodesKnown mode root (Slice start len) input (cut_text s start len) file path old new (Err fault))) stored known) (omega (arith, short)) in
      slice_leaves (cut_text encoding start len) input disk file path old new fault sure leaves

-- the same of an outboard encoding and a plain copy
module _ (mode : Mode) (root : List ℕ) (start len : ℕ) where
  -- what is known of the slice that two known files make
  pub beside_known : (total a b : ℕ) (o c : List ℕ) (outline bytes : Option (List ℕ)) (F : List ℕ → Type 0) → a ≡ start → b ≡ len → outline ≡ Some o → bytes ≡ Some c → ClaimsLength outline total
      → IfSome (woven_contents total a b outline bytes) F → F (cut_beside o c start len)
  beside_known total a b o c outline bytes F a_is b_is outline_is bytes_is claims known =
      let is : total ≡ claimed o = sym (subst (λ (c : Option (List ℕ)). ClaimsLength c total) outline_is claims).1 in
      subst (λ (T : Type 0). T) (λ i. IfSome (woven_contents (is i) (a_is i) (b_is i) (outline_is i) (bytes_is i)) F) known

  -- a slice that was accepted and written is cut out of them
  pub beside_done : (outboard copy : FileState) (total a b : ℕ) (outline bytes ours theirs : Option (List ℕ)) (faultless : Type 0) (file path : Bor (List ℕ)) (old new : Option (List ℕ)) (count : ℕ)
      → OpensWith outboard outline → OpensWith copy bytes → ours ≡ outline → theirs ≡ bytes → a ≡ start → b ≡ len → ClaimsLength outline total
      → ((text : List ℕ) × IsVerifiedText mode root (Slice start len) text × (count ≡ written_count (Slice start len) text) × Appends old new text)
      → IfSome (woven_contents total a b ours theirs) (λ text. EncodesKnown mode root (Slice start len) faultless text file path old new (Ok count))
      → (text : List ℕ) × IsCutBeside outboard copy start len text × IsVerifiedText mode root (Slice start len) text × (count ≡ written_count (Slice start len) text) × Appends old new text
  beside_done Absent copy total a b outline bytes ours theirs faultless file path old new count opens also ours_is theirs_is a_is b_is claims some known = absurd opens
  beside_done Unknown Absent total a b outline bytes ours theirs faultless file path old new count opens also ours_is theirs_is a_is b_is claims some known = absurd also
  beside_done Unknown Unknown total a b outline bytes ours theirs faultless file path old new count opens also ours_is theirs_is a_is b_is claims some known =
      (some.0, ([], [], AreBytes-nil, AreBytes-nil, λ k. absurd k), some.1, some.2, some.3)
  beside_done Unknown (Stored c) total a b outline bytes ours theirs faultless file path old new count opens also ours_is theirs_is a_is b_is claims some known =
      (some.0, ([], c, AreBytes-nil, refl, λ k. absurd k), some.1, some.2, some.3)
  beside_done (Stored o) Absent total a b outline bytes ours theirs faultless file path old new count opens also ours_is theirs_is a_is b_is claims some known = absurd also
  beside_done (Stored o) Unknown total a b outline bytes ours theirs faultless file path old new count opens also ours_is theirs_is a_is b_is claims some known =
      (some.0, (o, [], refl, AreBytes-nil, λ j k. absurd k), some.1, some.2, some.3)
  beside_done (Stored o) (Stored c) total a b outline bytes ours theirs faultless file path old new count opens also ours_is theirs_is a_is b_is claims some known =
      let ours_claim : ClaimsLength ours total = subst (λ (c : Option (List ℕ)). ClaimsLength c total) (sym ours_is) claims in
      let it : EncodesKnown mode root (Slice start len) faultless (cut_beside o c start len) file path old new (Ok count) =
      beside_known total a b o c ours theirs (λ text. EncodesKnown mode root (Slice start len) faultless text file path old new (Ok count)) a_is b_is (ours_is ∙ opens) (theirs_is ∙ also)
      ours_claim known in
      (cut_beside o c start len, (o, c, refl, refl, λ j k. refl), it.0, it.1, it.2)

  -- what a fault says of known files
  pub beside_stops : (outboard copy : FileState) (total a b : ℕ) (outline bytes ours theirs : Option (List ℕ)) (o c : List ℕ) (input disk : Type 0) (other file path : Bor (List ℕ))
      (old new : Option (List ℕ)) (fault : DecodeFault) → OpensWith outboard outline → OpensWith copy bytes → ours ≡ outline → theirs ≡ bytes → a ≡ start → b ≡ len → ClaimsLength outline total
      → (disk → input) → outboard ≡ Stored o → copy ≡ Stored c
      → IfSome (woven_contents total a b ours theirs) (λ text. EncodesKnown mode root (Slice start len) input text file path old new (Err fault))
      → CutBesideStops mode root start len disk o c other file path fault
  beside_stops outboard copy total a b outline bytes ours theirs o c input disk other file path old new fault opens also ours_is theirs_is a_is b_is claims sure at_outboard at_copy known =
      let text : List ℕ = cut_beside o c start len in
      let our_outline : outline ≡ Some o = subst (λ (s : FileState). OpensWith s outline) at_outboard opens in
      let our_bytes : bytes ≡ Some c = subst (λ (s : FileState). OpensWith s bytes) at_copy also in
      let ours_claim : ClaimsLength ours total = subst (λ (c : Option (List ℕ)). ClaimsLength c total) (sym ours_is) claims in
      let leaves : LeavesWritten (λ x. x) mode root (Slice start len) input text file path old new fault =
      beside_known total a b o c ours theirs (λ text. EncodesKnown mode root (Slice start len) input text file path old new (Err fault)) a_is b_is (ours_is ∙ our_outline) (theirs_is ∙ our_bytes)
      ours_claim known in
      inr (slice_leaves mode root start len text input disk file path old new fault sure leaves)

  -- or of a read of the length
  pub beside_short : (outboard : FileState) (outline : Option (List ℕ)) (o c : List ℕ) (input disk : Type 0) (other file path : Bor (List ℕ)) (fault : PassFault) (answer : DecodeFault)
      → OpensWith outboard outline → (disk → input) → outboard ≡ Stored o → answer ≡ first_fault_of other fault → StopsShort outline input fault
      → CutBesideStops mode root start len disk o c other file path answer
  beside_short outboard outline o c input disk other file path (Check f) answer opens sure at_outboard is stops =
      let stored : outline ≡ Some o = subst (λ (s : FileState). OpensWith s outline) at_outboard opens in
      let short : length o < 8 = subst (λ (c : Option (List ℕ)). IfSome c (λ s. length s < 8)) stored stops.1 in
      let all : cut_beside o c start len ≡ o = rw (lt-ltb (length o) 8 short) refl in
      subst (CutBesideStops mode root start len disk o c other file path) (sym (is ∙ ap (λ it. first_fault_of other (Check it)) stops.0))
      (inr (inl (inl (subst (λ (x : List ℕ). length x < 8) (sym all) short, refl))))
  beside_short outboard outline o c input disk other file path Input answer opens sure at_outboard is stops = inl (is, λ d. stops (sure d))
  beside_short outboard outline o c input disk other file path Output answer opens sure at_outboard is stops = absurd stops
