-- What writers hold that held the same, once the same was written to them.
use Rattle.std.proofs.Common.{◌≡◌, inl, inr, ℕ, List, take, Option, None, Some, IfErr, IfOk, IfSome, OnOk, Result, Ok, Err, refl, sym, ap, subst, ◌∙◌}
use Rattle.std.specs.Borrow.{Bor}
use Rattle.std.specs.Io.KnownBytes.{Appends, Keeps}
use Rattle.b3tree.specs.declared.mode.Mode.{Mode}
use Rattle.b3tree.specs.declared.values.Hash.{Hash}
use Rattle.bao_files.specs.declared.fault.FileFault.{FileFault}
use Rattle.bao_files.specs.declared.fault.FileFault.TheVariants.{Read, Write, Output, Encoding, Memory}
use Rattle.bao_text.specs.declared.kinds.Encoding.{Encoding as Kind}
use Rattle.bao_files.specs.Encoded.{Encodes, encoding_text}
use Rattle.bao_files.specs.Printed.{IsQuiet, Leaves, Prints}
use Rattle.bao_text.specs.declared.fault.WriteFault.{WriteFault}
use Rattle.bao_text.specs.declared.fault.WriteFault.TheVariants as written
use Rattle.bao_text.specs.Faults.{WroteOnly}
use Rattle.determined_program.specs.Files.{IsBeforeWriting, SameWritten}
use Rattle.determined_texts.proofs.Values.{same_hash}

pub grown : (old a b : Option (List ℕ)) (text xs : List ℕ) → old ≡ Some xs → Appends old a text → Appends old b text → a ≡ b
grown None a b text xs e p q = let no : None ≡ Some xs = e in cc
grown (Some ys) (Some u) (Some v) text xs e p q = ap (λ (s : List ℕ). Some s) (p ∙ sym q)
grown (Some ys) None b text xs e p q = absurd p
grown (Some ys) (Some u) None text xs e p q = absurd q

pub kept : (old a b : Option (List ℕ)) (xs : List ℕ) → old ≡ Some xs → Keeps old a → Keeps old b → a ≡ b
kept None a b xs e p q = let no : None ≡ Some xs = e in cc
kept (Some ys) (Some u) (Some v) xs e p q = ap (λ (s : List ℕ). Some s) (p ∙ sym q)
kept (Some ys) None b xs e p q = absurd p
kept (Some ys) (Some u) None xs e p q = absurd q

quiet_keeps : (line : List ℕ) (old new : Option (List ℕ)) (f : FileFault) → IsQuiet f → Leaves line old new f → Keeps old new
quiet_keeps line old new (Read path) quiet h = h
quiet_keeps line old new (Write path) quiet h = h
quiet_keeps line old new Output quiet h = absurd quiet
quiet_keeps line old new Encoding quiet h = h
quiet_keeps line old new Memory quiet h = h

lines_agree : (line xs : List ℕ) (a b : Option (List ℕ)) (r s : Result (Unit {0}) FileFault) → Prints line (Some xs) a r → Prints line (Some xs) b s → SameWritten IsQuiet a b r s
lines_agree line xs a b (Ok x) (Ok y) p q = grown (Some xs) a b line xs refl p q
lines_agree line xs a b (Ok x) (Err f) p q = tt
lines_agree line xs a b (Err e) (Ok y) p q = tt
lines_agree line xs a b (Err e) (Err f) p q = λ one other. kept (Some xs) a b xs refl (quiet_keeps line (Some xs) a e one p) (quiet_keeps line (Some xs) b f other q)

pub prints_agree : (line : List ℕ) (old also a b : Option (List ℕ)) (r s : Result (Unit {0}) FileFault) → old ≡ also → Prints line old a r → Prints line also b s
    → IfSome old (λ xs. SameWritten IsQuiet a b r s)
prints_agree line None also a b r s same p q = tt
prints_agree line (Some xs) also a b r s same p q = lines_agree line xs a b r s p (subst (λ (o : Option (List ℕ)). Prints line o b s) (sym same) q)

-- a line of what is left
pub read_prints_agree : (line : List ℕ → List ℕ) (before left old also a b : Option (List ℕ)) (r s : Result (Unit {0}) FileFault) → before ≡ left → old ≡ also
    → IfSome before (λ all. Prints (line all) old a r) → IfSome left (λ all. Prints (line all) also b s) → IfSome before (λ all. IfSome old (λ xs. SameWritten IsQuiet a b r s))
read_prints_agree line None left old also a b r s same there p q = tt
read_prints_agree line (Some all) left old also a b r s same there p q =
    prints_agree (line all) old also a b r s there p (subst (λ (o : Option (List ℕ)). IfSome o (λ all. Prints (line all) also b s)) (sym same) q)

-- the fault tells what was written of an encoding
part_agree : (xs text : List ℕ) (a b : Option (List ℕ)) (f : WriteFault) → WroteOnly (Some xs) a text f → WroteOnly (Some xs) b text f → a ≡ b
part_agree xs text a b written.Memory p q = kept (Some xs) a b xs refl p q
part_agree xs text a b (written.Writer n) p q = grown (Some xs) a b (take n text) xs refl p.1 q.1

known_agree : (text xs : List ℕ) (a b : Option (List ℕ)) (r s : Result Hash WriteFault) → OnOk r (Appends (Some xs) a text) → OnOk s (Appends (Some xs) b text)
    → IfErr r (WroteOnly (Some xs) a text) → IfErr s (WroteOnly (Some xs) b text) → r ≡ s → a ≡ b
known_agree text xs a b (Ok x) (Ok y) p q e f same = grown (Some xs) a b text xs refl p q
known_agree text xs a b (Ok x) (Err h) p q e f same = let no : Ok x ≡ Err h = same in cc
known_agree text xs a b (Err g) (Ok y) p q e f same = let no : Err g ≡ Ok y = same in cc
known_agree text xs a b (Err g) (Err h) p q e f same =
    let one : g ≡ h = let e : Err g ≡ Err h = same in cc in part_agree xs text a b g e (subst (WroteOnly (Some xs) b text) (sym one) f)

pub texts_agree : (text : List ℕ) (old also a b : Option (List ℕ)) (r s : Result Hash WriteFault) → old ≡ also → OnOk r (Appends old a text) → OnOk s (Appends also b text)
    → IfErr r (WroteOnly old a text) → IfErr s (WroteOnly also b text) → IfSome old (λ xs. r ≡ s → a ≡ b)
texts_agree text None also a b r s same p q e f = tt
texts_agree text (Some xs) also a b r s same p q e f =
    known_agree text xs a b r s p (subst (λ (o : Option (List ℕ)). OnOk s (Appends o b text)) (sym same) q) e
    (subst (λ (o : Option (List ℕ)). IfErr s (WroteOnly o b text)) (sym same) f)

early_keeps : (mode : Mode) (kind : Kind) (bytes : List ℕ) (file path : Bor (List ℕ)) (old new : Option (List ℕ)) (f : FileFault) → IsBeforeWriting kind f
    → Encodes mode kind bytes file path old new (Err f) → Keeps old new
early_keeps mode kind bytes file path old new f early h = elim h [
  | inl k ↦ k.1
  | inr (inl k) ↦ absurd (subst (IsBeforeWriting kind) k.0 early)
  | inr (inr k) ↦ absurd (subst (IsBeforeWriting kind) k.0 early k.1)
]

encodes_agree : (mode : Mode) (kind : Kind) (bytes : List ℕ) (file path : Bor (List ℕ)) (xs : List ℕ) (a b : Option (List ℕ)) (r s : Result Hash FileFault)
    → Encodes mode kind bytes file path (Some xs) a r → Encodes mode kind bytes file path (Some xs) b s → SameWritten (IsBeforeWriting kind) a b r s
encodes_agree mode kind bytes file path xs a b (Ok x) (Ok y) p q = grown (Some xs) a b (encoding_text mode kind bytes) xs refl p.1 q.1
encodes_agree mode kind bytes file path xs a b (Ok x) (Err f) p q = tt
encodes_agree mode kind bytes file path xs a b (Err e) (Ok y) p q = tt
encodes_agree mode kind bytes file path xs a b (Err e) (Err f) p q =
    λ one other. kept (Some xs) a b xs refl (early_keeps mode kind bytes file path (Some xs) a e one p) (early_keeps mode kind bytes file path (Some xs) b f other q)

-- an input that stands at its beginning
abbrev pub OfInput : Option (List ℕ) → Option (List ℕ) → (List ℕ → Type 0) → Type 0
OfInput contents left P = IfSome contents (λ s. left ≡ Some s → P s)

pub both_inputs : (contents others left more : Option (List ℕ)) (P Q R : List ℕ → Type 0) → contents ≡ others → left ≡ more → ((s : List ℕ) → P s → Q s → R s)
    → OfInput contents left P → OfInput others more Q → OfInput contents left R
both_inputs None others left more P Q R same there follows p q = tt
both_inputs (Some s) others left more P Q R same there follows p q =
    λ stands. follows s (p stands) (subst (λ (o : Option (List ℕ)). IfSome o (λ t. more ≡ Some t → Q t)) (sym same) q (sym there ∙ stands))

pub input_encodes : (mode : Mode) (kind : Kind) (file path : Bor (List ℕ)) (old also a b : Option (List ℕ)) (r s : Result Hash FileFault) → old ≡ also → (bytes : List ℕ)
    → Encodes mode kind bytes file path old a r → Encodes mode kind bytes file path also b s → IfSome old (λ xs. SameWritten (IsBeforeWriting kind) a b r s)
input_encodes mode kind file path None also a b r s same bytes p q = tt
input_encodes mode kind file path (Some xs) also a b r s same bytes p q =
    encodes_agree mode kind bytes file path xs a b r s p (subst (λ (o : Option (List ℕ)). Encodes mode kind bytes file path o b s) (sym same) q)

pub input_hashes : (mode : Mode) (kind : Kind) (file path : Bor (List ℕ)) (old also a b : Option (List ℕ)) (r s : Result Hash FileFault) (bytes : List ℕ)
    → Encodes mode kind bytes file path old a r → Encodes mode kind bytes file path also b s → IfOk r (λ x. IfOk s (λ y. x ≡ y))
input_hashes mode kind file path old also a b (Err e) s bytes p q = tt
input_hashes mode kind file path old also a b (Ok x) (Err f) bytes p q = tt
input_hashes mode kind file path old also a b (Ok x) (Ok y) bytes p q = same_hash x y (p.0 ∙ sym q.0)
