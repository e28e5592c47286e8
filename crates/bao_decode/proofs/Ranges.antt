-- The bytes of chunks, written one after another.
use Rattle.std.proofs.Common.{◌≡◌, ℕ, ◌+◌, ◌-◌, ◌<◌, min, List, ◌++◌, length, take, drop, Option, Some, None, IfSome, ◌∙◌, sym, ap, refl, subst, arith}
use Rattle.std.proofs.KnownBytes.{Appends-trans, Appends-kept}
use Rattle.std.proofs.Math.Seq.{take-append-add}
use Rattle.std.proofs.lemmas.List.{take-append-le, take_at, take_min, drop_min, length-take-le}
use Rattle.std.proofs.lemmas.Slice.{between_is}
use Rattle.std.specs.Io.KnownBytes.{Appends, Consumes}
use Rattle.bao_text.specs.declared.fault.WriteFault.{WriteFault}
use Rattle.bao_text.specs.declared.fault.WriteFault.TheVariants as write
use Rattle.bao_text.specs.Faults.{WroteOnly}
use Rattle.b3tree.specs.declared.mode.Mode.{Mode}
use Rattle.bao_check.specs.Accepted.{IsAccepted, slice_nodes}
use Rattle.bao_check.specs.Checked.{IsPiece, piece_text}
use Rattle.bao_check.specs.declared.checked.Checked.{Checked}
use Rattle.bao_check.specs.declared.fault.CheckFault.{CheckFault}
use Rattle.bao_check.specs.declared.fault.CheckFault.TheVariants.{Trailing}
use Rattle.bao_files.specs.Printed.{AppendsBeginning}
use Rattle.bao_decode.specs.Ranges.{IsFileFault}

-- what a piece carries, in the words of whoever asked for it
pub accepted_of : (piece : Checked) (mode : Mode) (root : List ℕ) (start len : ℕ) → IsPiece piece mode root start len (piece_text piece)
    → IsAccepted mode root (piece_text piece) (slice_nodes (piece_text piece) start len)
accepted_of piece mode root start len is =
    let text : List ℕ = piece_text piece in
    let inMode = subst (λ m. IsAccepted m piece.root.0 text (slice_nodes text piece.start piece.len)) is.mode_is piece.accepted in
    let underRoot = subst (λ r. IsAccepted mode r text (slice_nodes text piece.start piece.len)) is.root_is inMode in
    let fromStart = subst (λ s. IsAccepted mode root text (slice_nodes text s piece.len)) is.start_is underRoot in
    subst (λ n. IsAccepted mode root text (slice_nodes text start n)) is.len_is fromStart

-- a byte after an accepted encoding
pub trails : (before after : Option (List ℕ)) (mode : Mode) (root : List ℕ) (start len : ℕ) (text : List ℕ) (fault : CheckFault)
    → IsAccepted mode root text (slice_nodes text start len) → Consumes before after text → IfSome after (λ left. 0 < length left) → fault ≡ Trailing (length text)
    → IfSome before (λ all. IsFileFault mode root start len all fault)
trails None after mode root start len text fault accepted taken more is = tt
trails (Some all) None mode root start len text fault accepted taken more is = absurd taken
trails (Some all) (Some left) mode root start len text fault accepted taken more is =
    subst (λ f. IsFileFault mode root start len all f) (sym is) (text, (left, taken, accepted, refl, more))

-- the length of a list that is cut
length_cut : {X : Type 0} (q : ℕ) (xs : List X) → length (take (min q (length xs)) xs) ≡ min q (length xs)
length_cut q xs = length-take-le (min q (length xs)) xs (omega arith)

-- a bound past the end is as good as the end
cut : {X : Type 0} (p e : ℕ) (ys : List X) → length ys ≡ e → drop (min p e) ys ≡ drop p ys
cut p e ys at = subst (λ n. drop (min p n) ys ≡ drop p ys) at (drop_min p ys)

-- bounds that are cut to the list's length, and to one another
pub bounded : {X : Type 0} (p q : ℕ) (xs : List X) → take (min q (length xs) - min p (min q (length xs))) (drop (min p (min q (length xs))) xs) ≡ drop p (take q xs)
bounded p q xs =
    let e : ℕ = min q (length xs) in
    let ys = take e xs in
    let same : ys ≡ take q xs = take_min q xs in
    let inner : take (e - min p e) (drop (min p e) xs) ≡ drop (min p e) ys = between_is xs (min p e) e in
    inner ∙ cut p e ys (length_cut q xs) ∙ ap (drop p) same

-- after whole parts, a beginning of one more is a beginning of all
pub begins : (old mid new : Option (List ℕ)) (done part rest all : List ℕ) (fault : WriteFault)
    → all ≡ done ++ (part ++ rest) → Appends old mid done → WroteOnly mid new part fault → AppendsBeginning old new all
begins old mid new done part rest all write.Memory split h k =
    let whole : take (length done) all ≡ done = ap (take (length done)) split ∙ take_at done (part ++ rest) (length done) refl in
    (length done, subst (Appends old new) (sym whole) (Appends-kept old mid new done h k))
begins old mid new done part rest all (write.Writer written) split h k =
    let short : written < length part = k.0 in
    let piece : take written (part ++ rest) ≡ take written part = take-append-le written part rest (omega arith) in
    let whole : take (length done + written) all ≡ done ++ take written part =
    ap (take (length done + written)) split ∙ take-append-add done (part ++ rest) written ∙ ap (λ t. done ++ t) piece in
    (length done + written, subst (Appends old new) (sym whole) (Appends-trans old mid new done (take written part) h k.1))
