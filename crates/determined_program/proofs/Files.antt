-- What readers that have the same left give as one whole encoding.
use Rattle.std.proofs.Common.{◌≡◌, ℕ, List, [], length, Option, None, Some, Result, Ok, Err, IfErr, IfOk, IfSome, sym, ap, subst, ◌∙◌, arith, append-nil, length-append}
use Rattle.b3tree.specs.declared.mode.Mode.{Mode}
use Rattle.bao_check.specs.declared.checked.Checked.{Checked}
use Rattle.bao_check.specs.declared.fault.CheckFault.{CheckFault}
use Rattle.bao_check.specs.declared.fault.CheckFault.TheVariants.{Short, Mismatch, Trailing, Memory, Reader}
use Rattle.bao_check.specs.Accepted.{IsAccepted, slice_nodes}
use Rattle.bao_check.specs.Checked.{IsPiece, piece_len, piece_mode, piece_root, piece_start, piece_text}
use Rattle.bao_check.specs.Streams.{BeginsAccepted, IsOfBytes}
use Rattle.bao_check.proofs.Laws.{first_fault-not_accepted}
use Rattle.bao_check.proofs.Streamed.{fault-not_begun}
use Rattle.bao_decode.specs.Ranges.{IsFileFault}
use Rattle.determined_texts.specs.Texts.{AgreeOfBytes, SamePiece}
use Rattle.determined_texts.proofs.OneFault.{one_fault, same_piece}
use Rattle.determined_texts.proofs.OneText.{of_bytes_agree, one_text}

-- what a piece carries
abbrev pub Carries : Checked → Type 0
Carries x = IsAccepted (piece_mode x) (piece_root x) (piece_text x) (slice_nodes (piece_text x) (piece_start x) (piece_len x))

carried : (mode : Mode) (root : List ℕ) (start len : ℕ) (all : List ℕ) (x : Checked) → IsPiece x mode root start len (piece_text x) → all ≡ piece_text x → Carries x
    → IsAccepted mode root all (slice_nodes all start len)
carried mode root start len all x is whole accepted =
    subst (λ (s : List ℕ). IsAccepted mode root s (slice_nodes s start len)) (sym whole) (rw (sym is.mode_is, sym is.root_is, sym is.start_is, sym is.len_is) accepted)

-- two answers, by what their faults say
faults_agree : (mode : Mode) (root : List ℕ) (start len : ℕ) (all : List ℕ) (Says : CheckFault → Type 0)
    → ((f : CheckFault) → Says f → IsOfBytes f → IsAccepted mode root all (slice_nodes all start len) → ⊥)
    → ((e f : CheckFault) → Says e → Says f → IsOfBytes e → IsOfBytes f → e ≡ f)
    → (r s : Result Checked CheckFault)
    → IfOk r (λ x. IsPiece x mode root start len (piece_text x)) → IfOk s (λ x. IsPiece x mode root start len (piece_text x))
    → IfOk r (λ x. all ≡ piece_text x) → IfOk s (λ x. all ≡ piece_text x) → IfOk r Carries → IfOk s Carries
    → IfErr r Says → IfErr s Says → AgreeOfBytes SamePiece r s
faults_agree mode root start len all Says apart one (Ok x) (Ok y) a b p q u v e f =
    same_piece mode root start len (piece_text x) x y a (subst (λ (s : List ℕ). IsPiece y mode root start len s) (sym q ∙ p) b)
faults_agree mode root start len all Says apart one (Ok x) (Err h) a b p q u v e f = λ own. apart h f own (carried mode root start len all x a p u)
faults_agree mode root start len all Says apart one (Err g) (Ok y) a b p q u v e f = λ own. apart g e own (carried mode root start len all y b q v)
faults_agree mode root start len all Says apart one (Err g) (Err h) a b p q u v e f = of_bytes_agree g h (λ own also. one g h e f own also)

pub answers_agree : (mode : Mode) (root : List ℕ) (start len : ℕ) (Says : List ℕ → CheckFault → Type 0)
    → ((all : List ℕ) (f : CheckFault) → Says all f → IsOfBytes f → IsAccepted mode root all (slice_nodes all start len) → ⊥)
    → ((all : List ℕ) (e f : CheckFault) → Says all e → Says all f → IsOfBytes e → IsOfBytes f → e ≡ f)
    → (before also : Option (List ℕ)) (r s : Result Checked CheckFault) → before ≡ also
    → IfOk r (λ x. IsPiece x mode root start len (piece_text x)) → IfOk s (λ x. IsPiece x mode root start len (piece_text x))
    → IfOk r (λ x. IfSome before (λ all. all ≡ piece_text x)) → IfOk s (λ x. IfSome also (λ all. all ≡ piece_text x)) → IfOk r Carries → IfOk s Carries
    → IfErr r (λ f. IfSome before (λ all. Says all f)) → IfErr s (λ f. IfSome also (λ all. Says all f)) → IfSome before (λ all. AgreeOfBytes SamePiece r s)
answers_agree mode root start len Says apart one None also r s same a b p q u v e f = tt
answers_agree mode root start len Says apart one (Some all) also r s same a b p q u v e f =
    faults_agree mode root start len all (Says all) (apart all) (one all) r s a b p
    (subst (λ (o : Option (List ℕ)). IfOk s (λ x. IfSome o (λ all. all ≡ piece_text x))) (sym same) q) u v e
    (subst (λ (o : Option (List ℕ)). IfErr s (λ f. IfSome o (λ all. Says all f))) (sym same) f)

-- a byte after an accepted text, and the bytes are no such text
trailing_apart : (mode : Mode) (root : List ℕ) (start len : ℕ) (all : List ℕ) (at : ℕ) → IsFileFault mode root start len all (Trailing at)
    → IsAccepted mode root all (slice_nodes all start len) → ⊥
trailing_apart mode root start len all at bad accepted =
    let whole : all ≡ bad.0 = one_text mode root start len all all bad.0 [] bad.1.0 (sym (append-nil all)) bad.1.1 accepted bad.1.2 in
    omega (arith, bad.1.4, ap (λ (s : List ℕ). length s) whole, ap (λ (s : List ℕ). length s) bad.1.1, length-append bad.0 bad.1.0)

begun : (mode : Mode) (root : List ℕ) (start len : ℕ) (all : List ℕ) (at : ℕ) → IsFileFault mode root start len all (Trailing at) → BeginsAccepted mode root start len all
begun mode root start len all at bad = record { text = bad.0; rest = bad.1.0; split = bad.1.1; accepted = bad.1.2 }

pub file_apart : (mode : Mode) (root : List ℕ) (start len : ℕ) (all : List ℕ) (f : CheckFault) → IsFileFault mode root start len all f → IsOfBytes f
    → IsAccepted mode root all (slice_nodes all start len) → ⊥
file_apart mode root start len all (Short at) bad own accepted = first_fault-not_accepted mode root all (slice_nodes all start len) (Short at) bad accepted
file_apart mode root start len all (Mismatch at) bad own accepted = first_fault-not_accepted mode root all (slice_nodes all start len) (Mismatch at) bad accepted
file_apart mode root start len all (Trailing at) bad own accepted = trailing_apart mode root start len all at bad accepted
file_apart mode root start len all Memory bad own accepted = absurd own
file_apart mode root start len all Reader bad own accepted = absurd own

pub one_file_fault : (mode : Mode) (root : List ℕ) (start len : ℕ) (all : List ℕ) (e f : CheckFault) → IsFileFault mode root start len all e → IsFileFault mode root start len all f
    → IsOfBytes e → IsOfBytes f → e ≡ f
one_file_fault mode root start len all (Short i) (Short j) a b own also = one_fault mode root all (slice_nodes all start len) (Short i) (Short j) a b
one_file_fault mode root start len all (Short i) (Mismatch j) a b own also = one_fault mode root all (slice_nodes all start len) (Short i) (Mismatch j) a b
one_file_fault mode root start len all (Mismatch i) (Short j) a b own also = one_fault mode root all (slice_nodes all start len) (Mismatch i) (Short j) a b
one_file_fault mode root start len all (Mismatch i) (Mismatch j) a b own also = one_fault mode root all (slice_nodes all start len) (Mismatch i) (Mismatch j) a b
one_file_fault mode root start len all (Trailing i) (Trailing j) a b own also =
    let same : a.0 ≡ b.0 = one_text mode root start len all a.0 b.0 a.1.0 b.1.0 a.1.1 b.1.1 a.1.2 b.1.2 in
    ap (λ (k : ℕ). Trailing k) (a.1.3 ∙ ap (λ (s : List ℕ). length s) same ∙ sym b.1.3)
one_file_fault mode root start len all (Trailing i) (Short j) a b own also = absurd (fault-not_begun mode root start len all (Short j) b also (begun mode root start len all i a))
one_file_fault mode root start len all (Trailing i) (Mismatch j) a b own also = absurd (fault-not_begun mode root start len all (Mismatch j) b also (begun mode root start len all i a))
one_file_fault mode root start len all (Short i) (Trailing j) a b own also = absurd (fault-not_begun mode root start len all (Short i) a own (begun mode root start len all j b))
one_file_fault mode root start len all (Mismatch i) (Trailing j) a b own also = absurd (fault-not_begun mode root start len all (Mismatch i) a own (begun mode root start len all j b))
one_file_fault mode root start len all Memory f a b own also = absurd own
one_file_fault mode root start len all Reader f a b own also = absurd own
one_file_fault mode root start len all e Memory a b own also = absurd also
one_file_fault mode root start len all e Reader a b own also = absurd also
