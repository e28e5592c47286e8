-- What was read when two checks of the same bytes have one answer.
use Rattle.std.proofs.Common.{◌≡◌, inl, inr, ℕ, List, ◌++◌, length, take, drop, Option, None, Some, Result, Ok, Err, IfErr, IfOk, IfSome, OnOk, refl, sym, ap, subst, ◌∙◌, arith, length-append}
use Rattle.std.specs.Io.KnownBytes.{Consumes}
use Rattle.std.proofs.lemmas.List.{drop_at}
use Rattle.std.proofs.Math.Seq.{take-append_seam}
use Rattle.b3tree.specs.declared.mode.Mode.{Mode}
use Rattle.bao_text.specs.Cut.{claimed}
use Rattle.bao_text.specs.Nodes.{TreeNode, nodes, placed_nodes}
use Rattle.bao_check.specs.declared.checked.Checked.{Checked}
use Rattle.bao_check.specs.declared.fault.CheckFault.{CheckFault}
use Rattle.bao_check.specs.declared.fault.CheckFault.TheVariants.{Short, Mismatch, Trailing, Memory, Reader}
use Rattle.bao_check.specs.Accepted.{IsAccepted, end_of, slice_nodes}
use Rattle.bao_check.specs.Checked.{piece_text}
use Rattle.bao_check.specs.Faults.{IsFirstBad}
use Rattle.bao_check.specs.Streams.{EndsMismatched, IsOfBytes, IsReadFault}
use Rattle.bao_check.proofs.Subtrees.{claimed-append}
use Rattle.determined_texts.specs.Texts.{AgreeOfBytes, IsOwn, SamePiece}
use Rattle.determined_texts.proofs.Offsets.{same_place}
use Rattle.determined_texts.proofs.OneText.{left_of, one_text}

-- beginnings of one length, and what follows them
pub record IsOneCut (xs ys rest more : List ℕ) : Type 0 where
  pub front : xs ≡ ys
  pub back : rest ≡ more

pub one_cut : (all xs ys rest more : List ℕ) → all ≡ xs ++ rest → all ≡ ys ++ more → length xs ≡ length ys → IsOneCut xs ys rest more
one_cut all xs ys rest more a b size = record {
  front = sym (take-append_seam xs rest) ∙ ap (take (length xs)) (sym a ∙ b) ∙ ap (λ (n : ℕ). take n (ys ++ more)) size ∙ take-append_seam ys more;
  back = sym (drop_at xs rest (length xs) refl) ∙ ap (drop (length xs)) (sym a ∙ b) ∙ ap (λ (n : ℕ). drop n (ys ++ more)) size ∙ drop_at ys more (length ys) refl;
}

-- what ends with the first node that isn't good, at one place
one_mismatch : (mode : Mode) (root : List ℕ) (start len : ℕ) (all xs ys rest more : List ℕ) (at : ℕ) → all ≡ xs ++ rest → all ≡ ys ++ more
    → EndsMismatched mode root xs (slice_nodes xs start len) at → EndsMismatched mode root ys (slice_nodes ys start len) at → length xs ≡ length ys
one_mismatch mode root start len all xs ys rest more at a b x y =
    let same : claimed ys ≡ claimed xs = sym (claimed-append ys more y.0) ∙ ap claimed (sym b ∙ a) ∙ claimed-append xs rest x.0 in
    let p : ℕ × TreeNode = x.1.0 in
    let q : ℕ × TreeNode = y.1.0 in
    let first : IsFirstBad mode root xs (placed_nodes 8 (nodes (claimed xs) start len)) p = x.1.1 in
    let second : IsFirstBad mode root ys (placed_nodes 8 (nodes (claimed ys) start len)) q = y.1.1 in
    let place : p ≡ q = same_place (claimed xs) start len first.earlier second.earlier p q first.later second.later first.split
    (ap (λ (n : ℕ). placed_nodes 8 (nodes n start len)) (sym same) ∙ second.split) (sym x.1.2 ∙ y.1.2) in
    x.1.3 ∙ ap end_of place ∙ sym y.1.3

-- how much was read
one_fault_size : (mode : Mode) (root : List ℕ) (start len : ℕ) (all xs ys rest more : List ℕ) (f : CheckFault) → all ≡ xs ++ rest → all ≡ ys ++ more → IsOfBytes f
    → IsReadFault mode root start len xs (Some rest) f → IsReadFault mode root start len ys (Some more) f → length xs ≡ length ys
one_fault_size mode root start len all xs ys rest more (Short at) a b own x y =
    omega (arith, ap length a, ap length b, length-append xs rest, length-append ys more, ap length x.1, ap length y.1)
one_fault_size mode root start len all xs ys rest more (Mismatch at) a b own x y = one_mismatch mode root start len all xs ys rest more at a b x y
one_fault_size mode root start len all xs ys rest more (Trailing at) a b own x y = absurd x
one_fault_size mode root start len all xs ys rest more Memory a b own x y = absurd own
one_fault_size mode root start len all xs ys rest more Reader a b own x y = absurd own

same_size : (mode : Mode) (root : List ℕ) (start len : ℕ) (all xs ys rest more : List ℕ) (r s : Result (Unit {0}) CheckFault) → all ≡ xs ++ rest → all ≡ ys ++ more
    → OnOk r (IsAccepted mode root xs (slice_nodes xs start len)) → OnOk s (IsAccepted mode root ys (slice_nodes ys start len))
    → IfErr r (IsReadFault mode root start len xs (Some rest)) → IfErr s (IsReadFault mode root start len ys (Some more)) → r ≡ s → IsOwn r → length xs ≡ length ys
same_size mode root start len all xs ys rest more (Ok u) (Ok v) a b p q e f same own = ap length (one_text mode root start len all xs ys rest more a b p q)
same_size mode root start len all xs ys rest more (Ok u) (Err g) a b p q e f same own = cc
same_size mode root start len all xs ys rest more (Err g) (Ok v) a b p q e f same own = cc
same_size mode root start len all xs ys rest more (Err g) (Err h) a b p q e f same own =
    let fault : h ≡ g = cc in
    one_fault_size mode root start len all xs ys rest more g a b own e (subst (IsReadFault mode root start len ys (Some more)) fault f)

pub left_alike : (mode : Mode) (root : List ℕ) (start len : ℕ) (before also after later : Option (List ℕ)) (xs ys : List ℕ) (r s : Result (Unit {0}) CheckFault) → before ≡ also
    → Consumes before after xs → Consumes also later ys → OnOk r (IsAccepted mode root xs (slice_nodes xs start len)) → OnOk s (IsAccepted mode root ys (slice_nodes ys start len))
    → IfErr r (IsReadFault mode root start len xs after) → IfErr s (IsReadFault mode root start len ys later)
    → IfSome before (λ _. r ≡ s → IsOwn r → (xs ≡ ys) × (after ≡ later))
left_alike mode root start len None also after later xs ys r s is a b p q e f = tt
left_alike mode root start len (Some all) None after later xs ys r s is a b p q e f = absurd (let no : Some all ≡ None = is in cc)
left_alike mode root start len (Some all) (Some others) None later xs ys r s is a b p q e f = absurd a
left_alike mode root start len (Some all) (Some others) (Some rest) None xs ys r s is a b p q e f = absurd b
left_alike mode root start len (Some all) (Some others) (Some rest) (Some more) xs ys r s is a b p q e f = λ same own.
    let one : all ≡ others = cc in
    let cut = one_cut all xs ys rest more a (one ∙ b) (same_size mode root start len all xs ys rest more r s a (one ∙ b) p q e f same own) in
    (cut.front, ap (λ o. Some o) cut.back)

abbrev Read : Mode → List ℕ → ℕ → ℕ → Option (List ℕ) → Option (List ℕ) → CheckFault → Type 0
Read mode root start len before after fault = (read : List ℕ) × Consumes before after read × IsReadFault mode root start len read after fault

-- and after two that have one fault
same_faults : (mode : Mode) (root : List ℕ) (start len : ℕ) (all : List ℕ) (after later : Option (List ℕ)) (f : CheckFault) → IsOfBytes f → Read mode root start len (Some all) after f
    → Read mode root start len (Some all) later f → after ≡ later
same_faults mode root start len all after later f own x y =
    let one = left_of all after x.0 x.1 in
    let two = left_of all later y.0 y.1 in
    let here : IsReadFault mode root start len x.0 (Some one.0) f = subst (λ (o : Option (List ℕ)). IsReadFault mode root start len x.0 o f) one.1 x.2 in
    let there : IsReadFault mode root start len y.0 (Some two.0) f = subst (λ (o : Option (List ℕ)). IsReadFault mode root start len y.0 o f) two.1 y.2 in
    let cut = one_cut all x.0 y.0 one.0 two.0 one.2 two.2 (one_fault_size mode root start len all x.0 y.0 one.0 two.0 f one.2 two.2 own here there) in
    one.1 ∙ ap (λ o. Some o) cut.back ∙ sym two.1

same_texts : (all : List ℕ) (after later : Option (List ℕ)) (xs ys : List ℕ) → xs ≡ ys → Consumes (Some all) after xs → Consumes (Some all) later ys → after ≡ later
same_texts all after later xs ys same x y =
    let one = left_of all after xs x in
    let two = left_of all later ys y in
    let cut = one_cut all xs ys one.0 two.0 one.2 two.2 (ap length same) in one.1 ∙ ap (λ o. Some o) cut.back ∙ sym two.1

known_left : (mode : Mode) (root : List ℕ) (start len : ℕ) (all : List ℕ) (after later : Option (List ℕ)) (r s : Result Checked CheckFault) → AgreeOfBytes SamePiece r s
    → IfOk r (λ x. Consumes (Some all) after (piece_text x)) → IfOk s (λ x. Consumes (Some all) later (piece_text x))
    → IfErr r (Read mode root start len (Some all) after) → IfErr s (Read mode root start len (Some all) later) → IsOwn r → IsOwn s → after ≡ later
known_left mode root start len all after later (Ok x) (Ok y) agree p q e f own also = same_texts all after later (piece_text x) (piece_text y) agree.text_is p q
known_left mode root start len all after later (Ok x) (Err h) agree p q e f own also = absurd (agree also)
known_left mode root start len all after later (Err g) (Ok y) agree p q e f own also = absurd (agree own)
known_left mode root start len all after later (Err g) (Err h) agree p q e f own also = elim agree [
  | inl same ↦ same_faults mode root start len all after later g own e (subst (Read mode root start len (Some all) later) (sym same) f)
  | inr (inl other) ↦ absurd (other own)
  | inr (inr other) ↦ absurd (other also)
]

pub stream_left : (mode : Mode) (root : List ℕ) (start len : ℕ) (before also after later : Option (List ℕ)) (r s : Result Checked CheckFault) → before ≡ also
    → IfSome before (λ all. AgreeOfBytes SamePiece r s) → IfOk r (λ x. Consumes before after (piece_text x)) → IfOk s (λ x. Consumes also later (piece_text x))
    → IfErr r (Read mode root start len before after) → IfErr s (Read mode root start len also later) → IfSome before (λ _. IsOwn r → IsOwn s → after ≡ later)
stream_left mode root start len None also after later r s is agree p q e f = tt
stream_left mode root start len (Some all) also after later r s is agree p q e f =
    known_left mode root start len all after later r s agree p (subst (λ (o : Option (List ℕ)). IfOk s (λ x. Consumes o later (piece_text x))) (sym is) q) e
    (subst (λ (o : Option (List ℕ)). IfErr s (Read mode root start len o later)) (sym is) f)
