-- What readers that have the same left give as one encoding.
use Rattle.std.proofs.Common.{◌≡◌, ◌⊎◌, inl, inr, ℕ, List, ◌++◌, length, take, Option, None, Some, Result, Ok, Err, IfOk, IfSome, OnOk, MatchResult, refl, sym, ap, subst, ◌∙◌}
use Rattle.std.specs.Io.KnownBytes.{Consumes}
use Rattle.std.proofs.Math.Seq.{take-append_seam}
use Rattle.b3tree.specs.declared.mode.Mode.{Mode}
use Rattle.bao_text.specs.Cut.{claimed}
use Rattle.bao_text.specs.Nodes.{nodes}
use Rattle.bao_check.specs.declared.checked.Checked.{Checked}
use Rattle.bao_check.specs.declared.fault.CheckFault.{CheckFault}
use Rattle.bao_check.specs.declared.fault.CheckFault.TheVariants.{Short, Mismatch, Trailing, Memory, Reader}
use Rattle.bao_check.specs.Accepted.{IsAccepted, slice_nodes, text_end}
use Rattle.bao_check.specs.Checked.{IsPiece, piece_len, piece_mode, piece_root, piece_start, piece_text}
use Rattle.bao_check.specs.Faults.{IsFirstFault}
use Rattle.bao_check.specs.Streams.{BeginsAccepted, IsOfBytes, IsStreamFault}
use Rattle.bao_check.proofs.Streamed.{fault-not_begun}
use Rattle.bao_check.proofs.Subtrees.{claimed-append}
use Rattle.determined_texts.specs.Texts.{AgreeOfBytes, SamePiece}
use Rattle.determined_texts.proofs.OneFault.{one_fault, same_piece}

of_bytes : (f : CheckFault) → IsOfBytes f ⊎ (¬ IsOfBytes f)
of_bytes (Short at) = inl tt
of_bytes (Mismatch at) = inl tt
of_bytes (Trailing at) = inl tt
of_bytes Memory = inr (λ own. own)
of_bytes Reader = inr (λ own. own)

-- two faults, of which those of the bytes are one
pub of_bytes_agree : (e f : CheckFault) → (IsOfBytes e → IsOfBytes f → e ≡ f) → (e ≡ f) ⊎ (¬ IsOfBytes e) ⊎ (¬ IsOfBytes f)
of_bytes_agree e f one = elim (of_bytes e) [
  | inr other ↦ inr (inl other)
  | inl own ↦ elim (of_bytes f) [
    | inr other ↦ inr (inr other)
    | inl also ↦ inl (one own also)
  ]
]

first_of : (mode : Mode) (root : List ℕ) (start len : ℕ) (all : List ℕ) (e : CheckFault) → IsStreamFault mode root start len all e → IsOfBytes e
    → IsFirstFault mode root all (slice_nodes all start len) e
first_of mode root start len all (Short at) is own = is
first_of mode root start len all (Mismatch at) is own = is
first_of mode root start len all (Trailing at) is own = absurd is
first_of mode root start len all Memory is own = absurd own
first_of mode root start len all Reader is own = absurd own

-- The bytes begin with one accepted encoding at most.
pub one_text : (mode : Mode) (root : List ℕ) (start len : ℕ) (all xs ys rest more : List ℕ) → all ≡ xs ++ rest → all ≡ ys ++ more → IsAccepted mode root xs (slice_nodes xs start len)
    → IsAccepted mode root ys (slice_nodes ys start len) → xs ≡ ys
one_text mode root start len all xs ys rest more a b one other =
    let same : claimed xs ≡ claimed ys =
    sym (claimed-append xs rest one.long) ∙ ap claimed (sym a) ∙ ap claimed b ∙ claimed-append ys more other.long in
    let size : length xs ≡ length ys = one.ends ∙ ap (λ (n : ℕ). text_end (nodes n start len)) same ∙ sym other.ends in
    sym (take-append_seam xs rest) ∙ ap (λ (s : List ℕ). take (length xs) s) (sym a) ∙ ap (λ (n : ℕ). take n all) size
    ∙ ap (λ (s : List ℕ). take (length ys) s) b ∙ take-append_seam ys more

-- what two checks of the bytes answer
abbrev pub Says : Mode → List ℕ → ℕ → ℕ → List ℕ → {X : Type 0} → Result X CheckFault → Type 0
Says mode root start len all r = MatchResult r (λ _. BeginsAccepted mode root start len all) (IsStreamFault mode root start len all)

answers : {X : Type 0} (Same : X → X → Type 0) (mode : Mode) (root : List ℕ) (start len : ℕ) (all : List ℕ) (r s : Result X CheckFault)
    → ((x y : X) → r ≡ Ok x → s ≡ Ok y → Same x y) → Says mode root start len all r → Says mode root start len all s → AgreeOfBytes Same r s
answers Same mode root start len all (Ok x) (Ok y) both p q = both x y refl refl
answers Same mode root start len all (Ok x) (Err f) both p q = λ own. fault-not_begun mode root start len all f q own p
answers Same mode root start len all (Err e) (Ok y) both p q = λ own. fault-not_begun mode root start len all e p own q
answers Same mode root start len all (Err e) (Err f) both p q =
    of_bytes_agree e f (λ own also. one_fault mode root all (slice_nodes all start len) e f (first_of mode root start len all e p own) (first_of mode root start len all f q also))

-- what is left of known bytes
pub left_of : (all : List ℕ) (after : Option (List ℕ)) (xs : List ℕ) → Consumes (Some all) after xs → (rest : List ℕ) × (after ≡ Some rest) × (all ≡ xs ++ rest)
left_of all None xs h = absurd h
left_of all (Some rest) xs h = (rest, refl, h)

pub texts_agree : (mode : Mode) (root : List ℕ) (start len : ℕ) (before after later : Option (List ℕ)) (xs ys : List ℕ) (r s : Result (Unit {0}) CheckFault)
    → Consumes before after xs → Consumes before later ys → OnOk r (IsAccepted mode root xs (slice_nodes xs start len)) → OnOk s (IsAccepted mode root ys (slice_nodes ys start len))
    → IfSome before (λ all. Says mode root start len all r) → IfSome before (λ all. Says mode root start len all s)
    → IfSome before (λ all. AgreeOfBytes (λ _ _. xs ≡ ys) r s)
texts_agree mode root start len None after later xs ys r s a b p q one other = tt
texts_agree mode root start len (Some all) after later xs ys r s a b p q one other =
    let first = left_of all after xs a in
    let second = left_of all later ys b in
    answers (λ _ _. xs ≡ ys) mode root start len all r s
    (λ x y is also. one_text mode root start len all xs ys first.0 second.0 first.2 second.2
    (subst (λ (t : Result (Unit {0}) CheckFault). OnOk t (IsAccepted mode root xs (slice_nodes xs start len))) is p)
    (subst (λ (t : Result (Unit {0}) CheckFault). OnOk t (IsAccepted mode root ys (slice_nodes ys start len))) also q)) one other

-- a piece that a reader gave, with what a piece carries
carried : (mode : Mode) (root : List ℕ) (start len : ℕ) (x : Checked) → IsPiece x mode root start len (piece_text x) → IsAccepted (piece_mode x) (piece_root x) (piece_text x) (slice_nodes (piece_text x) (piece_start x) (piece_len x))
    → IsAccepted mode root (piece_text x) (slice_nodes (piece_text x) start len)
carried mode root start len x is accepted = rw (sym is.mode_is, sym is.root_is, sym is.start_is, sym is.len_is) accepted

pub pieces_agree : (mode : Mode) (root : List ℕ) (start len : ℕ) (before after later : Option (List ℕ)) (r s : Result Checked CheckFault)
    → IfOk r (λ x. IsPiece x mode root start len (piece_text x)) → IfOk s (λ x. IsPiece x mode root start len (piece_text x))
    → IfOk r (λ x. Consumes before after (piece_text x)) → IfOk s (λ x. Consumes before later (piece_text x))
    → IfOk r (λ x. IsAccepted (piece_mode x) (piece_root x) (piece_text x) (slice_nodes (piece_text x) (piece_start x) (piece_len x)))
    → IfOk s (λ x. IsAccepted (piece_mode x) (piece_root x) (piece_text x) (slice_nodes (piece_text x) (piece_start x) (piece_len x)))
    → IfSome before (λ all. Says mode root start len all r) → IfSome before (λ all. Says mode root start len all s)
    → IfSome before (λ all. AgreeOfBytes SamePiece r s)
pieces_agree mode root start len None after later r s a b p q u v one other = tt
pieces_agree mode root start len (Some all) after later (Ok x) (Ok y) a b p q u v one other =
    let first = left_of all after (piece_text x) p in
    let second = left_of all later (piece_text y) q in
    let same : piece_text x ≡ piece_text y =
    one_text mode root start len all (piece_text x) (piece_text y) first.0 second.0 first.2 second.2 (carried mode root start len x a u) (carried mode root start len y b v) in
    same_piece mode root start len (piece_text x) x y a (subst (λ (s : List ℕ). IsPiece y mode root start len s) (sym same) b)
pieces_agree mode root start len (Some all) after later (Ok x) (Err f) a b p q u v one other =
    answers SamePiece mode root start len all (Ok x) (Err f) (λ x y e h. absurd (let no : Err f ≡ Ok y = h in cc)) one other
pieces_agree mode root start len (Some all) after later (Err e) (Ok y) a b p q u v one other =
    answers SamePiece mode root start len all (Err e) (Ok y) (λ x y h f. absurd (let no : Err e ≡ Ok x = h in cc)) one other
pieces_agree mode root start len (Some all) after later (Err e) (Err f) a b p q u v one other =
    answers SamePiece mode root start len all (Err e) (Err f) (λ x y h g. absurd (let no : Err e ≡ Ok x = h in cc)) one other
