-- Checks in pieces answer alike.
use Rattle.std.proofs.Common.{◌≡◌, ◌↔◌, ◌⊎◌, inl, inr, ℕ, ◌<◌, ◌≤◌, Bool, true, false, List, [], ◌++◌, length, Option, None, Some, IsNone, IfSome, IfErr, Result, Ok, Err, OnOk, OnErr, MatchResult, IsTrue, arith, refl, sym, subst, ◌∙◌, ◌^◌, append-nil, length-append}
use Rattle.std.proofs.lemmas.Bool.{cases_lt}
use Rattle.std.proofs.lemmas.List.{nil_from_length}
use Rattle.bao_check.specs.declared.checking.Checking.{Checking}
use Rattle.bao_check.specs.declared.fault.CheckFault.{CheckFault}
use Rattle.bao_check.specs.declared.fault.CheckFault.TheVariants.{Short, Mismatch, Trailing, Memory, Reader}
use Rattle.bao_check.specs.Accepted.{slice_nodes}
use Rattle.bao_check.specs.Checking.{HasTakenAs, IsNodeFault}
use Rattle.bao_check.specs.Waiting.{CheckTask, IsAcceptedAs, IsFaultAs}
use Rattle.bao_check.proofs.Laws.{first_fault-not_accepted}
use Rattle.determined_texts.specs.Agreeing.{Agree, AgreeButFor}
use Rattle.determined_texts.proofs.OneFault.{one_fault}

pub one_flag : (x y : Bool) (P : Type 0) → (IsTrue x ↔ P) → (IsTrue y ↔ P) → x ≡ y
one_flag true true P a b = refl
one_flag false false P a b = refl
one_flag true false P a b = sym (b.1 (a.0 refl))
one_flag false true P a b = a.1 (b.0 refl)

pub not_both : (task : CheckTask) (text : List ℕ) (f : CheckFault) → IsFaultAs task text f → IsAcceptedAs task text → ⊥
not_both task text f fault accepted = first_fault-not_accepted task.mode task.root text (slice_nodes text task.start task.len) f fault accepted

pub same_fault : (task : CheckTask) (text : List ℕ) (e f : CheckFault) → IsFaultAs task text e → IsFaultAs task text f → e ≡ f
same_fault task text e f a b = one_fault task.mode task.root text (slice_nodes text task.start task.len) e f a b

pub finishes_agree : (task : CheckTask) (text : List ℕ) (r s : Result (Unit {0}) CheckFault) → MatchResult r (λ _. IsAcceptedAs task text) (IsFaultAs task text)
    → MatchResult s (λ _. IsAcceptedAs task text) (IsFaultAs task text) → Agree (λ _ _. Unit {0}) r s
finishes_agree task text (Ok x) (Ok y) a b = tt
finishes_agree task text (Ok x) (Err f) a b = not_both task text f b a
finishes_agree task text (Err e) (Ok y) a b = not_both task text e a b
finishes_agree task text (Err e) (Err f) a b = same_fault task text e f a b

-- a node that one takes is no mismatch for the other
pub taken_whole : (task : CheckTask) (text : List ℕ) (at : ℕ) (wants : Option ℕ) → (IsNone wants ↔ IsAcceptedAs task text)
    → IfSome wants (λ size. (1 ≤ size) × (size ≤ 1024)) → IfSome wants (λ size. (more : List ℕ) → length more < size → IsFaultAs task (text ++ more) (Short (length text)))
    → ((more : List ℕ) → IsFaultAs task (text ++ more) (Mismatch at)) → ⊥
taken_whole task text at None done size short bad =
    not_both task text (Mismatch at) (subst (λ (xs : List ℕ). IsFaultAs task xs (Mismatch at)) (append-nil text) (bad [])) (done.0 refl)
taken_whole task text at (Some n) done size short bad =
    let same : Short (length text) ≡ Mismatch at = same_fault task (text ++ []) (Short (length text)) (Mismatch at) (short [] (omega (arith, size.0))) (bad []) in cc

-- that a check, where it took the node, wants what comes next
pub record Next (task : CheckTask) (text : List ℕ) (wants : Option ℕ) : Type 0 where
  pub done : IsNone wants ↔ IsAcceptedAs task text
  pub size : IfSome wants (λ size. (1 ≤ size) × (size ≤ 1024))
  pub short : IfSome wants (λ size. (more : List ℕ) → length more < size → IsFaultAs task (text ++ more) (Short (length text)))

only_memory : (task : CheckTask) (text : List ℕ) (wants : Option ℕ) (f : CheckFault) → Next task text wants → IsNodeFault task text f → f ≡ Memory
only_memory task text wants (Mismatch at) next bad = absurd (taken_whole task text at wants next.done next.size next.short bad)
only_memory task text wants Memory next bad = refl
only_memory task text wants (Short at) next bad = absurd bad
only_memory task text wants (Trailing at) next bad = absurd bad
only_memory task text wants Reader next bad = absurd bad

both_faults : (task : CheckTask) (text : List ℕ) (e f : CheckFault) → IsNodeFault task text e → IsNodeFault task text f → (e ≡ f) ⊎ (e ≡ Memory) ⊎ (f ≡ Memory)
both_faults task text Memory f a b = inr (inl refl)
both_faults task text e Memory a b = inr (inr refl)
both_faults task text (Mismatch i) (Mismatch j) a b = inl (same_fault task (text ++ []) (Mismatch i) (Mismatch j) (a []) (b []))
both_faults task text (Short i) f a b = absurd a
both_faults task text (Trailing i) f a b = absurd a
both_faults task text Reader f a b = absurd a
both_faults task text e (Short i) a b = absurd b
both_faults task text e (Trailing i) a b = absurd b
both_faults task text e Reader a b = absurd b

pub takes_agree : (task : CheckTask) (text : List ℕ) (x y : Checking) (v w : Option ℕ) (r s : Result (Unit {0}) CheckFault) → OnOk r (HasTakenAs x task text) → OnOk s (HasTakenAs y task text)
    → IfErr r (IsNodeFault task text) → IfErr s (IsNodeFault task text) → (HasTakenAs x task text → Next task text v) → (HasTakenAs y task text → Next task text w) → AgreeButFor Memory (λ _ _. Unit {0}) r s
takes_agree task text x y v w (Ok t) (Ok u) a b e f p q = tt
takes_agree task text x y v w (Ok t) (Err h) a b e f p q = only_memory task text v h (p a) f
takes_agree task text x y v w (Err g) (Ok u) a b e f p q = only_memory task text w g (q b) e
takes_agree task text x y v w (Err g) (Err h) a b e f p q = both_faults task text g h e f

-- two that have taken nothing have taken the same
pub none_taken : (first second : Checking) (of : CheckTask) → HasTakenAs first of [] → HasTakenAs second of []
    → (task : CheckTask) (taken : List ℕ) → HasTakenAs first task taken → HasTakenAs second task taken
none_taken first second of a b task taken h =
    let same : of ≡ task = sym a.task_is ∙ h.task_is in
    let none : [] ≡ taken = sym (nil_from_length taken (sym h.at_is ∙ a.at_is)) in
    subst (λ (s : List ℕ). HasTakenAs second task s) none (subst (λ (t : CheckTask). HasTakenAs second t []) same b)

-- after two takes with one answer
pub both_taken : (task : CheckTask) (taken node : List ℕ) (old also x y : Checking) (r s : Result (Unit {0}) CheckFault) → HasTakenAs old task taken → HasTakenAs also task taken
    → OnOk r (HasTakenAs x task (taken ++ node)) → OnOk s (HasTakenAs y task (taken ++ node)) → OnErr r (x ≡ old) → OnErr s (y ≡ also) → r ≡ s
    → (after : List ℕ) × HasTakenAs x task after × HasTakenAs y task after
both_taken task taken node old also x y (Ok t) (Ok u) h k a b e f same = (taken ++ node, a, b)
both_taken task taken node old also x y (Err t) (Err u) h k a b e f same =
    (taken, subst (λ (c : Checking). HasTakenAs c task taken) (sym e) h, subst (λ (c : Checking). HasTakenAs c task taken) (sym f) k)
both_taken task taken node old also x y (Ok t) (Err u) h k a b e f same = cc
both_taken task taken node old also x y (Err t) (Ok u) h k a b e f same = cc

-- a node that was taken, or refused, isn't short at its place
not_short : (task : CheckTask) (taken node : List ℕ) (v : Option ℕ) (r : Result (Unit {0}) CheckFault) (x : Checking) → 1 ≤ length node → length (taken ++ node) < 2 ^ 64
    → OnOk r (HasTakenAs x task (taken ++ node)) → IfErr r (IsNodeFault task (taken ++ node)) → (HasTakenAs x task (taken ++ node) → Next task (taken ++ node) v)
    → IsFaultAs task (taken ++ node) (Short (length taken)) → ⊥
not_short task taken node None (Ok t) x some few a e next short = not_both task (taken ++ node) (Short (length taken)) short ((next a).done.0 refl)
not_short task taken node (Some n) (Ok t) x some few a e next short =
    let here = next a in
    let also : IsFaultAs task (taken ++ node) (Short (length (taken ++ node))) =
    subst (λ (s : List ℕ). IsFaultAs task s (Short (length (taken ++ node)))) (append-nil (taken ++ node)) (here.short [] (omega (arith, here.size.0))) in
    let same : Short (length taken) ≡ Short (length (taken ++ node)) = same_fault task (taken ++ node) (Short (length taken)) (Short (length (taken ++ node))) short also in
    let lengths : length taken ≡ length (taken ++ node) = cc in absurd (omega (arith, lengths, length-append taken node, some))
not_short task taken node v (Err (Mismatch at)) x some few a e next short =
    let also : IsFaultAs task (taken ++ node) (Mismatch at) = subst (λ (s : List ℕ). IsFaultAs task s (Mismatch at)) (append-nil (taken ++ node)) (e []) in
    let same : Short (length taken) ≡ Mismatch at = same_fault task (taken ++ node) (Short (length taken)) (Mismatch at) short also in cc
not_short task taken node v (Err Memory) x some few a e next short = omega (arith, e, few)
not_short task taken node v (Err (Short at)) x some few a e next short = e
not_short task taken node v (Err (Trailing at)) x some few a e next short = e
not_short task taken node v (Err Reader) x some few a e next short = e

-- What a check wants that has taken the same as one that wants a node, which it took or refused.
pub no_more : (task : CheckTask) (taken node : List ℕ) (u v w : Option ℕ) (r : Result (Unit {0}) CheckFault) (x : Checking) → u ≡ Some (length node) → length (taken ++ node) < 2 ^ 64
    → Next task taken u → OnOk r (HasTakenAs x task (taken ++ node)) → IfErr r (IsNodeFault task (taken ++ node)) → (HasTakenAs x task (taken ++ node) → Next task (taken ++ node) v)
    → Next task taken w → (size : ℕ) × (w ≡ Some size) × (size ≤ length node)
no_more task taken node None v w r x is few first a e next also = cc
no_more task taken node (Some n) v None r x is few first a e next also =
    let short : IsFaultAs task taken (Short (length taken)) =
    subst (λ (s : List ℕ). IsFaultAs task s (Short (length taken))) (append-nil taken) (first.short [] (omega (arith, first.size.0))) in
    absurd (not_both task taken (Short (length taken)) short (also.done.0 refl))
no_more task taken node (Some n) v (Some size) r x is few first a e next also =
    let same : n ≡ length node = cc in
    elim (cases_lt (length node) size) [
      | inl more ↦ absurd (not_short task taken node v r x (omega (arith, first.size.0, same)) few a e next (also.short node more))
      | inr enough ↦ (size, refl, enough)
    ]
