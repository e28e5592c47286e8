-- Checks that take many nodes at once answer alike.
use Rattle.std.proofs.Common.{◌≡◌, ◌↔◌, ◌⊎◌, inl, inr, ℕ, ◌+◌, ◌^◌, ◌<◌, ◌≤◌, Bool, true, false, if◌then◌else◌, List, [], ◌∷◌, ◌++◌, length, take, drop, Option, None, Some, IsNone, IfSome, IfOk, IfErr, Result, Ok, Err, arith, refl, sym, ap, subst, ◌∙◌, append-nil, length-append, length-drop}
use Rattle.std.proofs.lemmas.Bool.{cases_lt}
use Rattle.std.proofs.lemmas.List.{append_assoc, append_cancel_left, length-take-le, nil_from_length, take-append-drop, take_all}
use Rattle.bao_check.specs.declared.checking.Checking.{Checking}
use Rattle.bao_check.specs.declared.checking.Decoded.{Decoded}
use Rattle.bao_check.specs.declared.fault.CheckFault.{CheckFault}
use Rattle.bao_check.specs.declared.fault.CheckFault.TheVariants.{Short, Mismatch, Trailing, Memory, Reader}
use Rattle.bao_check.specs.Checking.{HasDecodedAs, HasTakenAs, IsNodeFault, wanted}
use Rattle.bao_check.specs.Decoded.{Kind, chunk_bytes, decoded, waiting_kinds}
use Rattle.bao_check.specs.Waiting.{CheckTask, IsAcceptedAs, IsFaultAs}
use Rattle.determined_texts.specs.Agreeing.{Agree}
use Rattle.determined_texts.proofs.Fed.{not_both, same_fault}

-- what a check says that has taken these bytes
pub record Knows (task : CheckTask) (text : List ℕ) (wants : Option ℕ) : Type 0 where
  pub done : IsNone wants ↔ IsAcceptedAs task text
  pub short : IfSome wants (λ size. (more : List ℕ) → length more < size → IsFaultAs task (text ++ more) (Short (length text)))
  pub trailing : IsNone wants → (more : List ℕ) → 0 < length more → IsFaultAs task (text ++ more) (Trailing (length text))

-- The encoding has its verdict at this place of the bytes that come: it is accepted and ends there, or its first fault is there.
abbrev EndsAt : CheckTask → List ℕ → ℕ → ℕ → ℕ → Type 0
EndsAt task all had size place =
    ((place ≡ size) × IsAcceptedAs task all) ⊎ IsFaultAs task all (Short (had + place)) ⊎ IsFaultAs task all (Trailing (had + place))

same_stop : (task : CheckTask) (all : List ℕ) (had size i j : ℕ) → EndsAt task all had size i → EndsAt task all had size j → i ≡ j
same_stop task all had size i j (inl a) (inl b) = a.0 ∙ sym b.0
same_stop task all had size i j (inl a) (inr (inl b)) = absurd (not_both task all (Short (had + j)) b a.1)
same_stop task all had size i j (inl a) (inr (inr b)) = absurd (not_both task all (Trailing (had + j)) b a.1)
same_stop task all had size i j (inr (inl a)) (inl b) = absurd (not_both task all (Short (had + i)) a b.1)
same_stop task all had size i j (inr (inr a)) (inl b) = absurd (not_both task all (Trailing (had + i)) a b.1)
same_stop task all had size i j (inr (inl a)) (inr (inl b)) =
    let same : Short (had + i) ≡ Short (had + j) = same_fault task all (Short (had + i)) (Short (had + j)) a b in
    let places : had + i ≡ had + j = cc in omega (arith, places)
same_stop task all had size i j (inr (inl a)) (inr (inr b)) =
    let same : Short (had + i) ≡ Trailing (had + j) = same_fault task all (Short (had + i)) (Trailing (had + j)) a b in cc
same_stop task all had size i j (inr (inr a)) (inr (inl b)) =
    let same : Trailing (had + i) ≡ Short (had + j) = same_fault task all (Trailing (had + i)) (Short (had + j)) a b in cc
same_stop task all had size i j (inr (inr a)) (inr (inr b)) =
    let same : Trailing (had + i) ≡ Trailing (had + j) = same_fault task all (Trailing (had + i)) (Trailing (had + j)) a b in
    let places : had + i ≡ had + j = cc in omega (arith, places)

no_mismatch : (task : CheckTask) (all : List ℕ) (had size i at : ℕ) → EndsAt task all had size i → IsFaultAs task all (Mismatch at) → ⊥
no_mismatch task all had size i at (inl a) b = not_both task all (Mismatch at) b a.1
no_mismatch task all had size i at (inr (inl a)) b =
    let same : Short (had + i) ≡ Mismatch at = same_fault task all (Short (had + i)) (Mismatch at) a b in cc
no_mismatch task all had size i at (inr (inr a)) b =
    let same : Trailing (had + i) ≡ Mismatch at = same_fault task all (Trailing (had + i)) (Mismatch at) a b in cc

-- the verdict is where the check stopped
ends_at : (task : CheckTask) (taken bytes : List ℕ) (place : ℕ) (wants : Option ℕ) → place ≤ length bytes → IfSome wants (λ size. length bytes < place + size)
    → Knows task (taken ++ take place bytes) wants → EndsAt task (taken ++ bytes) (length taken) (length bytes) place
ends_at task taken bytes place None within most knows =
    let text : List ℕ = taken ++ take place bytes in
    let size : length text ≡ length taken + place = length-append taken (take place bytes) ∙ ap (λ (n : ℕ). length taken + n) (length-take-le place bytes within) in
    let all : text ++ drop place bytes ≡ taken ++ bytes =
    append_assoc taken (take place bytes) (drop place bytes) ∙ ap (λ (s : List ℕ). taken ++ s) (take-append-drop place bytes) in
    elim (cases_lt place (length bytes)) [
      | inl some ↦ inr (inr (subst (λ (n : ℕ). IsFaultAs task (taken ++ bytes) (Trailing n)) size
          (subst (λ (s : List ℕ). IsFaultAs task s (Trailing (length text))) all (knows.trailing refl (drop place bytes) (omega (arith, some, length-drop place bytes))))))
      | inr whole ↦ inl (omega (arith, whole, within), subst (IsAcceptedAs task) (ap (λ (s : List ℕ). taken ++ s) (take_all place bytes whole)) (knows.done.0 refl))
    ]
ends_at task taken bytes place (Some n) within most knows =
    let text : List ℕ = taken ++ take place bytes in
    let size : length text ≡ length taken + place = length-append taken (take place bytes) ∙ ap (λ (n : ℕ). length taken + n) (length-take-le place bytes within) in
    let all : text ++ drop place bytes ≡ taken ++ bytes =
    append_assoc taken (take place bytes) (drop place bytes) ∙ ap (λ (s : List ℕ). taken ++ s) (take-append-drop place bytes) in
    inr (inl (subst (λ (n : ℕ). IsFaultAs task (taken ++ bytes) (Short n)) size
    (subst (λ (s : List ℕ). IsFaultAs task s (Short (length text))) all (knows.short (drop place bytes) (omega (arith, most, within, length-drop place bytes))))))

mismatch_of : (task : CheckTask) (text : List ℕ) (f : CheckFault) → length text < 2 ^ 64 → IsNodeFault task text f → (at : ℕ) × (f ≡ Mismatch at) × IsFaultAs task text (Mismatch at)
mismatch_of task text (Mismatch at) few a = (at, refl, subst (λ (s : List ℕ). IsFaultAs task s (Mismatch at)) (append-nil text) (a []))
mismatch_of task text Memory few a = absurd (omega (arith, a, few))
mismatch_of task text (Short at) few a = absurd a
mismatch_of task text (Trailing at) few a = absurd a
mismatch_of task text Reader few a = absurd a

-- What the contract says of one that has taken bytes at once, and says then what it wants.
pub record Took (task : CheckTask) (taken blob bytes room : List ℕ) (check : Checking) (wants : Option ℕ) (answer : Result Decoded CheckFault) : Type 0 where
  pub large : length bytes ≤ length room
  pub bound : IfOk answer (λ it. (it.taken ≤ length bytes) × (it.filled ≤ it.taken))
  pub parts : IfOk answer (λ it. HasDecodedAs check task (taken ++ take it.taken bytes) (blob ++ take it.filled room))
  pub value : wants ≡ wanted check
  pub most : IfOk answer (λ it. IfSome (wanted check) (λ size. length bytes < it.taken + size))
  pub fault : IfErr answer (IsNodeFault task (taken ++ bytes))
  pub knows : (text : List ℕ) → HasTakenAs check task text → Knows task text wants

place_of : (task : CheckTask) (taken blob bytes room : List ℕ) (check : Checking) (wants : Option ℕ) (it : Decoded) → Took task taken blob bytes room check wants (Ok it)
    → EndsAt task (taken ++ bytes) (length taken) (length bytes) it.taken
place_of task taken blob bytes room check wants it a =
    ends_at task taken bytes it.taken wants a.bound.0 (subst (λ (w : Option ℕ). IfSome w (λ size. length bytes < it.taken + size)) (sym a.value) a.most)
    (a.knows (taken ++ take it.taken bytes) a.parts.has_taken)

-- so two that have taken the same stop at one place, or at one fault
module _ (task : CheckTask) (taken blob bytes xs ys : List ℕ) (x y : Checking) (v w : Option ℕ) (few : length (taken ++ bytes) < 2 ^ 64) where
  stops_agree : (r s : Result Decoded CheckFault) → Took task taken blob bytes xs x v r → Took task taken blob bytes ys y w s → Agree (λ a b. a.taken ≡ b.taken) r s
  stops_agree (Ok i) (Ok j) a b =
      same_stop task (taken ++ bytes) (length taken) (length bytes) i.taken j.taken (place_of task taken blob bytes xs x v i a) (place_of task taken blob bytes ys y w j b)
  stops_agree (Ok i) (Err f) a b =
      let bad = mismatch_of task (taken ++ bytes) f few b.fault in
      no_mismatch task (taken ++ bytes) (length taken) (length bytes) i.taken bad.0 (place_of task taken blob bytes xs x v i a) bad.2
  stops_agree (Err e) (Ok j) a b =
      let bad = mismatch_of task (taken ++ bytes) e few a.fault in
      no_mismatch task (taken ++ bytes) (length taken) (length bytes) j.taken bad.0 (place_of task taken blob bytes ys y w j b) bad.2
  stops_agree (Err e) (Err f) a b =
      let one = mismatch_of task (taken ++ bytes) e few a.fault in
      let other = mismatch_of task (taken ++ bytes) f few b.fault in
      one.1 ∙ same_fault task (taken ++ bytes) (Mismatch one.0) (Mismatch other.0) one.2 other.2 ∙ sym other.1

-- no bytes have any of chunks
part_of_none : (b : Bool) (n : ℕ) (bytes : List ℕ) → length bytes ≡ 0 → (if b then take n bytes else []) ≡ []
part_of_none true n bytes none = take_all n bytes (omega (arith, none)) ∙ nil_from_length bytes none
part_of_none false n bytes none = refl

chunk_bytes-none : (kinds : List Kind) (bytes : List ℕ) → length bytes ≡ 0 → chunk_bytes kinds bytes ≡ []
chunk_bytes-none [] bytes none = refl
chunk_bytes-none (node ∷ later) bytes none =
    let rest : chunk_bytes later (drop node.1 bytes) ≡ [] = chunk_bytes-none later (drop node.1 bytes) (omega (arith, length-drop node.1 bytes, none)) in
    λ i. part_of_none node.0 node.1 bytes none i ++ rest i

all_decoded : (task : CheckTask) (text part : List ℕ) (x : Checking) → HasDecodedAs x task text part → 0 < x.at → decoded (text ++ []) task.start task.len ≡ part
all_decoded task text part x a some =
    a.decodes some [] ∙ ap (λ (s : List ℕ). part ++ s) (chunk_bytes-none (waiting_kinds x.choice x.waiting.items) [] refl) ∙ append-nil part

-- what is known of the blob is told by what was taken
one_blob : (task : CheckTask) (text part also : List ℕ) (x y : Checking) → HasDecodedAs x task text part → HasDecodedAs y task text also → part ≡ also
one_blob task text part also x y a b = elim (cases_lt 0 x.at) [
  | inl some ↦ sym (all_decoded task text part x a some) ∙ all_decoded task text also y b (omega (arith, some, a.has_taken.at_is, b.has_taken.at_is))
  | inr none ↦ a.begins (omega (arith, none)) ∙ sym (b.begins (omega (arith, none, a.has_taken.at_is, b.has_taken.at_is)))
]

one_part : (task : CheckTask) (taken blob bytes : List ℕ) (i j : ℕ) (part also : List ℕ) (x y : Checking) → i ≡ j → HasDecodedAs x task (taken ++ take i bytes) (blob ++ part)
    → HasDecodedAs y task (taken ++ take j bytes) (blob ++ also) → part ≡ also
one_part task taken blob bytes i j part also x y same a b =
    append_cancel_left blob part also
    (one_blob task (taken ++ take i bytes) (blob ++ part) (blob ++ also) x y a (subst (λ (n : ℕ). HasDecodedAs y task (taken ++ take n bytes) (blob ++ also)) (sym same) b))

same_decoded : (i j : Decoded) → i.taken ≡ j.taken → i.filled ≡ j.filled → i ≡ j
same_decoded i j taken filled = λ k. record { taken = taken k; filled = filled k }

fill_is : (it : Decoded) (bytes room : List ℕ) → length bytes ≤ length room → (it.taken ≤ length bytes) × (it.filled ≤ it.taken) → length (take it.filled room) ≡ it.filled
fill_is it bytes room large bound = length-take-le it.filled room (omega (arith, large, bound.0, bound.1))

module _ (task : CheckTask) (taken blob bytes xs ys : List ℕ) (x y : Checking) (v w : Option ℕ) where
  -- where they stop alike they have found the same
  parts_agree : (i j : Decoded) → Took task taken blob bytes xs x v (Ok i) → Took task taken blob bytes ys y w (Ok j) → i.taken ≡ j.taken
      → (take i.filled xs ≡ take j.filled ys) × (i.filled ≡ j.filled)
  parts_agree i j a b same =
      let part : take i.filled xs ≡ take j.filled ys = one_part task taken blob bytes i.taken j.taken (take i.filled xs) (take j.filled ys) x y same a.parts b.parts in
      (part, sym (fill_is i bytes xs a.large a.bound) ∙ ap length part ∙ fill_is j bytes ys b.large b.bound)

  both_agree : (r s : Result Decoded CheckFault) → Took task taken blob bytes xs x v r → Took task taken blob bytes ys y w s → Agree (λ a b. a.taken ≡ b.taken) r s
      → (r ≡ s) × IfOk r (λ it. take it.filled xs ≡ take it.filled ys)
  both_agree (Ok i) (Ok j) a b same =
      let found = parts_agree i j a b same in
      let one : i ≡ j = same_decoded i j same found.1 in ((λ k. Ok (one k)), found.0 ∙ ap (λ (n : ℕ). take n ys) (sym found.1))
  both_agree (Ok i) (Err f) a b same = absurd same
  both_agree (Err e) (Ok j) a b same = absurd same
  both_agree (Err e) (Err f) a b same = ((λ k. Err (same k)), tt)

  pub decodes_agree : (r s : Result Decoded CheckFault) → length (taken ++ bytes) < 2 ^ 64 → Took task taken blob bytes xs x v r → Took task taken blob bytes ys y w s
      → (r ≡ s) × IfOk r (λ it. take it.filled xs ≡ take it.filled ys)
  decodes_agree r s few a b = both_agree r s a b (stops_agree task taken blob bytes xs ys x y v w few r s a b)
