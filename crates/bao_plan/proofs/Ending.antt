-- No more requests end than there is left to do.
use Rattle.std.proofs.Common.{◌≡◌, ℕ, ◌+◌, ◌*◌, ◌/◌, ◌%◌, ◌<◌, ◌≤◌, nat_lt, Bool, true, false, not, ◌&&◌, ◌||◌, cond, List, [], ◌∷◌, refl, sym, ap, ◌∙◌, arith, inl, inr, subst}
use Rattle.std.specs.List.{count_by}
use Rattle.std.proofs.lemmas.List.Sums.{sum_by-cons}
use Rattle.std.proofs.lemmas.Bool.{and_parts, and_right, cases_Bool, eq-eqb, ltb-true, not_from_true, or_cases}
use Rattle.std.proofs.Math.Nat.{mul-le-mul_left}
use Rattle.bao_plan.specs.declared.policy.Policy.{Policy}
use Rattle.bao_plan.specs.declared.policy.Next.TheVariants.{Fetch, WaitUntil, Nothing}
use Rattle.bao_plan.specs.Events.{Event, IsRight, after_chunks, after_request, happens, is_cut, put, with_holder}
use Rattle.bao_plan.specs.Events.Event.{Added, Asked, Kept, Refused, Lacks, Has, Forgiven, Limited, Ranked, Ended}
use Rattle.bao_plan.specs.Histories.{IsHistory, is_chance, is_end, is_news, run}
use Rattle.bao_plan.specs.Sets.{has_bit, in_mask, in_range, is_some_bit}
use Rattle.bao_plan.specs.States.{HolderState, State, may_have, start}
use Rattle.bao_plan.proofs.Any.{some_bit}
use Rattle.bao_plan.proofs.Counting.{bit, count_below, count_le, count_lt, count_most, sum_below, sum_more, sum_none, sum_one}
use Rattle.bao_plan.proofs.Histories.{at_put, put_other, put_same}
use Rattle.bao_plan.proofs.Measures.{worth, worth_asked, worth_ended, worth_fewer, worth_gave, worth_lost, worth_most, worth_news}
use Rattle.bao_plan.proofs.PlanLemmas.{ready_is_wanted, wanted_is_open}
use Rattle.bao_plan.proofs.Rows.{policy_step}

-- all that is lacking or asked for is of the blob
record IsIn (s : State) : Type 0 where
  lacking : (c : ℕ) → s.is_open c ≡ true → c < s.chunks
  asked : (h c : ℕ) → (s.holder h).asked c ≡ true → c < s.chunks

-- a holder that is put asks for no more
put_in : (s : State) (k : ℕ) (x : HolderState) → IsIn s → ((c : ℕ) → x.asked c ≡ true → c < s.chunks) → (h c : ℕ) → (put s.holder k x h).asked c ≡ true → c < s.chunks
put_in s k x is within h c = at_put (λ y. y.asked c ≡ true → c < s.chunks) s.holder k x h (λ _. within c) (λ _. is.asked h c)

in_step : (s : State) (e : Event) → IsRight s e → IsIn s → IsIn (happens s e)
in_step s Added right is = record { lacking = is.lacking; asked = is.asked }
in_step s (Asked k now (Fetch first count)) right is = record {
  lacking = is.lacking;
  asked = put_in s k _ is (λ c h. elim (or_cases ((s.holder k).asked c) (in_range first count c) h) [
    | inl before ↦ is.asked k c before
    | inr here ↦ is.lacking c (wanted_is_open s k c (ready_is_wanted s k now right.1.overtakes c (right.1.ready c here)))
  ]);
}
in_step s (Limited end) right is = record { lacking = is.lacking; asked = is.asked }
in_step s (Asked k now (WaitUntil t)) right is = is
in_step s (Asked k now Nothing) right is = is
in_step s (Kept k group mask taken) right is = record { lacking = λ c h. is.lacking c (and_parts (s.is_open c) (not (in_mask group mask c)) h).0; asked = put_in s k _ is (is.asked k) }
in_step s (Refused k group mask) right is = record { lacking = is.lacking; asked = put_in s k _ is (is.asked k) }
in_step s (Lacks k group mask) right is = record { lacking = is.lacking; asked = put_in s k _ is (is.asked k) }
in_step s (Has k group mask) right is = record { lacking = is.lacking; asked = put_in s k _ is (is.asked k) }
in_step s (Forgiven k) right is = record { lacking = is.lacking; asked = put_in s k _ is (is.asked k) }
in_step s (Ranked k rank) right is = record { lacking = is.lacking; asked = put_in s k _ is (is.asked k) }
in_step s (Ended k first count outcome now failed) right is = record { lacking = is.lacking; asked = put_in s k _ is (λ c h. is.asked k c (and_parts ((s.holder k).asked c) (not (in_range first count c)) h).0) }

-- what is left to do
left : State → ℕ
left s = s.policy.faults * count_below s.chunks s.is_open + sum_below s.count (λ k. worth s.policy s.chunks s.is_open (s.holder k))

put_left : (s : State) (h : ℕ) (x : HolderState) (d e : ℕ) → h < s.count → worth s.policy s.chunks s.is_open x + d ≤ worth s.policy s.chunks s.is_open (s.holder h) + e → left (with_holder s h x) + d ≤ left s + e
unfolding left
put_left s h x d e within here =
    let f = λ (y : HolderState). worth s.policy s.chunks s.is_open y in
    let all = sum_one s.count (λ k. f (s.holder k)) (λ k. f (put s.holder h x k)) h d e within
    (λ k other. subst (λ m. m ≤ f (s.holder k)) (sym (ap f (put_other s.holder h x k other))) (omega arith))
    (subst (λ y. f y + d ≤ f (s.holder h) + e) (sym (put_same s.holder h x)) here) in
    omega (arith, all)

-- fewer chunks are lacking, and each pays for one row of failures
kept_pays : (n faults : ℕ) (lacking : ℕ → Bool) (group mask taken : ℕ) → ((c : ℕ) → lacking c ≡ true → c < n) → ((c : ℕ) → c / 64 ≡ group → has_bit taken (c % 64) ≡ (has_bit mask (c % 64) && lacking c))
    → faults * count_below n (λ c. lacking c && not (in_mask group mask c)) + cond (is_some_bit taken) faults 0 ≤ faults * count_below n lacking
kept_pays n faults lacking group mask taken within bits =
    let after = λ (c : ℕ). lacking c && not (in_mask group mask c) in
    let fewer = λ (c : ℕ) (below : c < n) (is : after c ≡ true). (and_parts (lacking c) (not (in_mask group mask c)) is).0 in
    elim (cases_Bool (is_some_bit taken)) [
      | inl some ↦ (let f = some_bit taken group (λ c. has_bit mask (c % 64) && lacking c) bits some in
          let both = and_parts (has_bit mask (f.0 % 64)) (lacking f.0) f.2 in
          let gone : after f.0 ≡ false = and_right (lacking f.0) (not (in_mask group mask f.0)) (not_from_true _ (ap (λ b. b && has_bit mask (f.0 % 64)) (eq-eqb (f.0 / 64) group f.1) ∙ both.0)) in
          let count = count_lt n after lacking f.0 (within f.0 both.1) gone both.1 fewer in
          let times = mul-le-mul_left faults count in
          subst (λ b. faults * count_below n after + cond b faults 0 ≤ faults * count_below n lacking) (sym some) (omega (arith, times)))
      | inr none ↦ (let count = count_le n after lacking fewer in
          let times = mul-le-mul_left faults count in
          subst (λ b. faults * count_below n after + cond b faults 0 ≤ faults * count_below n lacking) (sym none) (omega (arith, times)))
    ]

left_added : (s : State) → left (record s { count = s.count + 1 }) ≤ left s + (s.chunks + s.policy.faults)
unfolding left
left_added s =
    let f = λ (k : ℕ). worth s.policy s.chunks s.is_open (s.holder k) in
    let more = sum_more s.count f in
    let most = worth_most s.policy s.chunks s.is_open (s.holder s.count) in
    omega (arith, more, most)

left_kept : (s : State) (h group mask taken : ℕ) → IsIn s → h < s.count → ((c : ℕ) → c / 64 ≡ group → has_bit taken (c % 64) ≡ (has_bit mask (c % 64) && s.is_open c)) → left (happens s (Kept h group mask taken)) ≤ left s
unfolding left
left_kept s h group mask taken is within bits =
    let after = λ (c : ℕ). s.is_open c && not (in_mask group mask c) in
    let fewer = λ (c : ℕ) (still : after c ≡ true). (and_parts (s.is_open c) (not (in_mask group mask c)) still).0 in
    let f = λ (y : HolderState). worth s.policy s.chunks s.is_open y in
    let g = λ (y : HolderState). worth s.policy s.chunks after y in
    let x = after_chunks s.policy taken (s.holder h) in
    let gain = cond (is_some_bit taken) s.policy.faults 0 in
    let less = worth_fewer s.policy s.chunks s.is_open after x fewer in
    let gave = worth_gave s.policy s.chunks s.is_open (s.holder h) taken in
    let here : g x + 0 ≤ f (s.holder h) + gain = omega (arith, less, gave) in
    let all = sum_one s.count (λ k. f (s.holder k)) (λ k. g (put s.holder h x k)) h 0 gain within
    (λ k other. subst (λ m. m ≤ f (s.holder k)) (sym (ap g (put_other s.holder h x k other))) (worth_fewer s.policy s.chunks s.is_open after (s.holder k) fewer))
    (subst (λ y. g y + 0 ≤ f (s.holder h) + gain) (sym (put_same s.holder h x)) here) in
    let pays = kept_pays s.chunks s.policy.faults s.is_open group mask taken is.lacking bits in
    omega (arith, all, pays)

left_limited : (s : State) (end : ℕ) → left (record s { end = end }) ≡ left s
unfolding left
left_limited s end = refl

left_asked : (s : State) (h first count : ℕ) (since : ℕ → ℕ) (x : HolderState) → h < s.count → worth s.policy s.chunks s.is_open x + 0 ≤ worth s.policy s.chunks s.is_open (s.holder h) + 0
    → left (record s { since = since; holder = put s.holder h x }) + 0 ≤ left s + 0
unfolding left
left_asked s h first count since x within here = put_left s h x 0 0 within here

fewer_refused : (r m a : Bool) → (not (r || m) && not a) ≡ true → (not r && not a) ≡ true
fewer_refused true m a h = h
fewer_refused false true a h = absurd (let e : false ≡ true = h in cc)
fewer_refused false false a h = h

fewer_absent : (r a m : Bool) → (not r && not (a || m)) ≡ true → (not r && not a) ≡ true
fewer_absent true a m h = h
fewer_absent false true m h = h
fewer_absent false false true h = absurd (let e : false ≡ true = h in cc)
fewer_absent false false false h = h

end_bit : (b : Bool) → bit (not b) ≡ cond b 0 1
end_bit true = refl
end_bit false = refl

left_step : (s : State) (e : Event) → IsRight s e → IsIn s → left (happens s e) + bit (is_end e) ≤ left s + (bit (is_chance e) * (s.chunks + s.policy.faults) + bit (is_news e) * s.chunks)
left_step s Added right is = let most = left_added s in omega (arith, most)
left_step s (Asked k now (Fetch first count)) right is =
    let x = s.holder k in
    let y : HolderState = record x { asked = λ c. x.asked c || in_range first count c } in
    let here = worth_asked s.policy s.chunks s.is_open x y refl (λ c. refl) (λ c h. elim (or_cases (x.asked c) (in_range first count c) h) [
      | inl before ↦ inl before
      | inr fresh ↦ (let wanted = and_parts _ _ (and_parts _ _ (ready_is_wanted s k now right.1.overtakes c (right.1.ready c fresh))).0 in
          let free = and_parts (s.is_open c) (may_have x c) wanted.0 in
          inr (right.1.is_in, free.0, free.1))
    ]) in
    let all = left_asked s k first count (happens s (Asked k now (Fetch first count))).since y right.0 (omega (arith, here)) in
    omega (arith, all)
left_step s (Limited end) right is = let same = left_limited s end in omega (arith, same)
left_step s (Asked k now (WaitUntil t)) right is = omega arith
left_step s (Asked k now Nothing) right is = omega arith
left_step s (Kept k group mask taken) right is = let all = left_kept s k group mask taken is right.0 right.1.bits in omega (arith, all)
left_step s (Refused k group mask) right is =
    let x = s.holder k in
    let y : HolderState = record x { refused = λ c. x.refused c || in_mask group mask c } in
    let here = worth_lost s.policy s.chunks s.is_open x y refl (λ c. refl) (λ c. fewer_refused (x.refused c) (in_mask group mask c) (x.absent c)) in
    let all = put_left s k y 0 0 right (omega (arith, here)) in
    omega (arith, all)
left_step s (Lacks k group mask) right is =
    let x = s.holder k in
    let y : HolderState = record x { absent = λ c. x.absent c || in_mask group mask c } in
    let here = worth_lost s.policy s.chunks s.is_open x y refl (λ c. refl) (λ c. fewer_absent (x.refused c) (x.absent c) (in_mask group mask c)) in
    let all = put_left s k y 0 0 right (omega (arith, here)) in
    omega (arith, all)
left_step s (Has k group mask) right is =
    let x = s.holder k in
    let y : HolderState = record x { absent = λ c. x.absent c && not (in_mask group mask c) } in
    let here = worth_news s.policy s.chunks s.is_open x y refl in
    let all = put_left s k y 0 s.chunks right (omega (arith, here)) in
    omega (arith, all)
left_step s (Forgiven k) right is =
    let x = s.holder k in
    let y : HolderState = record x { in_row = 0 } in
    let most = worth_most s.policy s.chunks s.is_open y in
    let all = put_left s k y 0 (s.chunks + s.policy.faults) right (omega (arith, most)) in
    omega (arith, all)
left_step s (Ranked k rank) right is =
    let x = s.holder k in
    let y : HolderState = record x { rank = rank } in
    let here = worth_lost s.policy s.chunks s.is_open x y refl (λ c. refl) (λ c h. h) in
    let all = put_left s k y 0 0 right (omega (arith, here)) in
    omega (arith, all)
left_step s (Ended k first count outcome now failed) right is =
    let x = s.holder k in
    let here = worth_ended s.policy s.chunks s.is_open x first count outcome now failed right.1.0 right.1.1 (is.asked k) right.2 in
    let all = put_left s k (after_request s.policy x first count outcome now failed) (cond (is_cut outcome) 0 1) 0 right.0 (omega (arith, here)) in
    let one = end_bit (is_cut outcome) in
    omega (arith, all, one)

chunks_step : (s : State) (e : Event) → (happens s e).chunks ≡ s.chunks
chunks_step s Added = refl
chunks_step s (Asked k now (Fetch first count)) = refl
chunks_step s (Limited end) = refl
chunks_step s (Asked k now (WaitUntil t)) = refl
chunks_step s (Asked k now Nothing) = refl
chunks_step s (Kept k group mask taken) = refl
chunks_step s (Refused k group mask) = refl
chunks_step s (Lacks k group mask) = refl
chunks_step s (Has k group mask) = refl
chunks_step s (Forgiven k) = refl
chunks_step s (Ranked k rank) = refl
chunks_step s (Ended k first count outcome now failed) = refl

counted : (p : Event → Bool) (e : Event) (es : List Event) → count_by p (e ∷ es) ≡ bit (p e) + count_by p es
counted p e es = sum_by-cons (λ x. cond (p x) 1 0) e es ∙ (elim (p e) as (λ b. cond b 1 0 + count_by p es ≡ bit b + count_by p es) [ true ↦ refl | false ↦ refl ])

ends_run : (n faults : ℕ) (s : State) (es : List Event) → s.chunks ≡ n → s.policy.faults ≡ faults → IsHistory s es → IsIn s
    → count_by is_end es + left (run s es) ≤ left s + (count_by is_chance es * (n + faults) + count_by is_news es * n)
ends_run n faults s [] chunks policy history is = omega arith
ends_run n faults s (e ∷ es) chunks policy history is =
    let rest = ends_run n faults (happens s e) es (chunks_step s e ∙ chunks) (ap (λ (p : Policy). p.faults) (policy_step s e) ∙ policy) history.1 (in_step s e history.0 is) in
    let here = subst (λ f. left (happens s e) + bit (is_end e) ≤ left s + (bit (is_chance e) * (n + f) + bit (is_news e) * n)) policy
    (subst (λ m. left (happens s e) + bit (is_end e) ≤ left s + (bit (is_chance e) * (m + s.policy.faults) + bit (is_news e) * m)) chunks (left_step s e history.0 is)) in
    let ended = counted is_end e es in
    let added = counted is_chance e es in
    let news = counted is_news e es in
    let more = ap (λ m. m * (n + faults)) added in
    let new = ap (λ m. m * n) news in
    omega (arith, rest, here, ended, more, new)

measure_start : (policy : Policy) (n : ℕ) → left (start policy n) ≤ policy.faults * n
unfolding left
measure_start policy n =
    let all = mul-le-mul_left policy.faults (count_most n (λ c. nat_lt c n)) in
    let none = sum_none (λ k. worth policy n (λ c. nat_lt c n) ((start policy n).holder k)) in
    omega (arith, all, none)

start_in : (policy : Policy) (n : ℕ) → IsIn (start policy n)
start_in policy n = record { lacking = λ c h. ltb-true c n h; asked = λ h c e. absurd (let f : false ≡ true = e in cc) }

pub ends : (policy : Policy) (n : ℕ) (es : List Event) → IsHistory (start policy n) es
    → count_by is_end es ≤ policy.faults * n + (count_by is_chance es * (n + policy.faults) + count_by is_news es * n)
ends policy n es history =
    let all = ends_run n policy.faults (start policy n) es refl refl history (start_in policy n) in
    let begin = measure_start policy n in
    omega (arith, all, begin)
