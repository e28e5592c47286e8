-- The masks of a history's Commits add up to the chunks held.
use Rattle.std.proofs.lemmas.Grind.{common_steps}
use Rattle.std.proofs.lemmas.Bool.Decides.{nat_tests}
use Rattle.std.proofs.Common.{◌≡◌, ℕ, zero, suc, ◌+◌, ◌*◌, ◌/◌, ◌%◌, ◌^◌, ◌<◌, ◌≤◌, ◌==◌, Bool, true, false, ◌&&◌, List, [], ◌∷◌, count_ones, sum_by, refl, sym, ap, ◌∙◌, arith, eq-eqb}
use Rattle.std.proofs.lemmas.Bool.{false_from_ne_true, ne_eqb}
use Rattle.std.proofs.lemmas.List.Sums.{sum_by-cons}
use Rattle.std.proofs.lemmas.Nat.Bits.{bit_at-lt, bit_at-suc, bit_at_lowest}
use Rattle.std.specs.Int.{bit_at}
use lib.Count.{ones, ones_step}
use native.Mathlib.Nat.{pow-suc}
use Rattle.holders.specs.declared.fixed.Fixed.{Fixed}
use Rattle.store_core.specs.declared.history.Call.{Call}
use Rattle.store_core.specs.declared.history.Call.TheVariants.{Commit}
use Rattle.store_core.specs.declared.history.Event.{Event}
use Rattle.store_core.specs.Events.{IsRightReply, after, after_call}
use Rattle.store_core.specs.Histories.{AreLegalFrom, run}
use Rattle.store_core.specs.Laws.{CommittedAddUp, IsSound, chunks_of}
use Rattle.store_core.specs.Masks.{has_bit, in_mask}
use Rattle.store_core.specs.Names.{Name}
use Rattle.store_core.specs.States.{State, empty, held_count, is_held}
use Rattle.store_core.proofs.Lasting.{committed-claimed, sound_call, sound_empty}
use Rattle.store_core.proofs.Origins.{counted_commit, one_if}
use Rattle.store_core.proofs.Tells.{claims-claimed}

-- how many of the first n numbers pass a test
abbrev counted : (ℕ → Bool) → ℕ → ℕ
counted test zero = 0
counted test (suc n) = counted test n + one_if (test n)

counted_cat : (test : ℕ → Bool) (a k : ℕ) → counted test (a + k) ≡ counted test a + counted (λ j. test (a + j)) k
counted_cat test a zero = let e : a + 0 ≡ a = omega arith in ap (λ (n : ℕ). counted test n) e ∙ omega arith
counted_cat test a (suc k) =
    let e : a + suc k ≡ suc (a + k) = omega arith in
    ap (λ (n : ℕ). counted test n) e ∙ omega (arith, counted_cat test a k)

counted_same : (test other : ℕ → Bool) (n : ℕ) → ((j : ℕ) → j < n → test j ≡ other j) → counted test n ≡ counted other n
counted_same test other zero same = refl
counted_same test other (suc n) same = grind (arith, nat_tests, one_if, counted_same test other n)

counted_none : (n : ℕ) → counted (λ j. false) n ≡ 0
counted_none zero = refl
counted_none (suc n) = omega (arith, counted_none n)

-- numbers that fail the test add nothing
counted_past : (test : ℕ → Bool) (a k : ℕ) → ((c : ℕ) → a ≤ c → test c ≡ false) → counted test (a + k) ≡ counted test a
counted_past test a k fails =
    let none : counted (λ j. test (a + j)) k ≡ 0 = counted_same (λ j. test (a + j)) (λ j. false) k (λ j low. fails (a + j) (omega arith)) ∙ counted_none k in
    omega (arith, counted_cat test a k, none)

-- a digit that is counted
one_digit : (x : ℕ) → x < 2 → one_if (x == 1) ≡ x
one_digit x low = grind (arith, nat_tests)

lowest_bit : (mask : ℕ) → one_if (has_bit mask 0) ≡ mask % 2
unfolding has_bit
lowest_bit mask = one_digit (bit_at mask 0) (bit_at-lt mask 0) ∙ bit_at_lowest mask

next_bit : (mask j : ℕ) → has_bit mask (1 + j) ≡ has_bit (mask / 2) j
unfolding has_bit
next_bit mask j =
    let e : 1 + j ≡ suc j = omega arith in
    ap (λ (i : ℕ). bit_at mask i == 1) e ∙ ap (λ (x : ℕ). x == 1) (bit_at-suc mask j)

no_ones : count_ones 0 ≡ 0
unfolding ones
no_ones = refl

-- the set bits of a mask
bits_counted : (k mask : ℕ) → mask < 2 ^ k → counted (λ j. has_bit mask j) k ≡ count_ones mask
bits_counted zero mask small = grind (arith, nat_tests, no_ones)
bits_counted (suc k) mask small =
    let e : suc k ≡ 1 + k = omega arith in
    let half : mask / 2 < 2 ^ k = omega (arith, small, pow-suc 2 k) in
    let rest : counted (λ j. has_bit mask (1 + j)) k ≡ counted (λ j. has_bit (mask / 2) j) k =
    counted_same (λ j. has_bit mask (1 + j)) (λ j. has_bit (mask / 2) j) k (λ j low. next_bit mask j) in
    ap (λ (n : ℕ). counted (λ j. has_bit mask j) n) e
    ∙ omega (arith, counted_cat (λ j. has_bit mask j) 1 k, lowest_bit mask, rest, bits_counted k (mask / 2) half, ones_step mask)

-- a group's chunks are those of its mask, all below the capacity
mask_counted : (group mask capacity : ℕ) → mask < 2 ^ 64 → ((c : ℕ) → in_mask group mask c ≡ true → c < capacity)
    → counted (in_mask group mask) capacity ≡ count_ones mask
mask_counted group mask capacity small low =
    let end : ℕ = 64 * group + 64 in
    let swap : capacity + end ≡ end + capacity = omega arith in
    let above : counted (in_mask group mask) (capacity + end) ≡ counted (in_mask group mask) capacity =
    counted_past (in_mask group mask) capacity end (λ c past. false_from_ne_true _ (λ hit. omega (arith, past, low c hit))) in
    let after_it : counted (in_mask group mask) (end + capacity) ≡ counted (in_mask group mask) end =
    counted_past (in_mask group mask) end capacity (λ c past. ap (λ (b : Bool). b && has_bit mask (c % 64)) (ne_eqb (c / 64) group (λ e. omega (arith, past, e)))) in
    let before_it : counted (in_mask group mask) (64 * group) ≡ 0 =
    counted_same (in_mask group mask) (λ j. false) (64 * group)
    (λ c under. ap (λ (b : Bool). b && has_bit mask (c % 64)) (ne_eqb (c / 64) group (λ e. omega (arith, under, e)))) ∙ counted_none (64 * group) in
    let its : counted (λ j. in_mask group mask (64 * group + j)) 64 ≡ counted (λ j. has_bit mask j) 64 =
    counted_same (λ j. in_mask group mask (64 * group + j)) (λ j. has_bit mask j) 64 (λ j under.
    let place : (64 * group + j) / 64 ≡ group = omega (arith, under) in
    let bit : (64 * group + j) % 64 ≡ j = omega (arith, under) in
    ap (λ (b : Bool). b && has_bit mask ((64 * group + j) % 64)) (eq-eqb ((64 * group + j) / 64) group place) ∙ ap (λ (i : ℕ). has_bit mask i) bit) in
    sym above ∙ ap (λ (n : ℕ). counted (in_mask group mask) n) swap ∙ after_it
    ∙ omega (arith, counted_cat (in_mask group mask) (64 * group) 64, before_it, its, bits_counted 64 mask small)

-- chunks that become held are counted once
held_more : (s later : State) (test : ℕ → Bool) (n : ℕ) → ((c : ℕ) → one_if (test c) + one_if (is_held s c) ≡ one_if (is_held later c))
    → counted test n + held_count s n ≡ held_count later n
held_more s later test zero each = refl
held_more s later test (suc n) each = omega (arith, each n, held_more s later test n each)

held_same : (s later : State) (n : ℕ) → ((c : ℕ) → is_held s c ≡ is_held later c) → 0 + held_count s n ≡ held_count later n
held_same s later zero same = refl
held_same s later (suc n) same = grind (arith, nat_tests, one_if, held_same s later n same)

held_nothing : (n : ℕ) → held_count empty n ≡ 0
held_nothing zero = refl
held_nothing (suc n) = omega (arith, held_nothing n)

call_adds : (fixed : Fixed) (s : State) (who : List Name) (call : Call) → IsSound fixed s → IsRightReply fixed s who call
    → chunks_of call + held_count s fixed.capacity ≡ held_count (after_call who call s) fixed.capacity
call_adds fixed s who (Commit group piece mask) sound right =
    let ones : counted (in_mask group mask) fixed.capacity ≡ count_ones mask =
    mask_counted group mask fixed.capacity right.1.small
    (λ c hit. sound.claimed_below c (claims-claimed who s c (committed-claimed fixed s who group piece mask c right hit))) in
    let more : counted (in_mask group mask) fixed.capacity + held_count s fixed.capacity ≡ held_count (after_call who (Commit group piece mask) s) fixed.capacity =
    held_more s (after_call who (Commit group piece mask) s) (in_mask group mask) fixed.capacity (λ c. counted_commit fixed s who group piece mask c sound right) in
    omega (arith, ones, more)
call_adds fixed s who call sound right = held_same s (after_call who call s) fixed.capacity (λ c. refl)

events_add : (fixed : Fixed) (s : State) (events : List Event) → IsSound fixed s → AreLegalFrom fixed s events
    → sum_by (λ e. chunks_of e.call) events + held_count s fixed.capacity ≡ held_count (run s events) fixed.capacity
events_add fixed s [] sound legal = omega arith
events_add fixed s (e ∷ events) sound legal = grind (arith, common_steps, nat_tests, sound_call, call_adds, sum_by-cons, events_add fixed (after s e) events)

pub committed_add_up : CommittedAddUp
committed_add_up fixed history legal = grind (arith, nat_tests, events_add, sound_empty, held_nothing)
