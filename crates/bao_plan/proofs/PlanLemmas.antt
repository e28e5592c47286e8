-- States of plans that are the same part by part, and a list of holders of which one is changed.
use Rattle.std.proofs.Common.{◌≡◌, ℕ, zero, suc, ◌+◌, ◌/◌, ◌<◌, ◌==◌, List, [], ◌∷◌, ◌++◌, length, slice_set, slice_get, slice_index_or, slice_index, None, Some, refl, sym, ap, ◌∙◌, arith, subst, ◌-◌, ◌≤◌, cond, Bool, true, false, inl, inr, get_or-set_same, get_or-set_other}
use Rattle.std.proofs.lemmas.Bool.Decides.{nat_tests}
use Rattle.std.proofs.lemmas.Option.{slice_get_cases, slice_get_past, slice_get_read}
use Rattle.std.proofs.lemmas.Bool.{and_parts, cases_eq, eq-eqb, ne_eqb}
use Rattle.std.specs.List.{All}
use Rattle.bao_plan.specs.declared.holder.Holder.{Holder}
use Rattle.bao_plan.specs.declared.policy.Next.{Next}
use Rattle.bao_plan.specs.declared.policy.Next.TheVariants.{Fetch, WaitUntil, Nothing}
use Rattle.bao_plan.specs.Events.{Did, IfFetch, IsWhole, after_asking, put}
use Rattle.bao_plan.specs.Events.Event.{Asked}
use Rattle.bao_plan.specs.Sets.{contains, in_range}
use Rattle.bao_plan.specs.Holders.{IsAskedBelow, seen, seen_at, seen_or}
use Rattle.bao_plan.specs.States.{HolderState, State, is_left_out, is_ready, is_wanted, unknown}

pub state_is : (s t : State) → s.policy ≡ t.policy → s.chunks ≡ t.chunks → s.end ≡ t.end → ((c : ℕ) → s.is_open c ≡ t.is_open c) → ((g : ℕ) → s.since g ≡ t.since g) → s.count ≡ t.count → ((k : ℕ) → s.holder k ≡ t.holder k) → s ≡ t
state_is s t p q z o e n h = λ i. record { policy = p i; chunks = q i; end = z i; is_open = λ c. o c i; since = λ g. e g i; count = n i; holder = λ k. h k i }

-- the same of a holder
pub holder_is : (x y : HolderState) → ((c : ℕ) → x.refused c ≡ y.refused c) → ((c : ℕ) → x.absent c ≡ y.absent c) → ((c : ℕ) → x.asked c ≡ y.asked c) → x.in_row ≡ y.in_row → x.later ≡ y.later → x.rank ≡ y.rank → x ≡ y
holder_is x y r a u n l o = λ i. record { refused = λ c. r c i; absent = λ c. a c i; asked = λ c. u c i; in_row = n i; later = l i; rank = o i }

get_set_same : {X : Type 0} → (xs : List X) (i : ℕ) (x : X) → i < length xs → slice_get (slice_set xs i x) i ≡ Some x
get_set_same [] i x within = absurd (omega arith)
get_set_same (y ∷ xs) zero x within = refl
get_set_same (y ∷ xs) (suc i) x within = get_set_same xs i x (omega arith)

get_set_other : {X : Type 0} → (xs : List X) (i k : ℕ) (x : X) → (k ≡ i → ⊥) → slice_get (slice_set xs i x) k ≡ slice_get xs k
get_set_other [] i k x other = refl
get_set_other (y ∷ xs) zero zero x other = absurd (other refl)
get_set_other (y ∷ xs) zero (suc k) x other = refl
get_set_other (y ∷ xs) (suc i) zero x other = refl
get_set_other (y ∷ xs) (suc i) (suc k) x other = get_set_other xs i k x (λ e. other (ap suc e))

pub seen_at_read : (hs : List Holder) (h : ℕ) (x : Holder) → slice_get hs h ≡ Some x → seen_at hs h ≡ seen x
seen_at_read hs h x is = ap seen_or is

-- one holder is changed
pub seen_put : (hs : List Holder) (h : ℕ) (x : Holder) (y : HolderState) → h < length hs → seen x ≡ y → (k : ℕ) → seen_at (slice_set hs h x) k ≡ put (seen_at hs) h y k
seen_put hs h x y within is k =
    elim (cases_eq k h) [
      | inl e ↦ ap (λ n. seen_at (slice_set hs h x) n) e ∙ (ap seen_or (get_set_same hs h x within) ∙ (is ∙ sym (ap (λ b. cond b y (seen_at hs k)) (eq-eqb k h e))))
      | inr ne ↦ ap seen_or (get_set_other hs h k x ne) ∙ sym (ap (λ b. cond b y (seen_at hs k)) (ne_eqb k h ne))
    ]

-- what was read at an index
pub read_at : (hs : List Holder) (h : ℕ) (x : Holder) → h < length hs → x ≡ slice_index_or hs h x → seen_at hs h ≡ seen x
read_at hs h x within is = ap seen_or (slice_get_read hs (length hs) h x refl within is)

-- one holder of a plan is changed by f
pub changed : (hs : List Holder) (h : ℕ) (x y : Holder) (f : HolderState → HolderState) → h < length hs → x ≡ slice_index_or hs h x → seen y ≡ f (seen x) → (k : ℕ) → seen_at (slice_set hs h y) k ≡ put (seen_at hs) h (f (seen_at hs h)) k
changed hs h x y f within is by = seen_put hs h y (f (seen_at hs h)) within (by ∙ ap f (sym (read_at hs h x within is)))

-- or seems as it was
pub unchanged : (hs : List Holder) (h : ℕ) (x y : Holder) → h < length hs → x ≡ slice_index_or hs h x → seen y ≡ seen x → (k : ℕ) → seen_at (slice_set hs h y) k ≡ seen_at hs k
unchanged hs h x y within is same k = seen_put hs h y (seen_at hs h) within (same ∙ sym (read_at hs h x within is)) k ∙ (elim (cases_eq k h) [
  | inl e ↦ ap (λ b. cond b (seen_at hs h) (seen_at hs k)) (eq-eqb k h e) ∙ sym (ap (seen_at hs) e)
  | inr ne ↦ ap (λ b. cond b (seen_at hs h) (seen_at hs k)) (ne_eqb k h ne)
])

-- a time is set
pub timed : (ts : List ℕ) (u now v : ℕ) → u < length ts → slice_index (slice_set ts u now) v ≡ cond (v == u) now (slice_index ts v)
timed ts u now v within = elim (cases_eq v u) [
  | inl e ↦ ap (slice_index (slice_set ts u now)) e ∙ (get_or-set_same ts u now 0 within ∙ sym (ap (λ b. cond b now (slice_index ts v)) (eq-eqb v u e)))
  | inr ne ↦ get_or-set_other ts u v now 0 ne ∙ sym (ap (λ b. cond b now (slice_index ts v)) (ne_eqb v u ne))
]

same_suc : (m n : ℕ) → (m == n) ≡ (suc m == suc n)
same_suc m n = grind (arith, nat_tests)

get_append : {X : Type 0} → (xs : List X) (x : X) (k : ℕ) → slice_get (xs ++ x ∷ []) k ≡ cond (k == length xs) (Some x) (slice_get xs k)
get_append [] x zero = refl
get_append [] x (suc k) = sym (ap (λ b. cond b (Some x) None) (ne_eqb (suc k) 0 (λ e. omega arith)))
get_append (y ∷ xs) x zero = sym (ap (λ b. cond b (Some x) (Some y)) (ne_eqb 0 (suc (length xs)) (λ e. omega arith)))
get_append (y ∷ xs) x (suc k) = get_append xs x k ∙ ap (λ b. cond b (Some x) (slice_get xs k)) (same_suc k (length xs))

-- one is added, of which nothing is known
pub added : (hs : List Holder) (x : Holder) → seen x ≡ unknown → (k : ℕ) → seen_at (hs ++ x ∷ []) k ≡ seen_at hs k
added hs x is k = ap seen_or (get_append hs x k) ∙ (elim (cases_eq k (length hs)) [
  | inl e ↦ ap (λ b. seen_or (cond b (Some x) (slice_get hs k))) (eq-eqb k (length hs) e) ∙ (is ∙ sym (ap seen_or (slice_get_past hs k (omega arith))))
  | inr other ↦ ap (λ b. seen_or (cond b (Some x) (slice_get hs k))) (ne_eqb k (length hs) other)
])

-- a chunk that is ready is lacking
pub wanted_is_open : (s : State) (h c : ℕ) → is_wanted s h c ≡ true → s.is_open c ≡ true
wanted_is_open s h c is = (and_parts _ _ (and_parts _ _ (and_parts _ _ is).0).0).0

pub ready_is_wanted : (s : State) (h now : ℕ) (o : Bool) (c : ℕ) → is_ready s h now o c ≡ true → is_wanted s h c ≡ true
ready_is_wanted s h now o c is = (and_parts _ _ (and_parts _ _ is).0).0

pub ready_is_open : (s : State) (h now : ℕ) (o : Bool) (c : ℕ) → is_ready s h now o c ≡ true → s.is_open c ≡ true
ready_is_open s h now o c is = wanted_is_open s h c (ready_is_wanted s h now o c is)

pub last_in : (first count : ℕ) → 0 < count → in_range first count (first + count - 1) ≡ true
last_in first count some = grind (arith, nat_tests)

pub range_below : (first count end : ℕ) (p : ℕ → Bool) → 0 < count → ((c : ℕ) → p c ≡ true → c < end) → ((c : ℕ) → in_range first count c ≡ true → p c ≡ true) → first + count ≤ end
range_below first count end p some below all = omega (arith, below (first + count - 1) (all (first + count - 1) (last_in first count some)))

-- a request under way lies within the blob
pub asked_within : (end : ℕ) (hs : List Holder) (h first count : ℕ) → h < length hs → All (IsAskedBelow end) hs → 0 < count → ((c : ℕ) → in_range first count c ≡ true → (seen_at hs h).asked c ≡ true) → first + count ≤ end
asked_within end hs h first count within all some asked = elim ((slice_get_cases hs h).1) [
  | inl there ↦ (let room = subst (IsAskedBelow end) there.3 (all h there.0 within) in
      let is = seen_at_read hs h there.0 there.2 in
      range_below first count end (λ c. contains there.0.asked.runs.items c) some room.below (λ c here. sym (ap (λ (y : HolderState). y.asked c) is) ∙ asked c here))
  | inr past ↦ absurd (omega arith)
]

-- a request that is right
pub did_fetch : (s t : State) (h now : ℕ) (o : Bool) (answer : Next) → h < s.count → is_left_out s.policy (s.holder h) ≡ false → (s.holder h).later ≤ now → (o ≡ true → (c : ℕ) → is_ready s h now false c ≡ false)
    → IfFetch answer (λ first count. (0 < count) × (count ≤ 1024) × ((first + count - 1) / 1024 ≡ first / 1024) × IsWhole s h now o first count × ((c : ℕ) → in_range first count c ≡ true → is_ready s h now o c ≡ true) × (t ≡ after_asking s h now answer))
    → Did s t (Asked h now answer)
did_fetch s t h now o (Fetch first count) within is_in later only is =
    record { right = (within, record { some = is.0; most = is.1; within = is.2; is_in = is_in; later = later; overtakes = o; whole = is.3; ready = is.4; only_then = only }); after = is.5 }
did_fetch s t h now o (WaitUntil until) within is_in later only is = absurd is
did_fetch s t h now o Nothing within is_in later only is = absurd is
