-- What all crews did, by what each did.
use Rattle.gather.proofs.SeatCommon.{refl, subst, ◌≡◌, ℕ, suc, ◌+◌, ◌-◌, ◌^◌, ◌≤◌, true, false, IsTrue, List, [], ◌∷◌, min, arith, inl, inr, cases_Bool, sum_by-cons, All, sum_by, IsAnswered, IsHanded, IsTooLarge, large_wider, IsServed, made_of, Form, Fixed, Assembly, IsSeatOf, ◌∙◌, sym, among_onward, later_then, onward, IsKeyed, held_binds, Gripped, fixed_of}
use Rattle.gather.specs.declared.crew.Crew.{Crew}
use Rattle.std.proofs.Common.{length, length-set, get_or-set_other, get_or-set_same}
use Rattle.std.proofs.lemmas.Bool.{cases_lt}
use Rattle.std.specs.Prelude.{◌<◌, slice_index_or, slice_set}
use Rattle.gather.proofs.Forming.{later_parts}
use Rattle.holders.specs.Parts.{IsFor}
use Rattle.holders.specs.declared.grain.Grain.TheVariants.{Group as ByGroup}
use Rattle.gather.specs.Filling.{Closes, Fills, IsBusyBeside}
use Rattle.gather.proofs.InTurn.{beside_from}
use Rattle.gather.specs.Crews.{Each, IsHandedTo, Worked, WorkedOn, all_of, all_faults, faults_of}
use Rattle.gather.specs.Going.{goes}
use Rattle.gather.specs.Seats.{GoneOn, SeenBinds, fixed_of as fixed_at}

each_first : {C : Type 0} (R : C → C → Type 0) (x y : C) (xs ys : List C) → Each R (x ∷ xs) (y ∷ ys) → R x y
each_first R x y xs ys each = each.each 0 x (omega arith)

each_rest : {C : Type 0} (R : C → C → Type 0) (x y : C) (xs ys : List C) → Each R (x ∷ xs) (y ∷ ys) → Each R xs ys
each_rest R x y xs ys each = record {
  len = omega (arith, each.len);
  each = λ i d below. each.each (suc i) d (omega (arith, below));
}

-- what each of the second list has by the first's
pub all_each : {C : Type 0} (R : C → C → Type 0) {P : C → Type 0} (old new : List C) → ((x y : C) → R x y → P y) → Each R old new → All P new
all_each R old new gives each = λ k d below. gives _ _ (each.each k d (omega (arith, below, each.len)))

-- what a seat has seen binds to the blob
seat_binds : (assembly : Assembly) (seat : Gripped) → IsKeyed (fixed_of assembly).mode → IsSeatOf assembly seat → SeenBinds seat.view
seat_binds assembly seat keyed of blob is c bytes held =
    held_binds seat.view.fixed seat.view.seen blob c bytes (subst (λ (f : Fixed). IsKeyed f.mode) (sym of.knows.fixed_is) keyed) is of.knows.legal held

module _ {H : Type 0} (assembly : Assembly) (gives : H → ℕ → ℕ → List ℕ → Type 0) (count : H → ℕ) where
  pub seats_bind : (old new : List (Crew H)) → IsKeyed (fixed_of assembly).mode → Each (Worked assembly gives count) old new → All (λ (crew : Crew H). SeenBinds crew.seat.view) new
  seats_bind old new keyed each = all_each _ old new (λ x y worked. seat_binds assembly y.seat keyed worked.of) each

  -- one round of crews after another
  worked_then : (first second third : Crew H) → Worked assembly gives count first second → WorkedOn assembly gives count second third
      → Worked assembly gives count first third
  worked_then first second third begun goes_on = record {
    of = goes_on.of;
    reports = onward fixed_at GoneOn goes _ _ _ _ _ _ _ _ _ _ _ _ begun.reports goes_on.reports;
    claimed = among_onward _ _ _ begun.claimed goes_on.claimed;
    holders = later_then gives _ _ _ begun.holders goes_on.holders;
  }

  pub each_then : (first second third : List (Crew H)) → Each (Worked assembly gives count) first second → Each (WorkedOn assembly gives count) second third
      → Each (Worked assembly gives count) first third
  each_then first second third begun goes_on = record {
    len = goes_on.len ∙ begun.len;
    each = λ i d below. worked_then _ _ _ (begun.each i d below) (goes_on.each i d (omega (arith, below, begun.len)));
  }

  failed_sum : (xs ys : List (Crew H)) → Each (Worked assembly gives count) xs ys
      → sum_by (λ (crew : Crew H). crew.report.failed) ys + all_faults count xs ≤ all_faults count ys
  failed_sum [] [] each = omega arith
  failed_sum [] (y ∷ ys) each = absurd (omega (arith, each.len))
  failed_sum (x ∷ xs) [] each = absurd (omega (arith, each.len))
  failed_sum (x ∷ xs) (y ∷ ys) each =
      let one = (each_first (Worked assembly gives count) x y xs ys each).reports.failed in
      let rest = failed_sum xs ys (each_rest (Worked assembly gives count) x y xs ys each) in
      omega (arith, one, rest, sum_by-cons (λ (crew : Crew H). crew.report.failed) y ys, sum_by-cons (faults_of count) x xs, sum_by-cons (faults_of count) y ys)

  pub failed_all : (xs ys : List (Crew H)) → Each (Worked assembly gives count) xs ys → (all_of ys).failed + all_faults count xs ≤ all_faults count ys
  failed_all xs ys each = omega (arith, failed_sum xs ys each)

  answered_sum : (xs ys : List (Crew H)) → Each (Worked assembly gives count) xs ys
      → min (sum_by (λ (crew : Crew H). crew.report.refused) ys + sum_by (λ (crew : Crew H). crew.report.failed) ys) (2 ^ 64 - 1)
      ≤ sum_by (λ (crew : Crew H). crew.report.asked) ys
  answered_sum [] [] each = omega arith
  answered_sum [] (y ∷ ys) each = absurd (omega (arith, each.len))
  answered_sum (x ∷ xs) [] each = absurd (omega (arith, each.len))
  answered_sum (x ∷ xs) (y ∷ ys) each =
      let one : IsAnswered y.report = (each_first (Worked assembly gives count) x y xs ys each).reports.answered (omega arith) in
      let rest = answered_sum xs ys (each_rest (Worked assembly gives count) x y xs ys each) in
      omega (arith, one, rest, sum_by-cons (λ (crew : Crew H). crew.report.refused) y ys, sum_by-cons (λ (crew : Crew H). crew.report.failed) y ys, sum_by-cons (λ (crew : Crew H). crew.report.asked) y ys)

  pub answered_all : (xs ys : List (Crew H)) → Each (Worked assembly gives count) xs ys → IsAnswered (all_of ys)
  answered_all xs ys each = omega (arith, answered_sum xs ys each)

  -- one of them met a length above what the store has room for, in a piece that one of its holders gave
  pub large_all : (xs ys : List (Crew H)) → All (λ (crew : Crew H). IsSeatOf assembly crew.seat) xs → Each (Worked assembly gives count) xs ys
      → IsTrue (all_of ys).too_large → IsTooLarge (IsHandedTo gives xs) (fixed_of assembly)
  large_all [] [] of each large = let no : false ≡ true = large in cc
  large_all [] (y ∷ ys) of each large = absurd (omega (arith, each.len))
  large_all (x ∷ xs) [] of each large = absurd (omega (arith, each.len))
  large_all (x ∷ xs) (y ∷ ys) of each large = elim (cases_Bool y.report.too_large) [
    | inl here ↦ elim ((each_first (Worked assembly gives count) x y xs ys each).reports.too_large here) [
      | inl before ↦ let no : false ≡ true = before in cc
      | inr is ↦
          subst (λ (f : Fixed). IsTooLarge (IsHandedTo gives (x ∷ xs)) f) (of 0 x (omega arith)).knows.fixed_is
          (large_wider (IsHanded gives x.holders.items) (IsHandedTo gives (x ∷ xs)) (λ piece handed. record { number = 0; crew = x; there = refl; handed = handed }) _ is)
    ]
    | inr not_here ↦
        let rest : IsTrue (all_of ys).too_large = rw not_here at large in
        large_wider (IsHandedTo gives xs) (IsHandedTo gives (x ∷ xs)) (λ piece to. record { number = suc to.number; crew = to.crew; there = to.there; handed = to.handed }) _
        (large_all xs ys (λ k d below. of (suc k) d (omega (arith, below))) (each_rest (Worked assembly gives count) x y xs ys each) rest)
  ]

-- each of a list that one relation holds of another holds of
pub each_wider : {C : Type 0} (R Q : C → C → Type 0) (xs ys : List C) → ((x y : C) → R x y → Q x y) → Each R xs ys → Each Q xs ys
each_wider R Q xs ys wider each = record { len = each.len; each = λ i d below. wider _ _ (each.each i d below) }

-- what all crews' closing rounds come to, their two rounds do
pub all_fill : {H : Type 0} (assembly : Assembly) (form : Form) (gives : H → ℕ → ℕ → List ℕ → Type 0) (count : H → ℕ) (blob : List ℕ) (first second third : List (Crew H))
    → IsFor form (fixed_of assembly) blob → IsServed (fixed_of assembly) blob
    → Each (Worked assembly (made_of form gives) count) first second → Each (Closes assembly form gives count (IsBusyBeside second)) second third
    → Each (Fills form gives (fixed_of assembly) blob (IsBusyBeside first)) first third
all_fill assembly form gives count blob first second third is served begun closes = record {
  len = closes.len ∙ begun.len;
  each = λ i d below have.
      let F : Fixed = fixed_of assembly in
      let worked = begun.each i d below in
      elim ((closes.each i d (omega (arith, below, begun.len))).fills blob is served (later_parts form ByGroup gives F.mode blob _ _ worked.holders have)) [
        | inl failed ↦ inl failed
        | inr (inl large) ↦ inr (inl (large.0, large_wider _ (IsHanded (made_of form gives) (slice_index_or first i d).holders.items) worked.reports.no_more F large.1))
        | inr (inr (filled, full)) ↦
            inr (inr (
              record {
                recorded = filled.recorded;
                is = filled.is;
                chunks = λ long n within. elim (filled.chunks long n within) [
                  | inl held ↦ inl held
                  | inr busy ↦ inr (beside_from first second
                      (each_wider _ _ first second (λ x y w. record { names_are = w.reports.gains.names_are; claims = w.claimed }) begun) _ (slice_index_or first i d).seat (slice_index_or second i d).seat
                      (slice_index_or third i d).seat _ _ n worked.reports.gains worked.claimed busy)
                ];
              },
              full,
            ))
      ];
}

-- a round over one more of them
pub round_on : {C : Type 0} (R : C → C → Type 0) (old now : List C) (n : ℕ) (x : C) → n < length now
    → ((i : ℕ) (d : C) → i < length now → n ≤ i → slice_index_or now i d ≡ slice_index_or old i d) × ((i : ℕ) (d : C) → i < n → R (slice_index_or old i d) (slice_index_or now i d))
    → ((d : C) → R (slice_index_or now n d) x)
    → ((i : ℕ) (d : C) → i < length (slice_set now n x) → n + 1 ≤ i → slice_index_or (slice_set now n x) i d ≡ slice_index_or old i d)
    × ((i : ℕ) (d : C) → i < n + 1 → R (slice_index_or old i d) (slice_index_or (slice_set now n x) i d))
round_on R old now n x below before here = (
  λ i d there after. get_or-set_other now n i x d (λ e. omega (arith, after, e)) ∙ before.0 i d (omega (arith, there, length-set now n x)) (omega (arith, after)),
  λ i d within. elim (cases_lt i n) [
    | inl low ↦ subst (λ y. R (slice_index_or old i d) y) (sym (get_or-set_other now n i x d (λ e. omega (arith, low, e)))) (before.1 i d low)
    | inr high ↦
        let at : n ≡ i = omega (arith, within, high) in
        subst (λ (k : ℕ). R (slice_index_or old k d) (slice_index_or (slice_set now n x) k d)) at
        (subst (λ y. R y (slice_index_or (slice_set now n x) n d)) (before.0 n d below (omega arith)) (subst (λ y. R (slice_index_or now n d) y) (sym (get_or-set_same now n x d below)) (here d)))
  ],
)
