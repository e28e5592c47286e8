-- Names of splits, of merged sets, and in common.
use Rattle.std.proofs.lemmas.Bool.Decides.{nat_tests}
use Rattle.std.proofs.Common.{◌≡◌, ◌⊎◌, ℕ, ◌<◌, ◌+◌, false, true, List, [], ◌∷◌, ◌++◌, length, Contains, refl, sym, ap, subst, arith, inl, inr, length-append}
use Rattle.std.proofs.lemmas.Bool.{both_ways, cases_Bool, false_from_ne_true, or_cases, or_left, or_right}
use Rattle.bao_check.proofs.Lists.{Contains-cons_cases, Contains-head, Contains-tail}
use Rattle.store_core.specs.declared.view.Named.{Named}
use Rattle.store_core.specs.Names.{Name, has_name, name_le, same_name, share_name}
use Rattle.store_core.specs.Orders.{AreInOrder}
use Rattle.store_core.specs.Views.{merge_names, new_names, put_name, raise_least}
use Rattle.store_core.proofs.Joining.{plain}
use Rattle.store_core.proofs.Ordering.{before_has}
use Rattle.store_core.proofs.Tells.{same_name-refl, same_name-true}

-- the entry that splits, and what it leaves
abbrev pub first_entry : List Named → Named
first_entry [] = record { name = []; splits = 0 }
first_entry (named ∷ names) = named

abbrev pub raised : Named → Named
raised named = record named { splits = named.splits + 1 }

abbrev pub child : Named → Named
child named = record { name = named.name ++ named.splits ∷ []; splits = 0 }

pub new_names-are : (names : List Named) → 0 < length names → new_names names ≡ child (first_entry names) ∷ []
new_names-are names none = grind (arith, nat_tests)

pub raise-length : (names : List Named) → length (raise_least names) ≡ length names
raise-length names = grind (arith, nat_tests)

pub first_there : (names : List Named) → 0 < length names → Contains names (first_entry names)
first_there names none = grind (arith, nat_tests)

-- an entry's name is one of the set
pub name_there : (names : List Named) (one : Named) → Contains names one → has_name (plain names) one.name ≡ true
name_there [] one h = absurd (omega (arith, h.1))
name_there (named ∷ names) one h = elim (Contains-cons_cases names named one h) [
  | inl first ↦ or_left _ _ (subst (λ (n : Named). same_name one.name n.name ≡ true) first (same_name-refl one.name))
  | inr rest ↦ or_right _ _ (name_there names one rest)
]

-- after the split an entry is the first with its new count, or another one
pub raised_cases : (names : List Named) → AreInOrder (plain names) → (one : Named) → Contains (raise_least names) one
    → (one ≡ raised (first_entry names)) ⊎ (Contains names one × (one.name ≡ (first_entry names).name → ⊥))
raised_cases [] order one h = absurd (omega (arith, h.1))
raised_cases (named ∷ names) order one h = elim (Contains-cons_cases names (raised named) one h) [
  | inl first ↦ inl first
  | inr rest ↦ inr (
    Contains-tail names named one rest,
    λ same.
        both_ways _ (before_has named.name (plain names) order.0) (subst (λ (n : Name). has_name (plain names) n ≡ true) same (name_there names one rest)),
  )
]

-- a name that goes on after another, where the one ends a number later
pub later_cases : (a b : Name) (x y : ℕ) (rest : Name) → a ++ x ∷ rest ≡ b ++ y ∷ []
    → ((a ≡ b) × (x ≡ y)) ⊎ ((more : Name) × (b ≡ a ++ x ∷ more))
later_cases [] [] x y rest e = let same : x ≡ y = cc in inl (refl, same)
later_cases [] (z ∷ b) x y rest e = let same : x ≡ z = cc in inr (b, ap (λ (n : ℕ). n ∷ b) (sym same))
later_cases (u ∷ a) [] x y rest e =
    let tail : a ++ x ∷ rest ≡ [] = cc in
    let size : length (a ++ x ∷ rest) ≡ 0 = ap (λ (n : Name). length n) tail in
    absurd (omega (arith, size, length-append a (x ∷ rest)))
later_cases (u ∷ a) (z ∷ b) x y rest e =
    let head : u ≡ z = cc in
    let tail : a ++ x ∷ rest ≡ b ++ y ∷ [] = cc in
    elim (later_cases a b x y rest tail) [
      | inl same ↦ inl ((let first : a ≡ b = same.0 in cc), same.1)
      | inr k ↦ inr (k.0, (let more : b ≡ a ++ x ∷ k.0 = k.1 in cc))
    ]

pub same_rest : (a : Name) (x y : ℕ) (rest more : Name) → a ++ x ∷ rest ≡ a ++ y ∷ more → x ≡ y
same_rest [] x y rest more e = cc
same_rest (u ∷ a) x y rest more e = let tail : a ++ x ∷ rest ≡ a ++ y ∷ more = cc in same_rest a x y rest more tail

-- merged sets
pub put-cases : (named : Named) (others : List Named) (one : Named) → Contains (put_name named others) one → (one ≡ named) ⊎ Contains others one
put-cases named [] one h = Contains-cons_cases [] named one h
put-cases named (other ∷ others) one h = elim (cases_Bool (name_le named.name other.name)) [
  | inl first ↦ Contains-cons_cases (other ∷ others) named one (rw first at h)
  | inr later ↦ elim (Contains-cons_cases (put_name named others) other one (rw later at h)) [
    | inl here ↦ inr (subst (λ (n : Named). Contains (n ∷ others) one) here (Contains-head others one))
    | inr rest ↦ elim (put-cases named others one rest) [ inl same ↦ inl same | inr there ↦ inr (Contains-tail others other one there) ]
  ]
]

pub merge-cases : (ours theirs : List Named) (one : Named) → Contains (merge_names ours theirs) one → Contains ours one ⊎ Contains theirs one
merge-cases [] theirs one h = inr h
merge-cases (named ∷ ours) theirs one h = elim (put-cases named (merge_names ours theirs) one h) [
  | inl same ↦ inl (subst (λ (n : Named). Contains (n ∷ ours) one) same (Contains-head ours one))
  | inr rest ↦ elim (merge-cases ours theirs one rest) [ inl our ↦ inl (Contains-tail ours named one our) | inr their ↦ inr their ]
]

pub put-some : (named : Named) (others : List Named) → 0 < length (put_name named others)
put-some named [] = omega arith
put-some named (other ∷ others) = elim (cases_Bool (name_le named.name other.name)) [ inl first ↦ rw first (omega arith) | inr later ↦ rw later (omega arith) ]

pub merge-some : (ours theirs : List Named) → 0 < length theirs → 0 < length (merge_names ours theirs)
merge-some [] theirs more = more
merge-some (named ∷ ours) theirs more = put-some named (merge_names ours theirs)

-- a common name of two sets
pub shared : (ours theirs : List Name) → share_name ours theirs ≡ true → (name : Name) × (has_name ours name ≡ true) × (has_name theirs name ≡ true)
shared ours [] h = cc
shared ours (other ∷ theirs) h = elim (or_cases (has_name ours other) (share_name ours theirs) h) [
  | inl first ↦ (other, first, or_left _ _ (same_name-refl other))
  | inr rest ↦ let k = shared ours theirs rest in (k.0, k.1, or_right _ _ k.2)
]

-- sets with no common name
pub apart_from : (ours theirs : List Name) → ((name : Name) → has_name ours name ≡ true → has_name theirs name ≡ true → ⊥) → share_name ours theirs ≡ false
apart_from ours theirs never = false_from_ne_true _ (λ h. let k = shared ours theirs h in never k.0 k.1 k.2)

-- a name among entries is that of one
pub entry_of : (names : List Named) (name : Name) → has_name (plain names) name ≡ true → (named : Named) × Contains names named × (named.name ≡ name)
entry_of [] name h = cc
entry_of (named ∷ names) name h = elim (or_cases (same_name name named.name) (has_name (plain names) name) h) [
  | inl same ↦ (named, Contains-head names named, sym (same_name-true name named.name same))
  | inr rest ↦ let k = entry_of names name rest in (k.0, Contains-tail names named k.0 k.1, k.2)
]
