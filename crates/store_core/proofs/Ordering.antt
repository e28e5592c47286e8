-- Names in dictionary order stay so where one splits and where sets are joined.
use Rattle.std.proofs.lemmas.Bool.Decides.{nat_tests}
use Rattle.std.proofs.Common.{◌≡◌, Bool, true, false, ◌||◌, List, [], ◌∷◌, refl, sym, ap, subst, ◌∙◌, arith, inl, inr, eq-eqb}
use Rattle.std.proofs.lemmas.Bool.{and_from, both_ways, cases_Bool, false_from_ne_true, false≢true, or_cases, or_left, or_right}
use Rattle.store_core.specs.declared.view.Named.{Named}
use Rattle.store_core.specs.Names.{Name, has_name, name_le, same_name}
use Rattle.store_core.specs.Orders.{AreInOrder, ComesBefore, IsLeast, JoinKeepsOrder, LeastIsOne, OrderIsOne, SplitKeepsOrder}
use Rattle.store_core.specs.Views.{merge_names, names_of, new_names, put_name}
use Rattle.store_core.proofs.Joining.{merge-has, plain, split_keeps}
use Rattle.store_core.proofs.Tells.{common_name, same_name-refl, same_name-true, same_name-turned}

-- of two names one is at most the other
le_total : (a b : Name) → name_le a b ≡ false → name_le b a ≡ true
le_total [] b h = absurd (false≢true (sym h))
le_total (x ∷ xs) [] h = refl
le_total (x ∷ xs) (y ∷ ys) h = grind (arith, nat_tests, le_total xs ys)

le_trans : (a b c : Name) → name_le a b ≡ true → name_le b c ≡ true → name_le a c ≡ true
le_trans [] b c h k = refl
le_trans (x ∷ xs) [] c h k = absurd (false≢true h)
le_trans (x ∷ xs) (y ∷ ys) [] h k = absurd (false≢true k)
le_trans (x ∷ xs) (y ∷ ys) (z ∷ zs) h k = grind (arith, nat_tests, le_trans xs ys zs)

-- what comes before a set isn't in it
pub before_has : (name : Name) (names : List Name) → ComesBefore name names → has_name names name ≡ false
before_has name [] h = refl
before_has name (other ∷ others) h = ap (λ (b : Bool). b || has_name others name) h.1 ∙ before_has name others h.2

-- what comes before the first of a set comes before all of it, unless it is one of them
before_all : (name other : Name) (names : List Name) → name_le name other ≡ true → ComesBefore other names → has_name names name ≡ false → ComesBefore name names
before_all name other [] le h free = tt
before_all name other (one ∷ names) le h free = grind (arith, nat_tests, le_trans, before_all name other names le)

before_put : (name : Name) (named : Named) (others : List Named) → name_le name named.name ≡ true → same_name name named.name ≡ false
    → ComesBefore name (plain others) → ComesBefore name (plain (put_name named others))
before_put name named [] le differ h = (le, differ, tt)
before_put name named (other ∷ others) le differ h = grind (arith, nat_tests, before_put name named others le differ)

put_order : (named : Named) (others : List Named) → AreInOrder (plain others) → has_name (plain others) named.name ≡ false
    → AreInOrder (plain (put_name named others))
put_order named [] order free = (tt, tt)
put_order named (other ∷ others) order free = grind (arith, nat_tests, plain, before_all, before_put, le_total, same_name-turned, put_order named others)

pub merge_order : (ours theirs : List Named) → AreInOrder (plain ours) → AreInOrder (plain theirs)
    → ((name : Name) → has_name (plain ours) name ≡ true → has_name (plain theirs) name ≡ false) → AreInOrder (plain (merge_names ours theirs))
merge_order [] theirs a b apart = b
merge_order (named ∷ ours) theirs a b apart =
    put_order named (merge_names ours theirs) (merge_order ours theirs a.1 b (λ name h. apart name (or_right _ _ h)))
    (merge-has ours theirs named.name ∙ ap (λ (x : Bool). x || has_name (plain theirs) named.name) (before_has named.name (plain ours) a.0)
    ∙ apart named.name (or_left _ _ (same_name-refl named.name)))

new_order : (names : List Named) → AreInOrder (plain (new_names names))
new_order names = grind (arith, nat_tests)

pub split_keeps_order : SplitKeepsOrder
split_keeps_order view order = (subst (λ (ns : List Name). AreInOrder ns) (sym (split_keeps view)) order, new_order view.names)

pub join_keeps_order : JoinKeepsOrder
join_keeps_order first second joined is apart a b =
    subst (λ (ns : List Named). AreInOrder (plain ns)) (sym is.names_are)
    (merge_order first.names second.names a b (λ name ours.
    false_from_ne_true _ (λ theirs. both_ways _ apart (common_name (names_of first) (names_of second) name ours theirs))))

le_refl : (a : Name) → name_le a a ≡ true
le_refl [] = refl
le_refl (x ∷ xs) = or_right _ _ (and_from _ _ (eq-eqb x x refl) (le_refl xs))

-- names that are at most each other are one
le_antisym : (a b : Name) → name_le a b ≡ true → name_le b a ≡ true → a ≡ b
le_antisym [] [] h k = refl
le_antisym [] (y ∷ ys) h k = absurd (false≢true k)
le_antisym (x ∷ xs) [] h k = absurd (false≢true h)
le_antisym (x ∷ xs) (y ∷ ys) h k = grind (arith, nat_tests, le_antisym xs ys)

before_le : (name : Name) (names : List Name) → ComesBefore name names → (other : Name) → has_name names other ≡ true → name_le name other ≡ true
before_le name [] h other is = absurd (false≢true is)
before_le name (one ∷ names) h other is = grind (arith, nat_tests, same_name-true, before_le name names)

first_least : (name : Name) (names : List Name) → ComesBefore name names → IsLeast (name ∷ names) name
first_least name names h = record {
  among = or_left _ _ (same_name-refl name);
  least = λ other is. elim (or_cases (same_name other name) (has_name names other) is) [
    | inl same ↦ subst (λ (n : Name). name_le name n ≡ true) (sym (same_name-true other name same)) (le_refl name)
    | inr rest ↦ before_le name names h other rest
  ];
}

pub least_is_one : LeastIsOne
least_is_one x0 name order = grind (arith, nat_tests, false≢true, first_least, le_antisym)

-- what follows the least name is the rest of the set
same_rest : (x : Name) (xs ys : List Name) → ComesBefore x xs → ComesBefore x ys → ((name : Name) → has_name (x ∷ xs) name ≡ has_name (x ∷ ys) name)
    → (name : Name) → has_name xs name ≡ has_name ys name
same_rest x xs ys a b same name = elim (cases_Bool (same_name name x)) [
  | inl hit ↦
      let e : x ≡ name = sym (same_name-true name x hit) in
      subst (λ (n : Name). has_name xs n ≡ has_name ys n) e (before_has x xs a ∙ sym (before_has x ys b))
  | inr miss ↦
      sym (ap (λ (b : Bool). b || has_name xs name) miss) ∙ same name ∙ ap (λ (b : Bool). b || has_name ys name) miss
]

pub order_is_one : OrderIsOne
order_is_one [] [] a b same = refl
order_is_one [] (y ∷ ys) a b same = absurd (false≢true (same y ∙ or_left _ _ (same_name-refl y)))
order_is_one (x ∷ xs) [] a b same = absurd (false≢true (sym (same x) ∙ or_left _ _ (same_name-refl x)))
order_is_one (x ∷ xs) (y ∷ ys) a b same =
    let one : IsLeast (x ∷ xs) x = first_least x xs a.0 in
    let two : IsLeast (y ∷ ys) y = first_least y ys b.0 in
    let first : x ≡ y = le_antisym x y (one.least y (same y ∙ two.among)) (two.least x (sym (same x) ∙ one.among)) in
    let back : ComesBefore x ys = subst (λ (n : Name). ComesBefore n ys) (sym first) b.0 in
    let also : (name : Name) → has_name (x ∷ xs) name ≡ has_name (x ∷ ys) name =
    subst (λ (n : Name). (name : Name) → has_name (x ∷ xs) name ≡ has_name (n ∷ ys) name) (sym first) same in
    let rest : xs ≡ ys = order_is_one xs ys a.1 b.1 (same_rest x xs ys a.0 back also) in
    λ i. first i ∷ rest i
