-- The gaps between what sources have are these and no others.
use Rattle.std.proofs.Common.{◌≡◌, ℕ, ◌<◌, ◌≤◌, ◌^◌, Bool, true, false, List, [], ◌∷◌, length, map, slice_get, take, Option, None, Some, inl, inr, refl, sym, ap, subst, ◌∙◌, arith}
use Rattle.std.proofs.lemmas.Bool.{cases_lt}
use Rattle.std.specs.List.{sum_by}
use Rattle.bao_windows.specs.declared.wanted.Wanted.{Wanted}
use Rattle.bao_tasks.specs.declared.missing.Lack.{Lack}
use Rattle.bao_tasks.specs.declared.missing.Lack.TheVariants.{Unasked, Starved, End, Missing}
use Rattle.bao_tasks.specs.declared.missing.MissingParts.{MissingParts}
use Rattle.bao_tasks.specs.declared.missing.Span.{Span}
use Rattle.holders.specs.declared.form.Form.{Form}
use Rattle.holders.specs.declared.form.Form.TheVariants.{Slices, Bare}
use Rattle.bao_tasks.specs.Missing.{AreGaps, AreParts, ClaimsLength, GoesUpTo, HasUnit, IsClaim, IsFirstClaim, IsHad, IsLackOf, IsLacked, IsNextGap, IsTotal, JudgesClaim, JudgesUnit, Tells, claim_in, place_of, span_len, span_of, units_in}
use Rattle.bao_tasks.specs.Worth.{IsSaidOf}
use Rattle.bao_windows.proofs.Ends.{end_or_none, one_end}
use Rattle.bao_windows.specs.Available.{AreSound, HasNoEnd}
use Rattle.determined_program.specs.Lacks.{SameLack, SameParts}

said_is : (contents : Option (List ℕ)) (faultless : Type 0) (P : List ℕ → Type 0) (bytes : List ℕ) → contents ≡ Some bytes → length bytes < 2 ^ 64 → faultless
    → IsSaidOf contents faultless P → P bytes
said_is None faultless P bytes is few sound said = cc
said_is (Some s) faultless P bytes is few sound said =
    let same : s ≡ bytes = cc in subst P same (said (subst (λ (x : List ℕ). length x < 2 ^ 64) (sym same) few) sound)

one_number : (m n : ℕ) (claim : Option ℕ) → claim ≡ Some m → claim ≡ Some n → m ≡ n
one_number m n claim p q = cc

module _ {S : Type 0} (contents : S → Option (List ℕ)) (faultless : S → Type 0) (wanted : Wanted) (sources : List S) (sound : AreSound contents faultless sources) where
  abbrev judge : ℕ → Bool → Type 0
  judge = JudgesUnit contents faultless wanted sources

  -- what none has, none has
  apart : (u : ℕ) → IsLacked contents faultless wanted sources u → IsHad contents faultless wanted sources u → ⊥
  apart u lacked had =
      let known = sound had.0 had.1 had.2 in
      said_is (contents had.1) (faultless had.1) (λ bytes. HasUnit wanted u bytes → ⊥) known.0 known.1 known.2 known.3 (lacked had.0 had.1 had.2)
      (said_is (contents had.1) (faultless had.1) (HasUnit wanted u) known.0 known.1 known.2 known.3 had.3)

  -- a claim that stands is one
  not_claimed : (n : ℕ) (source : S) (k : ℕ) → slice_get sources k ≡ Some source → IsSaidOf (contents source) (faultless source) (λ text. IsClaim wanted text n)
      → IsSaidOf (contents source) (faultless source) (λ text. JudgesClaim wanted text None) → ⊥
  not_claimed n source k there claims none =
      let known = sound k source there in
      said_is (contents source) (faultless source) (λ text. (total : ℕ) → ¬ IsClaim wanted text total) known.0 known.1 known.2 known.3 none n
      (said_is (contents source) (faultless source) (λ text. IsClaim wanted text n) known.0 known.1 known.2 known.3 claims)

  -- where the verdict turns
  one_place : (units : ℕ) (verdict other : Bool) → ((u : ℕ) → judge u verdict → judge u other → ⊥) → (from a b : ℕ)
      → GoesUpTo judge units verdict other from a → GoesUpTo judge units verdict other from b → a ≡ b
  one_place units verdict other differ from a b p q = elim (cases_lt a b) [
    | inl less ↦ absurd (differ a (q.same a p.after less) (p.next (omega (arith, less, q.within))))
    | inr above ↦ elim (cases_lt b a) [
      | inl less ↦ absurd (differ b (p.same b q.after less) (q.next (omega (arith, less, p.within))))
      | inr below ↦ omega (arith, above, below)
    ]
  ]

  one_gap : (units from f e g h : ℕ) → IsNextGap judge units from f e → IsNextGap judge units from g h → (f ≡ g) × (e ≡ h)
  one_gap units from f e g h p q =
      let first : f ≡ g = one_place units false true (λ u had lacked. apart u lacked had) from f g p.before q.before in
      let gap = subst (λ (n : ℕ). GoesUpTo judge units true false n e) first p.gap in
      (first, one_place units true false (λ u lacked had. apart u lacked had) g e h gap q.gap)

  no_gap : (units from f e : ℕ) → IsNextGap judge units from f e → ((u : ℕ) → from ≤ u → u < units → IsHad contents faultless wanted sources u) → ⊥
  no_gap units from f e p all =
      apart f (p.gap.same f (omega arith) p.some) (all f p.before.after (omega (arith, p.some, p.gap.within)))

  one_pair : (x y : ℕ × ℕ) → x.0 ≡ y.0 → x.1 ≡ y.1 → x ≡ y
  one_pair x y first second = λ i. (first i, second i)

  pub one_list : (units from : ℕ) (xs ys : List (ℕ × ℕ)) → AreGaps judge units from xs → AreGaps judge units from ys → xs ≡ ys
  one_list units from [] [] p q = refl
  one_list units from [] (y ∷ ys) p q = absurd (no_gap units from y.0 y.1 q.0 p)
  one_list units from (x ∷ xs) [] p q = absurd (no_gap units from x.0 x.1 p.0 q)
  one_list units from (x ∷ xs) (y ∷ ys) p q =
      let same = one_gap units from x.0 x.1 y.0 y.1 p.0 q.0 in
      let rest : xs ≡ ys =
      one_list units x.1 xs ys p.1 (subst (λ (n : ℕ). AreGaps judge units n ys) (sym same.1) q.1) in
      let head : x ≡ y = one_pair x y same.0 same.1 in
      λ i. head i ∷ rest i

  one_telling : (most : ℕ) (a b : MissingParts) (xs ys : List Span) → xs ≡ ys → a.looked ≡ b.looked → Tells most a xs → Tells most b ys → SameParts a b
  one_telling most a b xs ys same looked p q = (
    looked,
    p.shown ∙ ap (λ (s : List Span). take most s) same ∙ sym q.shown,
    p.count ∙ ap (λ (s : List Span). length s) same ∙ sym q.count,
    p.bytes ∙ ap (λ (s : List Span). sum_by span_len s) same ∙ sym q.bytes,
  )

  one_parts : (most : ℕ) (a b : MissingParts) → AreParts judge wanted.grain most a → AreParts judge wanted.grain most b → a.total ≡ b.total → SameParts a b
  one_parts most a b p q total =
      let gaps : p.gaps ≡ q.gaps =
      one_list (units_in wanted.grain b.total) 0 p.gaps q.gaps (subst (λ (n : ℕ). AreGaps judge (units_in wanted.grain n) 0 p.gaps) total p.are) q.are in
      let looked : a.looked ≡ b.looked =
      p.looked ∙ ap (λ (n : ℕ). place_of wanted.grain n (units_in wanted.grain n)) total ∙ sym q.looked in
      one_telling most a b _ _ (λ i. map (span_of wanted.grain (total i)) (gaps i)) looked p.told q.told

  -- one claim stands first
  one_first : (m n : ℕ) → IsFirstClaim contents faultless wanted sources m → IsFirstClaim contents faultless wanted sources n → m ≡ n
  one_first m n p q = elim (cases_lt p.place q.place) [
    | inl less ↦ absurd (not_claimed m p.source p.place p.there p.claims (q.before p.place p.source less p.there))
    | inr above ↦ elim (cases_lt q.place p.place) [
      | inl less ↦ absurd (not_claimed n q.source q.place q.there q.claims (p.before q.place q.source less q.there))
      | inr below ↦
          let place : q.place ≡ p.place = omega (arith, above, below) in
          let known = sound p.place p.source p.there in
          let here : slice_get sources p.place ≡ Some q.source = subst (λ (k : ℕ). slice_get sources k ≡ Some q.source) place q.there in
          let source : q.source ≡ p.source = let there = p.there in cc in
          let other : IsSaidOf (contents p.source) (faultless p.source) (λ text. IsClaim wanted text n) =
          subst (λ (s : S). IsSaidOf (contents s) (faultless s) (λ text. IsClaim wanted text n)) source q.claims in
          let one = said_is (contents p.source) (faultless p.source) (λ text. IsClaim wanted text m) known.0 known.1 known.2 known.3 p.claims in
          let two = said_is (contents p.source) (faultless p.source) (λ text. IsClaim wanted text n) known.0 known.1 known.2 known.3 other in
          one_number m n (claim_in known.0) one.0 two.0
    ]
  ]

  one_claim : (form : Form) (x y : Option ℕ) → ClaimsLength contents faultless wanted sources form x → ClaimsLength contents faultless wanted sources form y → x ≡ y
  one_claim (Bare outline) x y p q = p ∙ sym q
  one_claim Slices None None p q = refl
  one_claim Slices None (Some n) p q = absurd (not_claimed n q.source q.place q.there q.claims (p q.place q.source q.there))
  one_claim Slices (Some m) None p q = absurd (not_claimed m p.source p.place p.there p.claims (q p.place p.source p.there))
  one_claim Slices (Some m) (Some n) p q = ap (λ (k : ℕ). Some k) (one_first m n p q)

  -- one length, certified or claimed
  one_total : (x y : Bool) (m n : ℕ) → IsTotal contents faultless wanted sources x m → IsTotal contents faultless wanted sources y n → (m ≡ n) × (x ≡ y)
  one_total true true m n p q = (one_end contents faultless wanted sources sound m n p.2 q.2, refl)
  one_total true false m n p q = absurd (end_or_none contents faultless wanted sources sound m p.2 q.0)
  one_total false true m n p q = absurd (end_or_none contents faultless wanted sources sound n q.2 p.0)
  one_total false false m n p q = let same = one_claim wanted.form (Some m) (Some n) p.1 q.1 in (cc, refl)

  total_or_none : (x : Bool) (m : ℕ) → IsTotal contents faultless wanted sources x m → HasNoEnd contents faultless wanted sources
      → ClaimsLength contents faultless wanted sources wanted.form None → ⊥
  total_or_none true m p none never = end_or_none contents faultless wanted sources sound m p.2 none
  total_or_none false m p none never = let no : Some m ≡ None = one_claim wanted.form (Some m) None p.1 never in cc

  pub one_lack : (most : ℕ) (a b : Lack) → IsLackOf contents faultless wanted sources most a → IsLackOf contents faultless wanted sources most b → SameLack a b
  one_lack most (Missing a) (Missing b) p q =
      let same = one_total a.certified b.certified a.total b.total p.0 q.0 in
      (same.0, same.1, one_parts most a b p.1 q.1 same.0)
  one_lack most Unasked b p q = absurd p
  one_lack most Starved b p q = tt
  one_lack most End (Missing b) p q = total_or_none b.certified b.total q.0 p.0 p.1
  one_lack most End Unasked p q = tt
  one_lack most End Starved p q = tt
  one_lack most End End p q = tt
  one_lack most (Missing a) Unasked p q = absurd q
  one_lack most (Missing a) Starved p q = tt
  one_lack most (Missing a) End p q = total_or_none a.certified a.total p.0 q.0 q.1
