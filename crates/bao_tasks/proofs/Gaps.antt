-- Gaps, one after another.
use Rattle.std.proofs.Common.{◌≡◌, ℕ, ◌+◌, ◌-◌, ◌<◌, ◌≤◌, Bool, true, false, List, [], ◌∷◌, ◌++◌, map, Option, Some, slice_get, append-nil, append_assoc, inl, inr, sym, ap, subst, ◌∙◌, arith}
use Rattle.std.proofs.lemmas.Bool.{cases_lt}
use Rattle.holders.specs.declared.grain.Grain.{Grain}
use Rattle.holders.specs.declared.grain.Grain.TheVariants.{Group, Chunk}
use Rattle.bao_windows.specs.declared.wanted.Wanted.{Wanted}
use Rattle.bao_tasks.specs.Worth.{IsSaidOf}
use Rattle.bao_tasks.specs.declared.missing.MissingParts.{MissingParts}
use Rattle.bao_tasks.specs.Missing.{AreGaps, AreParts, GoesUpTo, HasUnit, IsNextGap, Tells, place_of, span_of, units_in}

-- a unit that comes later begins no earlier
pub place_order : (grain : Grain) (total a b : ℕ) → a ≤ b → place_of grain total a ≤ place_of grain total b
place_order Group total a b below = omega (arith, below)
place_order Chunk total a b below = omega (arith, below)

-- what is told of a gap more, where what was told before ends no later than the gap begins
pub bytes_more : (grain : Grain) (total from first end bytes : ℕ) → bytes ≤ place_of grain total from → from ≤ first → first ≤ end
    → bytes + (place_of grain total end - place_of grain total first) ≤ place_of grain total end
bytes_more grain total from first end bytes within before order =
    let low : place_of grain total from ≤ place_of grain total first = place_order grain total from first before in
    let high : place_of grain total first ≤ place_of grain total end = place_order grain total first end order in omega (arith, within, low, high)

some_same : {S : Type 0} (a b : S) → Some a ≡ Some b → a ≡ b
some_same a b is = cc

-- one source more lacks a unit
pub lacked_more : {S : Type 0} (contents : S → Option (List ℕ)) (faultless : S → Type 0) (wanted : Wanted) (sources : List S) (u n : ℕ) (item : S) → slice_get sources n ≡ Some item
    → IsSaidOf (contents item) (faultless item) (λ bytes. ¬ HasUnit wanted u bytes)
    → ((i : ℕ) (source : S) → i < n → slice_get sources i ≡ Some source → IsSaidOf (contents source) (faultless source) (λ bytes. ¬ HasUnit wanted u bytes))
    → (i : ℕ) (source : S) → i < n + 1 → slice_get sources i ≡ Some source → IsSaidOf (contents source) (faultless source) (λ bytes. ¬ HasUnit wanted u bytes)
lacked_more {S} contents faultless wanted sources u n item at lacks before i source below found = elim (cases_lt i n) [
  | inl earlier ↦ before i source earlier found
  | inr late ↦
      let here : i ≡ n = omega (arith, below, late) in
      let same : item ≡ source = some_same item source (sym at ∙ ap (λ (k : ℕ). slice_get sources k) (sym here) ∙ found) in
      subst (λ (it : S). IsSaidOf (contents it) (faultless it) (λ bytes. ¬ HasUnit wanted u bytes)) same lacks
]

module _ (judge : ℕ → Bool → Type 0) (units : ℕ) where
  -- one unit more has the verdict
  pub one_more : (verdict : Bool) (from at : ℕ) → ((u : ℕ) → from ≤ u → u < at → judge u verdict) → judge at verdict → (u : ℕ) → from ≤ u → u < at + 1 → judge u verdict
  one_more verdict from at before here u low high = elim (cases_lt u at) [
    | inl earlier ↦ before u low earlier
    | inr late ↦ let same : at ≡ u = omega (arith, high, late) in subst (λ (n : ℕ). judge n verdict) same here
  ]

  -- units that were had, up to the first that is lacked, and those that are lacked behind it
  pub gap_of : (from first end : ℕ) → GoesUpTo judge units false true from first → first < units → GoesUpTo judge units true false (first + 1) end → IsNextGap judge units from first end
  gap_of from first end p below q = record {
    before = p;
    some = omega (arith, q.after);
    gap = record {
      after = omega (arith, q.after);
      within = q.within;
      same = λ u low high. elim (cases_lt first u) [
        | inl above ↦ q.same u (omega (arith, above)) high
        | inr at ↦ let here : first ≡ u = omega (arith, low, at) in subst (λ (n : ℕ). judge n true) here (p.next below)
      ];
      next = q.next;
    };
  }

  -- where none is lacked any more
  pub no_more : (from first : ℕ) → GoesUpTo judge units false true from first → units ≤ first → AreGaps judge units from []
  no_more from first p past = λ u low high. p.same u low (omega (arith, high, past))

  -- one gap more
  pub gap_more : (from : ℕ) (gaps : List (ℕ × ℕ)) (gap : ℕ × ℕ) → ((rest : List (ℕ × ℕ)) → AreGaps judge units from rest → AreGaps judge units 0 (gaps ++ rest))
      → IsNextGap judge units from gap.0 gap.1 → (rest : List (ℕ × ℕ)) → AreGaps judge units gap.1 rest → AreGaps judge units 0 ((gaps ++ gap ∷ []) ++ rest)
  gap_more from gaps gap before next rest follow =
      subst (λ (all : List (ℕ × ℕ)). AreGaps judge units 0 all) (sym (append_assoc gaps (gap ∷ []) rest)) (before (gap ∷ rest) (next, follow))

  -- all of them
  pub gaps_all : (from : ℕ) (gaps : List (ℕ × ℕ)) → ((rest : List (ℕ × ℕ)) → AreGaps judge units from rest → AreGaps judge units 0 (gaps ++ rest)) → AreGaps judge units from []
      → AreGaps judge units 0 gaps
  gaps_all from gaps before none = subst (λ (all : List (ℕ × ℕ)). AreGaps judge units 0 all) (append-nil gaps) (before [] none)

  -- they are all parts of a blob of so many bytes
  pub parts_all : (grain : Grain) (most : ℕ) (parts : MissingParts) (total : ℕ) (gaps : List (ℕ × ℕ)) → parts.total ≡ total → units ≡ units_in grain total
      → parts.looked ≡ place_of grain total units → Tells most parts (map (span_of grain total) gaps) → AreGaps judge units 0 gaps → AreParts judge grain most parts
  parts_all grain most parts total gaps is count looked told are = record {
    looked = looked ∙ ap (place_of grain total) count ∙ ap (λ (n : ℕ). place_of grain n (units_in grain n)) (sym is);
    gaps = gaps;
    are = subst (λ (n : ℕ). AreGaps judge n 0 gaps) (count ∙ ap (units_in grain) (sym is)) are;
    told = subst (λ (n : ℕ). Tells most parts (map (span_of grain n) gaps)) (sym is) told;
  }

-- by another judge, who says what this one says
module _ (judge other : ℕ → Bool → Type 0) (says : (u : ℕ) (verdict : Bool) → judge u verdict → other u verdict) where
  up_to_as : (units : ℕ) (verdict opposite : Bool) (from at : ℕ) → GoesUpTo judge units verdict opposite from at → GoesUpTo other units verdict opposite from at
  up_to_as units verdict opposite from at p =
      record { after = p.after; within = p.within; same = λ u low high. says u verdict (p.same u low high); next = λ below. says at opposite (p.next below) }

  gaps_as : (units from : ℕ) (gaps : List (ℕ × ℕ)) → AreGaps judge units from gaps → AreGaps other units from gaps
  gaps_as units from [] all = λ u low high. says u false (all u low high)
  gaps_as units from (gap ∷ rest) are = (
    record { before = up_to_as units false true from gap.0 are.0.before; some = are.0.some; gap = up_to_as units true false gap.0 gap.1 are.0.gap },
    gaps_as units gap.1 rest are.1,
  )

  pub parts_as : (grain : Grain) (most : ℕ) (parts : MissingParts) → AreParts judge grain most parts → AreParts other grain most parts
  parts_as grain most parts p =
      record { looked = p.looked; gaps = p.gaps; are = gaps_as (units_in grain parts.total) 0 p.gaps p.are; told = p.told }
