-- The lengths that sources claim.
use Rattle.std.proofs.Common.{◌≡◌, ◌∙◌, ℕ, ◌+◌, ◌*◌, ◌<◌, Bool, true, false, List, Option, None, Some, slice_get, inl, inr, ap, arith, subst, sym}
use Rattle.std.proofs.lemmas.Bool.{cases_lt}
use Rattle.holders.specs.Forms.{AreSlices, IsLengthOf}
use Rattle.holders.specs.declared.form.Form.{Form}
use Rattle.holders.specs.declared.form.Form.TheVariants.{Slices, Bare}
use Rattle.holders.specs.declared.grain.Grain.{Grain}
use Rattle.holders.specs.declared.grain.Grain.TheVariants.{Group, Chunk}
use Rattle.bao_windows.specs.declared.wanted.Wanted.{Wanted}
use Rattle.bao_tasks.specs.declared.missing.Lack.{Lack}
use Rattle.bao_tasks.specs.declared.missing.Lack.TheVariants.{Unasked, Starved, End, Missing}
use Rattle.bao_tasks.specs.Missing.{BeginsWithin, ClaimsLength, HasSome, IsClaim, IsLackBy, IsLackOf, IsTotal, JudgesClaim, claim_in, unit_chunks}
use Rattle.bao_tasks.specs.Worth.{IsSaidOf, JudgesGroup}
use Rattle.bao_tasks.proofs.Said.{said_both, said_then}

-- the first units of encodings can be asked for
pub begins_early : (form : Form) (grain : Grain) (u : ℕ) → AreSlices form → u < 64 → BeginsWithin form (unit_chunks grain * u)
begins_early Slices Group u slices few = (omega (arith, few), tt)
begins_early Slices Chunk u slices few = (omega (arith, few), tt)
begins_early (Bare outline) grain u slices few = absurd slices

-- what a source claims
module _ (contents : Option (List ℕ)) (faultless : Type 0) (wanted : Wanted) (claim : Option ℕ) (says : IsSaidOf contents faultless (λ text. claim ≡ claim_in text)) where
  pub claims_none : claim ≡ None → IsSaidOf contents faultless (λ text. JudgesClaim wanted text None)
  claims_none none =
      said_then contents faultless (λ text. claim ≡ claim_in text) (λ text. JudgesClaim wanted text None) (λ text is total it. let first = it.0 in let no : None ≡ Some total = cc in cc) says

  pub claims_untrue : (total : ℕ) (lacks : Bool) → claim ≡ Some total → lacks ≡ true → IsSaidOf contents faultless (λ text. JudgesGroup lacks (HasSome wanted total text))
      → IsSaidOf contents faultless (λ text. JudgesClaim wanted text None)
  claims_untrue total lacks some refused verdict =
      said_both contents faultless (λ text. claim ≡ claim_in text) (λ text. ¬ HasSome wanted total text) (λ text. JudgesClaim wanted text None)
      (λ text is none other it. let first = it.0 in let same : other ≡ total = cc in none (subst (λ (n : ℕ). HasSome wanted n text) same it.1)) says
      (subst (λ (b : Bool). IsSaidOf contents faultless (λ text. JudgesGroup b (HasSome wanted total text))) refused verdict)

  pub claims_true : (total : ℕ) (lacks : Bool) → claim ≡ Some total → lacks ≡ false → IsSaidOf contents faultless (λ text. JudgesGroup lacks (HasSome wanted total text))
      → IsSaidOf contents faultless (λ text. IsClaim wanted text total)
  claims_true total lacks some taken verdict =
      said_both contents faultless (λ text. claim ≡ claim_in text) (HasSome wanted total) (λ text. IsClaim wanted text total) (λ text is has. (sym is ∙ some, has)) says
      (subst (λ (b : Bool). IsSaidOf contents faultless (λ text. JudgesGroup b (HasSome wanted total text))) taken verdict)

module _ {S : Type 0} (contents : S → Option (List ℕ)) (faultless : S → Type 0) (wanted : Wanted) (sources : List S) where
  -- the form is of a blob of the length that is claimed
  pub claimed_is : (form : Form) (total : ℕ) → ClaimsLength contents faultless wanted sources form (Some total) → IsLengthOf form total
  claimed_is Slices total claims = tt
  claimed_is (Bare outline) total claims = cc

  -- what is told by a length is so of the sources
  pub told_by : (most total : ℕ) (certified : Bool) (lack : Lack) → IsLackBy contents faultless wanted sources most total certified lack → IsTotal contents faultless wanted sources certified total
      → IsLackOf contents faultless wanted sources most lack
  told_by most total certified Unasked by is = absurd by
  told_by most total certified Starved by is = tt
  told_by most total certified End by is = absurd by
  told_by most total certified (Missing parts) by is = (
    subst (λ (n : ℕ). IsTotal contents faultless wanted sources parts.certified n) (sym by.0) (subst (λ (b : Bool). IsTotal contents faultless wanted sources b total) (sym by.1) is),
    by.2,
  )

  -- one source more claims no length that stands
  pub claims_more : (n : ℕ) (item : S) → slice_get sources n ≡ Some item → IsSaidOf (contents item) (faultless item) (λ text. JudgesClaim wanted text None)
      → ((k : ℕ) (source : S) → k < n → slice_get sources k ≡ Some source → IsSaidOf (contents source) (faultless source) (λ text. JudgesClaim wanted text None))
      → (k : ℕ) (source : S) → k < n + 1 → slice_get sources k ≡ Some source → IsSaidOf (contents source) (faultless source) (λ text. JudgesClaim wanted text None)
  claims_more n item at none before k source below found = elim (cases_lt k n) [
    | inl earlier ↦ before k source earlier found
    | inr late ↦
        let here : k ≡ n = omega (arith, below, late) in
        let same : Some item ≡ Some source = sym at ∙ ap (λ (i : ℕ). slice_get sources i) (sym here) ∙ found in
        let it : item ≡ source = cc in
        subst (λ (s : S). IsSaidOf (contents s) (faultless s) (λ text. JudgesClaim wanted text None)) it none
  ]
