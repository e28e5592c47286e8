-- What comes of a file: a verdict on it, and on its groups.
use Rattle.std.proofs.Common.{◌≡◌, ℕ, ◌*◌, ◌&&◌, ◌⊎◌, Bool, true, false, List, Option, None, Some, Err, inl, inr, refl, sym, subst, arith}
use Rattle.std.proofs.KnownBytes.{Appends-trans}
use Rattle.std.proofs.lemmas.List.{append-nil}
use Rattle.std.specs.Io.KnownBytes.{Appends, Keeps}
use Rattle.b3tree.specs.declared.mode.Mode.{Mode}
use Rattle.bao_decode.specs.Damage.{JudgesSlice}
use Rattle.bao_decode.specs.Opened.{OpensWith}
use Rattle.bao_files.specs.Disks.{FileState}
use Rattle.bao_files.specs.Printed.{AppendsBeginning, Prints}
use Rattle.bao_files.specs.declared.fault.FileFault.{FileFault}
use Rattle.bao_files.specs.declared.fault.FileFault.TheVariants.{Read, Write, Output, Encoding, Memory}
use Rattle.bao_sums.specs.Checked.{HasDamage, IsOutcomeAt, IsPartAt, IsVerdictAt, Outcome, check_line, is_other, verdict_line}
use Rattle.bao_sums.specs.Damage.{AreJudged, Damage, IsDamageOf, IsPartOf, JudgesGroup, damage_lines, outboard_path}
use Rattle.bao_sums.specs.Judged.{JudgesGroupOf}
use Rattle.bao_sums.specs.Steps.{LeavesPart, PrintsOne}
use Rattle.bao_sums.specs.Sums.{Sum}
use Rattle.bao_sums.specs.declared.verdict.Verdict.{Verdict}
use Rattle.bao_sums.proofs.Runs.{begins_after, judged_map}

-- a verdict on a group of two files that were opened
module _ (faultless never : Type 0) (outboard file : FileState) (outline copy : Option (List ℕ)) (mode : Mode) (root : List ℕ) where
  surely : (start len : ℕ) (o c : List ℕ) (has : Bool) → (faultless → never) → JudgesSlice never mode root start len o c has → JudgesSlice faultless mode root start len o c has
  surely start len o c true sure judges = judges
  surely start len o c false sure judges = λ f. judges (sure f)

  group_known : OpensWith outboard outline → OpensWith file copy → (faultless → never) → (g : ℕ) (has : Bool) → JudgesGroupOf never outline copy mode root g has
      → JudgesGroup faultless outboard file mode root g has
  group_known opens also sure g has judges = λ o c at_outboard at_file.
      let o_is : outline ≡ Some o = subst (λ (s : FileState). OpensWith s outline) at_outboard opens in
      let c_is : copy ≡ Some c = subst (λ (s : FileState). OpensWith s copy) at_file also in
      surely (65536 * g) 65536 o c has sure (subst (λ (T : Type 0). T) (λ i. JudgesGroupOf never (o_is i) (c_is i) mode root g has) judges)

  pub all_known : OpensWith outboard outline → OpensWith file copy → (faultless → never) → (had : List Bool) → AreJudged (JudgesGroupOf never outline copy mode root) 0 had
      → AreJudged (JudgesGroup faultless outboard file mode root) 0 had
  all_known opens also sure had are =
      judged_map (JudgesGroupOf never outline copy mode root) (JudgesGroup faultless outboard file mode root) (group_known opens also sure) 0 had are

-- all verdicts are the first of them
damage_part : (faultless : Type 0) (outboard file : FileState) (mode : Mode) (root : List ℕ) (damage : Option Damage) → IsDamageOf faultless outboard file mode root damage
    → IsPartOf faultless outboard file mode root damage
damage_part faultless outboard file mode root None is = tt
damage_part faultless outboard file mode root (Some damage) is = (is.0, omega (arith, is.1), is.2)

weaker : (P Q : Option Damage → Type 0) (asks : Bool) (damage : Option Damage) → (P damage → Q damage) → HasDamage P asks damage → HasDamage Q asks damage
weaker P Q false damage follows has = has
weaker P Q true damage follows has = follows has

pub outcome_part : (faultless : Type 0) (at : List ℕ → FileState) (mode : Mode) (ranges : Bool) (sum : Sum) (outcome : Outcome) → IsOutcomeAt faultless at mode ranges sum outcome
    → IsPartAt faultless at mode ranges sum outcome
outcome_part faultless at mode ranges sum outcome is = (
  is.0,
  weaker (IsDamageOf faultless (at (outboard_path sum.path)) (at sum.path) mode sum.digest) (IsPartOf faultless (at (outboard_path sum.path)) (at sum.path) mode sum.digest)
      (ranges && is_other outcome.verdict) outcome.damage (damage_part faultless (at (outboard_path sum.path)) (at sum.path) mode sum.digest outcome.damage) is.1,
)

none_known : (faultless : Type 0) (outboard file : FileState) (mode : Mode) (root : List ℕ) (asks : Bool) → HasDamage (IsPartOf faultless outboard file mode root) asks None
none_known faultless outboard file mode root false = refl
none_known faultless outboard file mode root true = tt

module _ (faultless : Type 0) (at : List ℕ → FileState) (mode : Mode) (ranges quiet : Bool) (sum : Sum) (verdict : Verdict) where
  pub outcome_done : (asks : Bool) (old mid new : Option (List ℕ)) → IsVerdictAt faultless at mode sum verdict → asks ≡ (ranges && is_other verdict)
      → Appends old mid (verdict_line quiet sum verdict)
      → ((damage : Option Damage) × HasDamage (IsDamageOf faultless (at (outboard_path sum.path)) (at sum.path) mode sum.digest) asks damage × Appends mid new (damage_lines sum.path damage))
      → PrintsOne (IsOutcomeAt faultless at mode ranges) (check_line quiet) sum old new (λ outcome. verdict ≡ outcome.verdict)
  outcome_done asks old mid new is asks_is wrote damage = (
    record { verdict = verdict; damage = damage.0 },
    (is, subst (λ (b : Bool). HasDamage (IsDamageOf faultless (at (outboard_path sum.path)) (at sum.path) mode sum.digest) b damage.0) asks_is damage.1),
    refl,
    Appends-trans old mid new _ _ wrote damage.2,
  )

  -- what a fault leaves, which is one of memory or of standard output
  pub left : (old new : Option (List ℕ)) (fault : FileFault) → (fault ≡ Memory) ⊎ (fault ≡ Output)
      → Keeps old new ⊎ ((outcome : Outcome) × IsPartAt faultless at mode ranges sum outcome × AppendsBeginning old new (check_line quiet sum outcome))
      → LeavesPart (IsPartAt faultless at mode ranges) (check_line quiet) sum old new fault
  left old new (Read path) of leaves = elim of [ inl memory ↦ cc memory | inr output ↦ cc output ]
  left old new (Write path) of leaves = elim of [ inl memory ↦ cc memory | inr output ↦ cc output ]
  left old new Output of leaves = leaves
  left old new Encoding of leaves = elim of [ inl memory ↦ cc memory | inr output ↦ cc output ]
  left old new Memory of leaves = leaves

  pub damage_left : (asks : Bool) (old mid new : Option (List ℕ)) (fault : FileFault) → (fault ≡ Memory) ⊎ (fault ≡ Output) → IsVerdictAt faultless at mode sum verdict
      → asks ≡ (ranges && is_other verdict) → Appends old mid (verdict_line quiet sum verdict)
      → ((damage : Option Damage) × HasDamage (IsPartOf faultless (at (outboard_path sum.path)) (at sum.path) mode sum.digest) asks damage × AppendsBeginning mid new (damage_lines sum.path damage))
      → LeavesPart (IsPartAt faultless at mode ranges) (check_line quiet) sum old new fault
  damage_left asks old mid new fault of is asks_is wrote damage =
      left old new fault of
      (inr (
        record { verdict = verdict; damage = damage.0 },
        (is, subst (λ (b : Bool). HasDamage (IsPartOf faultless (at (outboard_path sum.path)) (at sum.path) mode sum.digest) b damage.0) asks_is damage.1),
        begins_after old mid new (verdict_line quiet sum verdict) (damage_lines sum.path damage.0) wrote damage.2,
      ))

  -- the verdict wasn't printed, or a beginning of it
  verdict_leaves : (old new : Option (List ℕ)) (fault : FileFault) → (fault ≡ Memory) ⊎ (fault ≡ Output) → IsVerdictAt faultless at mode sum verdict
      → Prints (verdict_line quiet sum verdict) old new (Err fault)
      → Keeps old new ⊎ ((outcome : Outcome) × IsPartAt faultless at mode ranges sum outcome × AppendsBeginning old new (check_line quiet sum outcome))
  verdict_leaves old new (Read path) of is printed = inl printed
  verdict_leaves old new (Write path) of is printed = inl printed
  verdict_leaves old new Output of is printed = inr (
    record { verdict = verdict; damage = None },
    (is, none_known faultless (at (outboard_path sum.path)) (at sum.path) mode sum.digest (ranges && is_other verdict)),
    subst (AppendsBeginning old new) (sym (append-nil (verdict_line quiet sum verdict))) printed,
  )
  verdict_leaves old new Encoding of is printed = inl printed
  verdict_leaves old new Memory of is printed = inl printed

  pub verdict_left : (old new : Option (List ℕ)) (fault : FileFault) → (fault ≡ Memory) ⊎ (fault ≡ Output) → IsVerdictAt faultless at mode sum verdict
      → Prints (verdict_line quiet sum verdict) old new (Err fault) → LeavesPart (IsPartAt faultless at mode ranges) (check_line quiet) sum old new fault
  verdict_left old new fault of is printed = left old new fault of (verdict_leaves old new fault of is printed)
