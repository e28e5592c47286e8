-- Verdicts on groups, one after another, and the lines of the runs of those that a file lacks.
use Rattle.std.proofs.Common.{◌≡◌, ℕ, zero, suc, ◌+◌, ◌-◌, ◌<◌, ◌≤◌, Bool, List, [], ◌∷◌, ◌++◌, length, Option, None, Some, Result, Ok, Err, IfOk, OnOk, OnErr, refl, ap, sym, subst, ◌∙◌, arith, length-append}
use Rattle.std.proofs.KnownBytes.{Appends-nil, Appends-trans}
use Rattle.std.proofs.Math.Seq.{take-append-add}
use Rattle.std.proofs.lemmas.List.{append-nil, append_assoc}
use Rattle.std.specs.Prelude.{slice_get, slice_index_or}
use Rattle.std.specs.Io.KnownBytes.{Appends}
use Rattle.bao_files.specs.Printed.{AppendsBeginning}
use Rattle.bao_sums.specs.Damage.{AreJudged, ended_line, run_after, run_line, run_lines}
use Rattle.bao_sums.specs.Judged.{IsShare, share_start}

module _ (Judges : ℕ → Bool → Type 0) where
  judged_along : (g h : ℕ) (had : List Bool) → g ≡ h → AreJudged Judges g had → AreJudged Judges h had
  judged_along g h had is are = subst (λ (n : ℕ). AreJudged Judges n had) is are

  pub judged_append : (g at : ℕ) (had more : List Bool) → AreJudged Judges g had → at ≡ g + length had → AreJudged Judges at more → AreJudged Judges g (had ++ more)
  judged_append g at [] more are is next = judged_along at g more (omega (arith, is)) next
  judged_append g at (has ∷ had) more are is next = (are.0, judged_append (g + 1) at had more are.1 (omega (arith, is)) next)

  pub judged_push : (g at : ℕ) (had : List Bool) (has : Bool) → AreJudged Judges g had → at ≡ g + length had → Judges at has → AreJudged Judges g (had ++ has ∷ [])
  judged_push g at had has are is one = judged_append g at had (has ∷ []) are is (one, tt)

  judged_get : (had : List Bool) (g i : ℕ) (has : Bool) → AreJudged Judges g had → slice_get had i ≡ Some has → Judges (g + i) has
  judged_get [] g i has are is = cc is
  judged_get (x ∷ had) g zero has are is =
      let same : x ≡ has = cc is in
      let at : g ≡ g + 0 = omega arith in
      subst (λ (n : ℕ). Judges n has) at (subst (Judges g) same are.0)
  judged_get (x ∷ had) g (suc i) has are is =
      let at : (g + 1) + i ≡ g + suc i = omega arith in
      subst (λ (n : ℕ). Judges n has) at (judged_get had (g + 1) i has are.1 is)

  pub judged_at : (had : List Bool) (g at : ℕ) (has : Bool) → AreJudged Judges g had → g ≤ at → slice_get had (at - g) ≡ Some has → Judges at has
  judged_at had g at has are below is =
      let back : g + (at - g) ≡ at = omega (arith, below) in
      subst (λ (n : ℕ). Judges n has) back (judged_get had g (at - g) has are is)

  pub judged_first : (had : List Bool) (g : ℕ) (has : Bool) → AreJudged Judges g had → 0 < length had → has ≡ slice_index_or had 0 has → Judges g has
  judged_first [] g has are some is = absurd (omega (arith, some))
  judged_first (x ∷ had) g has are some is = subst (Judges g) (sym is) are.0

  -- one more share
  pub share_more : (first end share : ℕ) (had more : List Bool) → first ≤ end → length had ≡ share_start first end share - first → AreJudged Judges first had
      → IsShare Judges first end share more → (length (had ++ more) ≡ share_start first end (share + 1) - first) × AreJudged Judges first (had ++ more)
  share_more first end share had more order long are is = (
    omega (arith, order, long, is.0, length-append had more),
    judged_append first (share_start first end share) had more are (omega (arith, order, long)) is.1,
  )

  pub share_made : {X E : Type 0} (items : X → List Bool) (made : Result X E) (first end share from to : ℕ) → from ≡ share_start first end share → to ≡ share_start first end (share + 1)
      → IfOk made (λ x. length (items x) ≡ to - from) → IfOk made (λ x. AreJudged Judges from (items x)) → IfOk made (λ x. IsShare Judges first end share (items x))
  share_made items (Err e) first end share from to from_is to_is long are = tt
  share_made items (Ok x) first end share from to from_is to_is long are = (omega (arith, from_is, to_is, long), judged_along from (share_start first end share) (items x) from_is are)

module _ (Judges Other : ℕ → Bool → Type 0) (follows : (g : ℕ) (has : Bool) → Judges g has → Other g has) where
  pub judged_map : (g : ℕ) (had : List Bool) → AreJudged Judges g had → AreJudged Other g had
  judged_map g [] are = tt
  judged_map g (has ∷ had) are = (follows g has are.0, judged_map (g + 1) had are.1)

-- some text was printed, and then a beginning of more
pub begins_after : (old mid new : Option (List ℕ)) (before text : List ℕ) → Appends old mid before → AppendsBeginning mid new text → AppendsBeginning old new (before ++ text)
begins_after old mid new before text first then =
    (length before + then.0, subst (Appends old new) (sym (take-append-add before text then.0)) (Appends-trans old mid new _ _ first then.1))

-- the verdicts so far, on the groups before group g, and what was printed: the lines that they end
pub record IsSoFar (Judges : ℕ → Bool → Type 0) (line : ℕ → ℕ → List ℕ) (old new : Option (List ℕ)) (since : Option ℕ) (g : ℕ) : Type 0 where
  pub had : List Bool
  pub text : List ℕ
  pub long : length had ≡ g
  pub judged : AreJudged Judges 0 had
  pub wrote : Appends old new text
  pub runs : (more : List Bool) → run_lines line None 0 (had ++ more) ≡ text ++ run_lines line since g more

module _ (Judges : ℕ → Bool → Type 0) (line : ℕ → ℕ → List ℕ) where
  pub none_so_far : (known : Option (List ℕ)) → IsSoFar Judges line known known None 0
  none_so_far known = record { had = []; text = []; long = refl; judged = tt; wrote = Appends-nil known; runs = λ more. refl }

  pub one_so_far : (old mid new : Option (List ℕ)) (since after : Option ℕ) (g : ℕ) (has : Bool) → IsSoFar Judges line old mid since g → Judges g has
      → after ≡ run_after since g has → Appends mid new (ended_line line since g has) → IsSoFar Judges line old new after (g + 1)
  one_so_far old mid new since after g has it one is wrote =
      let ended : List ℕ = ended_line line since g has in
      record {
        had = it.had ++ has ∷ [];
        text = it.text ++ ended;
        long = omega (arith, it.long, length-append it.had (has ∷ []));
        judged = judged_push Judges 0 g it.had has it.judged (omega (arith, it.long)) one;
        wrote = Appends-trans old mid new _ _ it.wrote wrote;
        runs = λ more.
            ap (run_lines line None 0) (append_assoc it.had (has ∷ []) more) ∙ it.runs (has ∷ more)
            ∙ ap (λ (o : Option ℕ). it.text ++ (ended ++ run_lines line o (g + 1) more)) (sym is)
            ∙ sym (append_assoc it.text ended (run_lines line after (g + 1) more));
      }

  all_so_far : (old new : Option (List ℕ)) (since : Option ℕ) (g : ℕ) (it : IsSoFar Judges line old new since g) → it.text ++ run_line line since g ≡ run_lines line None 0 it.had
  all_so_far old new since g it = sym (it.runs []) ∙ ap (run_lines line None 0) (append-nil it.had)

  -- the line of the last run was printed
  pub done_so_far : (old mid new : Option (List ℕ)) (since : Option ℕ) (g groups : ℕ) → IsSoFar Judges line old mid since g → g ≡ groups → Appends mid new (run_line line since groups)
      → (had : List Bool) × (length had ≡ groups) × AreJudged Judges 0 had × Appends old new (run_lines line None 0 had)
  done_so_far old mid new since g groups it is wrote =
      (it.had, it.long ∙ is, it.judged, subst (Appends old new) (all_so_far old mid since g it) (Appends-trans old mid new _ _ it.wrote (subst (λ (n : ℕ). Appends mid new (run_line line since n)) (sym is) wrote)))

  -- or a beginning of it
  pub part_so_far : (old mid new : Option (List ℕ)) (since : Option ℕ) (g groups : ℕ) → IsSoFar Judges line old mid since g → g ≤ groups → AppendsBeginning mid new (run_line line since g)
      → (had : List Bool) × (length had ≤ groups) × AreJudged Judges 0 had × AppendsBeginning old new (run_lines line None 0 had)
  part_so_far old mid new since g groups it within wrote =
      (it.had, omega (arith, it.long, within), it.judged, subst (AppendsBeginning old new) (all_so_far old mid since g it) (begins_after old mid new it.text (run_line line since g) it.wrote wrote))

-- nothing more was printed
pub nothing_more : (known : Option (List ℕ)) (text : List ℕ) → AppendsBeginning known known text
nothing_more known text = (0, Appends-nil known)

pub err_such : {X E P : Type 0} (result : Result X E) → P → OnErr result P
err_such (Ok x) p = tt
err_such (Err e) p = p

pub ok_then : {X E P Q : Type 0} (result : Result X E) → (P → Q) → OnOk result P → OnOk result Q
ok_then (Ok x) follows p = follows p
ok_then (Err e) follows p = tt

pub err_then : {X E P Q : Type 0} (result : Result X E) → (P → Q) → OnErr result P → OnErr result Q
err_then (Ok x) follows p = tt
err_then (Err e) follows p = follows p
