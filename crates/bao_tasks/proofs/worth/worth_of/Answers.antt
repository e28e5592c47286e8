use Rattle.std.proofs.Common.{◌≡◌, ◌∙◌, ℕ, ◌+◌, ◌-◌, ◌*◌, ◌≤◌, Bool, false, true, List, subst, arith}
use Rattle.bao_tasks.specs.Worth.{GoesOn, HasChunks, HasGroup, IsWorth, JudgesGroup, Refuses, groups_of}
use Rattle.bao_tasks.proofs.Counting.{more, none, rest}
use Rattle.bao_tasks.proofs.Said.{said_always, said_both}
use Rattle.bao_tasks.proofs.worth.worth_of.Goals as goal

pub loop-group-init : goal.loop-group-init
loop-group-init g c =
    let good : List ℕ → ℕ → Type 0 = (λ bytes. HasGroup c.args.wanted.now.form c.args.wanted.now.mode c.args.wanted.now.root.0 bytes) in
    (said_always _ _ (λ bytes. Refuses (good bytes) 0 0) (λ bytes. none (good bytes)), omega arith)

-- the verdict of a slice is that of its group, where the encoding goes on
on_cut : (verdict : Bool) (P Q : Type 0) → P → JudgesGroup verdict Q → JudgesGroup verdict (P × Q)
on_cut true P Q p not = λ both. not both.1
on_cut false P Q p is = (p, is)

pub loop-group-preserved : goal.loop-group-preserved
loop-group-preserved g c =
    let wanted = c.args.wanted.now in
    let good : List ℕ → ℕ → Type 0 = (λ bytes. HasGroup wanted.form wanted.mode wanted.root.0 bytes) in
    let n : ℕ = c.loop-group.group in
    let k : ℕ = c.loop-group.refused in
    let d : ℕ = c.one_if-refused.result in (
      said_both _ _ (λ bytes. JudgesGroup c.in_ok-verdict.verdict (good bytes n)) (λ bytes. Refuses (good bytes) n k) (λ bytes. Refuses (good bytes) (n + 1) (k + d))
          (λ bytes judged before. more (good bytes) n k d c.in_ok-verdict.verdict judged c.one_if-refused.ensures.value before)
          (said_both _ _ (λ bytes. GoesOn wanted.form bytes n) (λ bytes. JudgesGroup c.in_ok-verdict.verdict (HasChunks wanted.form wanted.mode wanted.root.0 (64 * n) 64 bytes))
          (λ bytes. JudgesGroup c.in_ok-verdict.verdict (good bytes n)) (λ bytes goes verdict. on_cut c.in_ok-verdict.verdict (GoesOn wanted.form bytes n) _ goes verdict)
          (c.has_ended.ensures.goes c.if-has_ended.false) c.in_ok-verdict.ensures) c.loop-group.invariant.0,
      omega (arith, c.loop-group.invariant.1, c.one_if-refused.ensures.most),
    )

pub returns-clause-worth : goal.returns-clause-worth
returns-clause-worth g c =
    let wanted = c.args.wanted.now in
    let good : List ℕ → ℕ → Type 0 = (λ bytes. HasGroup wanted.form wanted.mode wanted.root.0 bytes) in
    let all : c.loop-group.group ≡ c.groups_of-groups.result = omega arith in
    said_both _ _ (λ bytes. c.groups_of-groups.result ≡ groups_of wanted.form bytes) (λ bytes. Refuses (good bytes) c.loop-group.group c.loop-group.refused)
    (λ bytes. IsWorth (good bytes) (groups_of wanted.form bytes) (record { groups = c.groups_of-groups.result; refused = c.loop-group.refused }))
    (λ bytes asked refuses. record {
      asked = asked;
      refuses = subst (λ (n : ℕ). Refuses (good bytes) n c.loop-group.refused) (all ∙ asked) refuses;
    }) c.groups_of-groups.ensures.value c.loop-group.invariant.0

pub returns-then-has_ended-clause-worth : goal.returns-then-has_ended-clause-worth
returns-then-has_ended-clause-worth g c =
    let wanted = c.args.wanted.now in
    let good : List ℕ → ℕ → Type 0 = (λ bytes. HasGroup wanted.form wanted.mode wanted.root.0 bytes) in
    let n : ℕ = c.loop-group.group in
    let k : ℕ = c.loop-group.refused in
    let groups : ℕ = c.groups_of-groups.result in
    let m : ℕ = groups - n in
    let all : n + m ≡ groups = omega (arith, c.loop-group-test.true) in
    said_both _ _ (λ bytes. groups ≡ groups_of wanted.form bytes) (λ bytes. Refuses (good bytes) (n + m) (k + m))
    (λ bytes. IsWorth (good bytes) (groups_of wanted.form bytes) (record { groups = groups; refused = k + m }))
    (λ bytes asked refuses. record {
      asked = asked;
      refuses = subst (λ (j : ℕ). Refuses (good bytes) j (k + m)) (all ∙ asked) refuses;
    }) c.groups_of-groups.ensures.value
    (said_both _ _ (λ bytes. (j : ℕ) → n ≤ j → ¬ GoesOn wanted.form bytes j) (λ bytes. Refuses (good bytes) n k) (λ bytes. Refuses (good bytes) (n + m) (k + m))
    (λ bytes over before. rest (good bytes) n k m (λ j after both. over j after both.0) before) (c.has_ended.ensures.ends c.if-has_ended.true) c.loop-group.invariant.0)
