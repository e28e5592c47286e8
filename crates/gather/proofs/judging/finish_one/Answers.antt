use Rattle.gather.proofs.Common.{◌≡◌, ◌≤◌, ◌*◌, ℕ, [], inl, inr, arith, length, refl, sym, subst, ◌∙◌, IsErrOf, OnOk, Result, IsKeyed, hash, Fixed, State, fixed_of, state_of}
use Rattle.gather.proofs.Finishing.{binds_found, failed, finished, judged_at, no_none, some_same}
use Rattle.gather.specs.declared.fault.FinishFault.{FinishFault}
use Rattle.gather.specs.declared.fault.FinishFault.TheVariants.{NotTheRoot, Unfinished}
use Rattle.gather.specs.Finished.{IsWhole, Judges}
use Rattle.gather.proofs.judging.finish_one.Goals as goal

pub returns-in-None-clause-finishes : goal.returns-in-None-clause-finishes
returns-in-None-clause-finishes c = failed _ _ _ Unfinished (λ _. refl) (λ _. inl (sym (c.in-None.ensures.event []).right)) (λ e. cc)

pub read_all-requires : goal.read_all-requires
read_all-requires c = sym (c.in-Some.ensures.event []).right

pub returns-in_err-blob-clause-finishes : goal.returns-in_err-blob-clause-finishes
returns-in_err-blob-clause-finishes c = record {
  blob = grind arith;
  no_length = λ none. absurd (no_none _ c.in-Some.length (sym (c.in-Some.ensures.event []).right) none);
  unfinished = λ e. let told : IsErrOf c.read_all.result Unfinished = grind arith in inr (c.read_all.ensures.lacks told);
  other = λ e. let told : IsErrOf c.read_all.result NotTheRoot = grind arith in absurd (c.read_all.ensures.never told);
}

pub returns-clause-finishes : goal.returns-clause-finishes
returns-clause-finishes c =
    let store = c.args.store.now in
    let bytes = c.in_ok-blob.blob.items in
    let judged : Judges (fixed_of store) bytes c.judge.result =
    judged_at _ _ _ _ _ c.judge.result c.fixed-fixed.ensures c.as_slice.ensures.value c.hash.ensures.value c.judge.ensures.judges in
    let long : c.in-Some.length ≡ length bytes = some_same _ _ ((c.in-Some.ensures.event []).right ∙ c.in_ok-blob.ensures.whole.recorded) in
    finished _ (fixed_of store) (state_of store) c.in_ok-blob.blob (record {
      whole = c.in_ok-blob.ensures.whole;
      root = subst (λ (r : Result Unit FinishFault). OnOk r (hash (fixed_of store).mode bytes ≡ (fixed_of store).root.0)) c.in_ok-judge.was judged.root;
      fits = subst (λ (l : ℕ). l ≤ 1024 * (fixed_of store).capacity) long c.in-Some.ensures.fits;
    })

pub returns-clause-binds : goal.returns-clause-binds
returns-clause-binds c = λ by.
    binds_found _ (fixed_of c.args.store.now) by.history c.in_ok-blob.blob
    (subst (λ (fixed : Fixed). IsKeyed fixed.mode) c.fixed-fixed.ensures c.is_keyed.ensures) by.legal
    (subst (λ (s : State). IsWhole s c.in_ok-blob.blob.items) (sym by.is) c.in_ok-blob.ensures.whole)
