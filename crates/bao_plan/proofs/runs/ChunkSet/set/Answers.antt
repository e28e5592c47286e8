use Rattle.std.proofs.Common.{◌≡◌, ◌∙◌, ◌+◌, ℕ, suc, List, ap, sym, subst, arith, add-one}
use Rattle.std.specs.List.{insert}
use Rattle.std.specs.Result.{is_ok}
use Rattle.bao_plan.specs.declared.runs.Run.{Run}
use Rattle.bao_plan.specs.Sets.{index_of, mask_at}
use Rattle.bao_plan.proofs.Results.{on_err}
use Rattle.bao_plan.proofs.RunLemmas.{AreSorted, index_most, put_here, run, sorted_begun, sorted_either, sorted_put, split_same}
use Rattle.bao_plan.proofs.runs.ChunkSet.set.Goals as goal

pub insert-requires : goal.insert-requires
insert-requires c = omega (arith, index_most c.args.self.now.runs.items c.args.group, c.args.self.now.runs.ok.0)

pub overflow_add-index : goal.overflow_add-index
overflow_add-index c = omega (arith, index_most c.args.self.now.runs.items c.args.group, c.args.self.now.runs.ok, c.args.self.now.runs.small)

pub insert-requires-2 : goal.insert-requires-2
insert-requires-2 c = omega (arith, index_most c.args.self.now.runs.items c.args.group, c.args.self.now.runs.ok, c.in_ok-insert.ensures.len)

pub overflow_add-index-2 : goal.overflow_add-index-2
overflow_add-index-2 c = omega (arith, index_most c.args.self.now.runs.items c.args.group, c.args.self.now.runs.ok, c.args.self.now.runs.small)

pub overflow_add-index-3 : goal.overflow_add-index-3
overflow_add-index-3 c = omega (arith, index_most c.args.self.now.runs.items c.args.group, c.args.self.now.runs.ok, c.args.self.now.runs.small)

-- the first run that is put in
begun : (runs : List Run) (group index before : ℕ) → index ≡ index_of runs group → before ≡ mask_at runs group → insert runs index (run group before) ≡ insert runs (index_of runs group) (run group (mask_at runs group))
begun runs group index before i m = ap (λ n. insert runs n (run group before)) i ∙ ap (λ n. insert runs (index_of runs group) (run group n)) m

pub invariant_of-self-2 : goal.invariant_of-self-2
invariant_of-self-2 c =
    let runs = c.args.self.now.runs.items in
    let group = c.args.group in
    let first = run group (mask_at runs group) in
    let last = run (group + 1) c.args.mask in
    let is = c.in_ok-insert.ensures.items ∙ begun runs group c.index_of-index.result c.mask-before.result c.index_of-index.ensures c.mask-before.ensures in
    let second : insert c.insert.new.self.items (c.index_of-index.result + 1) last ≡ insert (insert runs (index_of runs group) first) (suc (index_of runs group)) last =
    ap (λ rs. insert rs (c.index_of-index.result + 1) last) is ∙ ap (λ n. insert (insert runs (index_of runs group) first) n last) (ap (λ n. n + 1) c.index_of-index.ensures ∙ add-one (index_of runs group)) in
    record {
      sorted = subst AreSorted (sym c.insert-2.ensures.items)
          (sorted_either (is_ok c.insert-2.result) (insert c.insert.new.self.items (c.index_of-index.result + 1) last) c.insert.new.self.items
          (subst AreSorted (sym second) (sorted_put runs group (mask_at runs group) c.args.mask c.args.self.now.sorted))
          (subst AreSorted (sym is) (sorted_begun runs group (mask_at runs group) c.args.self.now.sorted)));
    }

pub returns-in_err-insert-2-clause-err : goal.returns-in_err-insert-2-clause-err
returns-in_err-insert-2-clause-err c =
    let runs = c.args.self.now.runs.items in
    on_err c.from_residual-in_err-insert-2.result ((g : ℕ) → mask_at c.insert-2.new.self.items g ≡ mask_at runs g)
    (λ g. ap (λ rs. mask_at rs g) (c.in_err-insert-2.ensures.items ∙ (c.in_ok-insert.ensures.items ∙ begun runs c.args.group c.index_of-index.result c.mask-before.result c.index_of-index.ensures c.mask-before.ensures))
    ∙ split_same runs c.args.group g)

pub returns-clause-ok : goal.returns-clause-ok
returns-clause-ok c = λ g.
    let runs = c.args.self.now.runs.items in
    let last = run (c.args.group + 1) c.args.mask in
    c.tidy-4.ensures g ∙ (c.tidy-3.ensures g ∙ (c.tidy-2.ensures g ∙ (c.tidy.ensures g
    ∙ (ap (λ rs. mask_at rs g) (c.in_ok-insert-2.ensures.items
    ∙ (ap (λ rs. insert rs (c.index_of-index.result + 1) last) (c.in_ok-insert.ensures.items ∙ begun runs c.args.group c.index_of-index.result c.mask-before.result c.index_of-index.ensures c.mask-before.ensures)
    ∙ ap (λ n. insert (insert runs (index_of runs c.args.group) (run c.args.group (mask_at runs c.args.group))) n last) (ap (λ n. n + 1) c.index_of-index.ensures ∙ add-one (index_of runs c.args.group))))
    ∙ put_here runs c.args.group g c.args.mask))))
