use Rattle.std.proofs.Common.{◌≡◌, ◌+◌, ◌-◌, ◌∙◌, ◌++◌, Bool, List, Ok, IfOk, length, slice_index_or, ap, sym, subst, arith}
use Rattle.bao_sums.specs.Damage.{AreJudged}
use Rattle.bao_sums.specs.Judged.{IsShare, JudgesGroupOf, share_start}
use Rattle.bao_sums.proofs.Runs.{share_more}
use Rattle.bao_sums.proofs.damage.judge_round.Goals as goal

pub shares-preserved : goal.shares-preserved
shares-preserved g c =
    let Judges = JudgesGroupOf (g.S.Source.faultless c.args.outboard.now × g.S.Source.faultless c.args.copy.now) (g.S.Source.contents c.args.outboard.now) (g.S.Source.contents c.args.copy.now)
    c.args.mode.now c.args.root.now.0 in
    let first = c.args.first in
    let end = c.args.end in
    let i = c.shares.share-index in
    let item = c.share-item.result in
    let had : List Bool = c.shares.had.items in
    let more : List Bool = c.in-Ok.more.items in
    let there : slice_index_or c.in_ok-shares.shares.items i item ≡ Ok c.in-Ok.more =
    ap (λ xs. slice_index_or xs i item) (sym c.deref-share-items.ensures.value) ∙ sym c.share-item.is ∙ c.in-Ok.is in
    let share : IsShare Judges first end i more =
    subst (λ r. IfOk r (λ had. IsShare Judges first end i had.items)) there (c.in_ok-shares.ensures.each i item (omega (arith, c.shares-test.true, c.deref-share-items.ensures.len))) in
    let items : c.extend_from_slice.new.self.items ≡ had ++ more = c.in_ok-extend_from_slice-in-Ok.ensures.items ∙ ap (λ (xs : List Bool). had ++ xs) c.as_slice.ensures.value in
    subst (λ (xs : List Bool). (length xs ≡ share_start first end (i + 1) - first) × AreJudged Judges first xs) (sym items)
    (share_more Judges first end i had more (omega (arith, c.requires.order)) c.shares.invariant.0 c.shares.invariant.1 share)
