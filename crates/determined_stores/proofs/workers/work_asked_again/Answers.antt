use Rattle.std.proofs.Common.{◌≡◌, ◌^◌, ◌-◌, inl, inr, subst, sym}
use Rattle.holders.specs.declared.grain.Grain.TheVariants.{Group as ByGroup}
use Rattle.gather.proofs.Reporting.{large_wider}
use Rattle.gather.proofs.Serving.{later_slice}
use Rattle.holders.specs.Available.{HaveSlices, IsServed}
use Rattle.holders.specs.Holders.{IsHanded}
use Rattle.holders.specs.Blobs.{IsTooLarge}
use Rattle.holders.specs.declared.fixed.Fixed.{Fixed}
use Rattle.determined_stores.proofs.workers.work_asked_again.Goals as goal

pub returns : goal.returns
returns g c = λ blob served have.
    let gives = g.H.Holder.gives in
    let first = c.work.ensures in
    let second = c.work-2.ensures in
    let F : Fixed = g.S.Shelf.fixed_of c.args.seat.now in
    let mid = c.work.new.seat in
    let same : g.S.Shelf.fixed_of mid ≡ F = g.S.Shelf.goes.keeps _ _ _ _ _ first.reports.gains in
    let later : HaveSlices ByGroup gives F.mode blob c.work.new.holders = record {
      end = later_slice gives F.mode blob (2 ^ 64 - 1) 1 c.args.holders.now c.work.new.holders first.later have.end;
      each = λ n start len below asked. later_slice gives F.mode blob start len c.args.holders.now c.work.new.holders first.later (have.each n start len below asked);
    } in
    elim (second.served blob (subst (λ (f : Fixed). IsServed f blob) (sym same) served) (subst (λ (f : Fixed). HaveSlices ByGroup gives f.mode blob c.work.new.holders) (sym same) later)) [
      | inl failed ↦ inl failed
      | inr (inl large) ↦
          inr (inl (large.0, large_wider _ (IsHanded gives c.args.holders.now) first.reports.no_more F (subst (λ (f : Fixed). IsTooLarge (IsHanded gives c.work.new.holders) f) same large.1)))
      | inr (inr filled) ↦
          inr (inr (record {
            recorded = filled.recorded;
            is = filled.is;
            chunks = λ long n below. elim (filled.chunks long n below) [
              | inl held ↦ inl held
              | inr busy ↦ elim (g.S.Shelf.lasts.frees _ _ _ _ first.reports.chunks first.reports.parents n first.reports.gains first.claims busy) [
                | inl was ↦ inr was
                | inr held ↦ inl (g.S.Shelf.lasts.chunk _ _ _ second.reports.chunks second.reports.parents n second.reports.gains held)
              ]
            ];
          }))
    ]
