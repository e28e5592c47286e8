use Rattle.gather.proofs.SeatCommon.{List, sym, subst, inl, inr, made_of, IsHanded, IsServed, IsTooLarge, Fixed, fixed_of}
use Rattle.gather.proofs.Serving.{failed_since}
use Rattle.holders.specs.declared.grain.Grain.TheVariants.{Group as ByGroup}
use Rattle.holders.specs.Parts.{HaveParts, IsFor}
use Rattle.gather.proofs.rounds.go_round.Goals as goal

pub returns-clause-fills : goal.returns-clause-fills
returns-clause-fills g c = λ blob is served have.
    let form = c.args.form.now in
    let F : Fixed = fixed_of c.args.assembly.now in
    let same = c.requires.of.knows.fixed_is in
    let gives = made_of form g.H.Holder.gives in
    let value = c.as_mut_slice.ensures.value in
    elim (c.closing_round.ensures.complete blob (subst (λ (f : Fixed). IsFor form f blob) (sym same) is) (subst (λ (f : Fixed). IsServed f blob) (sym same) served)
    (subst (λ (f : Fixed). HaveParts form ByGroup g.H.Holder.gives f.mode blob c.as_mut_slice.result.now) (sym same)
    (subst (λ (holders : List g.row.H.Denot). HaveParts form ByGroup g.H.Holder.gives F.mode blob holders) (sym value) have))) [
      | inl failed ↦ inl (failed_since c.args.crew.now.report c.closing_round.new.report failed)
      | inr (inl large) ↦
          inr (inl (
            large.0,
            subst (λ (holders : List g.row.H.Denot). IsTooLarge (IsHanded gives holders) F) value
                (subst (λ (f : Fixed). IsTooLarge (IsHanded gives c.as_mut_slice.result.now) f) same large.1),
          ))
      | inr (inr both) ↦ inr (inr both)
    ]
