use Rattle.std.proofs.Common.{ℕ, List, [], ◌∷◌, slice_index_or, subst, inl, inr, arith}
use Rattle.std.proofs.lemmas.Bool.{both_ways}
use Rattle.b3tree.specs.Valid.{IsKeyed}
use Rattle.b3tree.specs.declared.mode.Mode.{Mode}
use Rattle.gather.specs.Crews.{Each, Worked}
use Rattle.gather.specs.Filling.{Fills, IsBusyBeside}
use Rattle.gather.specs.declared.crew.Crew.{Crew}
use Rattle.gather.proofs.Forming.{slices_parts}
use Rattle.holders.specs.declared.form.Form.TheVariants.{Slices}
use Rattle.holders.specs.declared.grain.Grain.TheVariants.{Group as ByGroup}
use Rattle.holders.specs.declared.fixed.Fixed.{Fixed}
use Rattle.store_shared.specs.Seats.{fixed_of}
use Rattle.determined_stores.proofs.AloneFilling.{every_node}
use Rattle.determined_stores.proofs.rounds.run_alone_fills.Goals as goal

pub returns : goal.returns
returns g c = λ blob is first room have.
    let gives = g.H.Holder.gives in
    let F : Fixed = fixed_of c.args.assembly.now in
    let old : Crew g.row.H.Denot = c.args.crew.now in
    let news : List (Crew g.row.H.Denot) = c.run.new.crews in
    let worked = (subst (λ (crews : List (Crew g.row.H.Denot)). Each (Worked c.args.assembly.now gives g.H.Holder.count) crews news) c.from_mut.ensures.value c.run.ensures.each).each 0 old (omega arith) in
    let fills =
    (subst (λ (crews : List (Crew g.row.H.Denot)). Each (Fills Slices gives F blob (IsBusyBeside crews)) crews news) c.from_mut.ensures.value (c.run.ensures.available blob is first room)).each 0 old (omega arith) in
    elim (fills (slices_parts Slices ByGroup gives F.mode blob old.holders.items tt have)) [
      | inl failed ↦ inl failed
      | inr (inl large) ↦ inr (inl large)
      | inr (inr (filled, full)) ↦
          let never : (n : ℕ) → IsBusyBeside (old ∷ []) old.seat (slice_index_or news 0 old).seat n → ⊥ = λ n busy. elim busy [
            | inl claims ↦ both_ways _ (c.requires.free n) claims
            | inr (others, is) ↦ others c.requires.alone
          ] in
          inr (inr (every_node _ F old.seat _ _ _ blob (IsBusyBeside (old ∷ [])) (subst (λ (mode : Mode). IsKeyed mode) c.mode.ensures c.is_keyed.ensures) is worked.of.knows.fixed_is worked.of.knows.legal worked.reports.gains
          c.requires.alone.all never filled full))
    ]
