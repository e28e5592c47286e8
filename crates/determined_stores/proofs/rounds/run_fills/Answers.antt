use Rattle.std.proofs.Common.{◌≡◌, List, false, slice_index_or, subst, inl, inr}
use Rattle.b3tree.specs.Valid.{IsKeyed}
use Rattle.b3tree.specs.declared.mode.Mode.{Mode}
use Rattle.gather.specs.declared.crew.Crew.{Crew}
use Rattle.gather.proofs.Forming.{slices_parts}
use Rattle.holders.specs.declared.form.Form.TheVariants.{Slices}
use Rattle.holders.specs.declared.grain.Grain.TheVariants.{Group as ByGroup}
use Rattle.holders.specs.declared.fixed.Fixed.{Fixed}
use Rattle.store_core.specs.Views.{seat_claims}
use Rattle.store_shared.specs.Seats.{fixed_of}
use Rattle.determined_stores.proofs.AloneFilling.{every_chunk}
use Rattle.determined_stores.proofs.rounds.run_fills.Goals as goal

pub returns : goal.returns
returns g c = λ blob is first room.
    let gives = g.H.Holder.gives in
    let F : Fixed = fixed_of c.args.assembly.now in
    let olds : List (Crew g.row.H.Denot) = c.args.crews.now in
    let filled = c.run.ensures.available blob is first room in
    record {
      len = filled.len;
      each = λ i d below have.
          let worked = c.run.ensures.each.each i d below in
          elim (filled.each i d below (slices_parts Slices ByGroup gives F.mode blob (slice_index_or olds i d).holders.items tt have)) [
            | inl failed ↦ inl failed
            | inr (inl large) ↦ inr (inl large)
            | inr (inr (chunks, parents)) ↦
                inr (inr (every_chunk olds F (slice_index_or olds i d).seat (slice_index_or c.run.new.crews i d).seat blob
                (subst (λ (mode : Mode). IsKeyed mode) c.mode.ensures c.is_keyed.ensures) is worked.of.knows.fixed_is worked.of.knows.legal
                (λ crew n among. subst (λ (x : Crew g.row.H.Denot). seat_claims x.seat.view n ≡ false) among.2 (c.requires.free among.0 crew among.1 n))
                (c.requires.free i d below) chunks))
          ];
    }
