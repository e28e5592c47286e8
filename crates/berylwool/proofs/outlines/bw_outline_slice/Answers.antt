use Rattle.std.proofs.Common.{◌≤◌, ◌∙◌, ◌*◌, Option, Some, length, subst, sym}
use Rattle.bao_check.specs.Accepted.{IsAccepted, slice_nodes}
use Rattle.bao_check.specs.Bare.{bare_part}
use Rattle.berylwool.specs.declared.owned.Held.{Held}
use Rattle.berylwool.specs.declared.outlined.Outlined.{Outlined}
use Rattle.berylwool.specs.Handles.{HasOutline}
use Rattle.berylwool.specs.Outlines.{AreBeside, AreNotBeside, bare_text, outlined_mode, outlined_root, outlined_text}
use Rattle.berylwool.proofs.outlines.bw_outline_slice.Goals as goal

pub returns-clause-slice : goal.returns-clause-slice
returns-clause-slice c = λ ok.
    let so : Outlined → Type 0 = λ it. IsAccepted (outlined_mode it) (outlined_root it) (bare_text (outlined_text it) c.args.which.now.first c.args.which.now.count c.args.chunks.now)
    (slice_nodes (bare_text (outlined_text it) c.args.which.now.first c.args.which.now.count c.args.chunks.now) (1024 * c.args.which.now.first) (bare_part c.args.which.now.count)) in
    subst (λ (o : Option Held). HasOutline so o) c.in-Some.ensures.held
    (subst (λ (h : Held). HasOutline so (Some h)) (sym (sym c.deref_mut.ensures.value ∙ c.in-Outline.is)) (subst so c.deref.ensures (c.sliced-status.ensures.slice ok)))

pub returns-clause-accepted : goal.returns-clause-accepted
returns-clause-accepted c =
    let so : Outlined → Type 0 = AreBeside c.args.which.now.first c.args.which.now.count c.args.chunks.now in (
      (λ way.
          subst (λ (o : Option Held). HasOutline so o) c.in-Some.ensures.held
          (subst (λ (h : Held). HasOutline so (Some h)) (sym (sym c.deref_mut.ensures.value ∙ c.in-Outline.is)) (subst so c.deref.ensures (c.sliced-status.ensures.accepted.0 way)))),
      (λ has.
          c.sliced-status.ensures.accepted.1
          (subst so (sym c.deref.ensures) (subst (λ (h : Held). HasOutline so (Some h)) (sym c.deref_mut.ensures.value ∙ c.in-Outline.is) (subst (λ (o : Option Held). HasOutline so o) (sym c.in-Some.ensures.held) has)))),
    )

pub returns-clause-fault : goal.returns-clause-fault
returns-clause-fault c = λ low high.
    let so : Outlined → Type 0 = AreNotBeside c.args.which.now.first c.args.which.now.count c.args.chunks.now c.sliced-status.result c.sliced-status.new.at in
    subst (λ (o : Option Held). HasOutline so o) c.in-Some.ensures.held
    (subst (λ (h : Held). HasOutline so (Some h)) (sym (sym c.deref_mut.ensures.value ∙ c.in-Outline.is)) (subst so c.deref.ensures (c.sliced-status.ensures.fault low high)))

pub returns-clause-fits : goal.returns-clause-fits
returns-clause-fits c = λ way.
    let so : Outlined → Type 0 = λ it. length (bare_text (outlined_text it) c.args.which.now.first c.args.which.now.count c.args.chunks.now) ≤ length c.args.out.now in
    subst (λ (o : Option Held). HasOutline so o) c.in-Some.ensures.held
    (subst (λ (h : Held). HasOutline so (Some h)) (sym (sym c.deref_mut.ensures.value ∙ c.in-Outline.is)) (subst so c.deref.ensures (c.sliced-status.ensures.fits way)))
