use Rattle.std.proofs.Common.{rules, ◌≡◌, ◌∙◌, sym}
use Rattle.store_shared.specs.Seats.{fixed_of}
use Rattle.berylwool.proofs.Stores.{same_fixed}
use Rattle.berylwool.proofs.joining.are_alike.Goals as goal

pub returns : goal.returns
returns c =
    let capacity : c.fixed-fixed.result.capacity ≡ c.capacity.result = search rules in
    let base : c.fixed-fixed.result.base ≡ c.base.result = search rules in (
      λ so.
          let both = c.is_of.ensures.0 so in
          sym c.fixed-fixed.ensures ∙ same_fixed c.fixed-fixed.result (fixed_of c.args.other.now) (sym both.0 ∙ c.root.ensures) (sym both.1 ∙ c.mode.ensures) (capacity ∙ c.capacity.ensures) (base ∙ c.base.ensures),
      λ is. c.is_of.ensures.1
          (c.root.ensures ∙ (λ i. (sym is i).root) ∙ (λ i. (sym c.fixed-fixed.ensures i).root), c.mode.ensures ∙ (λ i. (sym is i).mode) ∙ (λ i. (sym c.fixed-fixed.ensures i).mode)),
    )
