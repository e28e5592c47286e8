-- A handle that has a check in pieces, and the size that it wants, as C is told it.
use Rattle.std.proofs.Common.{◌≡◌, Option, Some, sym, subst}
use Rattle.std.specs.Global.{Box}
use Rattle.bao_check.specs.declared.checking.Checking.{Checking}
use Rattle.berylwool.specs.declared.owned.Held.{Held}
use Rattle.berylwool.specs.declared.owned.Held.TheVariants.{Feed}
use Rattle.berylwool.specs.Handles.{HasFeed}

-- what is so of the check is so of the handle's
pub has_feed : (so : Checking → Type 0) (held : Held) (was : Option Held) (check : Box Checking) → held ≡ Feed check → Some held ≡ was → so check.value → HasFeed so was
has_feed so held was check is same it = subst (HasFeed so) same (subst (λ (h : Held). HasFeed so (Some h)) (sym is) it)

-- and what is so of the handle's is so of the check
pub feed_has : (so : Checking → Type 0) (held : Held) (was : Option Held) (check : Box Checking) → held ≡ Feed check → Some held ≡ was → HasFeed so was → so check.value
feed_has so held was check is same it = subst (λ (h : Held). HasFeed so (Some h)) is (subst (λ (o : Option Held). HasFeed so o) (sym same) it)
