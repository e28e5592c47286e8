use Rattle.std.proofs.Common.{◌≡◌, ◌∙◌, arith, refl, sym}
use Rattle.std_alloc.specs.Box.{with_value}
use Rattle.berylwool.specs.declared.owned.Held.TheVariants.{Hasher}
use Rattle.berylwool.proofs.hasher.bw_hasher_update.Goals as goal
use Rattle.berylwool.proofs.hasher.bw_hasher_update.Goals.{in-Ok, in-Err}

pub returns-clause-same : goal.returns-clause-same
returns-clause-same c = λ wrong.
    elim c.match-update.branch [
      | in-Ok w ↦ absurd (omega (arith, wrong, w.status-is))
      | in-Err w ↦
          let same : c.update.new.self ≡ c.in-Hasher.it.value = w.in-Err.ensures.unchanged ∙ c.deref_mut-2.ensures.value in
          let whole : with_value c.in-Hasher.it c.in-Hasher.it.value ≡ c.in-Hasher.it = refl in
          let is : c.in-Some.held.value ≡ Hasher c.in-Hasher.it = sym c.deref_mut.ensures.value ∙ c.in-Hasher.is in
          cc
    ]
