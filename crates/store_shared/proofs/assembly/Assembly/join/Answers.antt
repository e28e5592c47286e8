use Rattle.std.proofs.Common.{List, ℕ, sym, subst, arith}
use Rattle.std.proofs.lemmas.List.{with_items_is}
use Rattle.store_shared.specs.Seats.{AreClaims}
use Rattle.store_shared.proofs.Claiming.{HaveBoth, claims_joined}
use Rattle.store_shared.proofs.assembly.Assembly.join.Goals as goal

pub invariant_of-result : goal.invariant_of-result
invariant_of-result c =
    let ours = c.first.inside.claims in
    let theirs = c.second.inside.claims in
    let both : List ℕ = c.put_masks.new.masks in
    let put : HaveBoth ours.items theirs.items both =
    subst (λ (xs : List ℕ). HaveBoth xs theirs.items both) c.as_mut_slice.ensures.value
    (subst (λ (ys : List ℕ). HaveBoth c.as_mut_slice.result.now ys both) c.as_slice.ensures.value
    (record { count = c.put_masks.ensures.count; bits = c.put_masks.ensures.bits })) in
    subst (λ (xs : List ℕ). AreClaims c.merge-grip.result.view xs)
    (sym (with_items_is ours both (omega (arith, c.put_masks.ensures.count, c.as_mut_slice.ensures.len))))
    (claims_joined c.first.inside.grip.view c.second.inside.grip.view c.merge-grip.result.view ours.items theirs.items both c.first.invariant c.second.invariant
    c.merge-grip.ensures.merged put)
