use Rattle.std.proofs.Common.{◌≡◌, ◌∙◌, arith, inl, inr, sym}
use Rattle.std.proofs.lemmas.Bool.{cases_eq}
use Rattle.berylwool.proofs.laws.node_at_determined.Goals as goal

pub returns-clause-node : goal.returns-clause-node
returns-clause-node c =
    let one = c.bw_node_at in
    let other = c.bw_node_at-2 in
    elim (cases_eq one.result 0) [
      | inl good ↦
          let also : other.result ≡ 0 = elim (cases_eq other.result 0) [
            | inl is ↦ is
            | inr wrong ↦ absurd (omega (arith, good, one.ensures.too_long.1 (other.ensures.too_long.0 (other.ensures.status wrong))))
          ] in
          one.ensures.node good ∙ sym (other.ensures.node also)
      | inr wrong ↦
          let also : other.result ≡ 201 = other.ensures.too_long.1 (one.ensures.too_long.0 (one.ensures.status wrong)) in
          one.ensures.same wrong ∙ c.requires ∙ sym (other.ensures.same (λ is. absurd (omega (arith, is, also))))
    ]
