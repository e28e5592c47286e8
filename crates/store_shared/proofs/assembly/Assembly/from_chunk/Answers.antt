use Rattle.std.proofs.Common.{ap, ◌∙◌, arith}
use Rattle.holders.specs.declared.fixed.Fixed.{Fixed}
use Rattle.store_core.specs.Knowledge.{opening_view}
use Rattle.store_shared.proofs.Claiming.{opening_claims}
use Rattle.store_shared.proofs.assembly.Assembly.from_chunk.Goals as goal

pub invariant_of-result : goal.invariant_of-result
invariant_of-result c =
    let fixed : Fixed = record { root = c.args.root; mode = c.args.mode; capacity = c.args.capacity; base = c.args.base } in
    opening_claims fixed c.in_ok-words.grip.view c.div_ceil.result c.in_ok-claims.claims.items
    (c.in_ok-words.ensures.view ∙ ap (λ (f : Fixed). opening_view f) c.in_ok-words.ensures.fixed) (omega (arith, c.div_ceil.ensures))
    (c.in_ok-claims.ensures.items_if_clones_equal (λ y h. h))
